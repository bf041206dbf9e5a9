-- `ping_writers::parts::write_space` meets its contract: two bytes of zero, or none. Assumes nothing.
use mathlib.Core.Path.{◌≡◌}
use Prim.Native.Nat.{◌-◌}
use native.Mathlib.Omega.{arith}
use borrow.Author.Rules.{rules}
use Rattle.ping_writers.proofs.Storing.{two-zeros}
use Rattle.ping_writers.proofs.parts.write_space.Statement.{statement}
use Rattle.ping_writers.proofs.parts.write_space.Tie as tie

returns : tie.Need-returns-then-end-until
returns c =
    let a = c.args in
    let none : a.until - a.end ≡ 0 = omega (arith, c.if-end-until.true) in
    rw none

returns-2 : tie.Need-returns
returns-2 c =
    let put = c.before.before in
    let some = put.before.before in
    let start = some.before.before in
    let a = start.args in
    let two : a.until - a.end ≡ 2 = omega (arith, some.if-end-until.false, start.requires) in
    rw (put.store2.ensures, two, two-zeros a.msb)

pub write_space_spec : {M : Type 1} → statement M
write_space_spec = tie.close (tie.spec
    returns
    (λ c κs. search rules)
    (λ c. search rules)
    returns-2)
