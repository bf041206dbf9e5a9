-- `tuples::write_tuple` meets its contract: 19, or the tuple written. Assumes nothing.
use mathlib.Core.Path.{◌≡◌, ap, ◌∙◌}
use mathlib.Core.List.{List}
use borrow.Author.Rules.{rules}
use mir.Syntax.{w32}
use mir.Facts.{to_z-of_z}
use lib.IntN.{ℤ}
use lib.ListN.{length}
use lib.Seq.{sets}
use Prim.Native.Nat.{ℕ}
use Rattle.layout.specs.Views.{as_answer}
use Rattle.order.specs.Order.{pattern_of}
use Rattle.layout.specs.Types.{shape_of}
use Rattle.tuples.specs.Writers.{plain_bytes}
use Rattle.tuples.specs.inner.Framing.{handed_values}
use Rattle.tuples.proofs.Writing.{length-plain, no_room, with_room}
use Rattle.tuples.proofs.write_tuple.Statement.{statement}
use Rattle.tuples.proofs.write_tuple.Tie as tie

-- the bytes that are to be written, and how many they are
abbrev bytes : tie.Start → List ℕ
bytes d = let a = d.args in
    plain_bytes a.msb a.code
    (handed_values (shape_of a.code) a.numbers.now a.remark.now a.behind.now (pattern_of 4 a.attribute))

many : (d : tie.Start) → length (bytes d) ≡ d.args.whole
many d = let a = d.args in
    length-plain a.msb a.numbers.now a.remark.now a.behind.now a.whole (pattern_of 4 a.attribute) a.code d.requires

returns : tie.Need-returns-then-out-whole
returns c =
    let short = c.before in
    let d = short.before.before.before.before.before in
    rw c.refuse.ensures (no_room (bytes d) d.args.out.now d.args.whole (many d) short.if-out-whole.true)

returns-2 : tie.Need-returns
returns-2 c =
    let put = c.before.before.before in
    let fits = put.before.before in
    let d = fits.before.before.before.before.before in
    let a = d.args in
    rw c.accept.ensures
    (with_room (bytes d) a.out.now a.whole (many d) fits.if-out-whole.false _
    (put.put_tuple.ensures
    ∙ ap (λ (z : ℤ). sets a.out.now 0
    (plain_bytes a.msb a.code
    (handed_values (shape_of a.code) a.numbers.now a.remark.now a.behind.now (pattern_of 4 z))))
    (to_z-of_z {w = w32} {z = a.attribute} d.ranges.attribute)))

pub write_tuple_spec : {M : Type 1} → statement M
write_tuple_spec =
    tie.close (tie.spec
    (λ c κs. search rules)
    returns
    (λ c κs. search rules)
    (λ c κs. search rules)
    (λ c. search rules)
    returns-2)
