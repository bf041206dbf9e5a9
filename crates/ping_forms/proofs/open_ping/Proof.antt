-- `ping_forms::open_ping` meets its contract: size and type, and the fields of every ping's header behind them. Assumes nothing.
use mathlib.Core.Path.{ap}
use Prim.Native.Nat.{◌+◌}
use native.Mathlib.Omega.{arith}
use borrow.Author.Rules.{rules}
use lib.ListN.{drop}
use Rattle.layout.specs.Fields.{size}
use Rattle.ping_forms.proofs.Turned.{header-fields, header-stored}
use Rattle.ping_forms.proofs.open_ping.Statement.{statement}
use Rattle.ping_forms.proofs.open_ping.Tie as tie

turn-row-requires : tie.Need-turn_row-requires
turn-row-requires c κs =
    let e = ap size (header-fields c.row.ensures) in
    (omega (arith, e), omega (arith, e))

returns : tie.Need-returns
returns c =
    let fields = c.before.before in
    let row = fields.before.before.before.before in
    let front = row.before.before.before in
    let a = front.args in
    header-stored row.row.ensures a.msb (drop (a.at + 6) a.file.now) a.out.now _ a.to a.bytes a.code
    (rw (fields.turn_row.ensures, front.open_frame.ensures))

pub open_ping_spec : {M : Type 1} → statement M
open_ping_spec =
    tie.close
    (tie.spec
    (λ c κs. search rules)
    (λ c. search rules)
    (λ c κs. search rules)
    (λ c. search rules)
    (λ c. search rules)
    (λ c. search rules)
    (λ c. search rules)
    (λ c. search rules)
    turn-row-requires
    (λ c. search rules)
    returns)
