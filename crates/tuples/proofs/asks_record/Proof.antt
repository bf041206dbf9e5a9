-- `tuples::asks_record` meets its contract: nothing is asked for by a type that is no record's. Assumes nothing.
use mathlib.Core.Path.{sym, ap, ◌∙◌}
use mathlib.Core.Bool.{Bool, ◌&&◌}
use borrow.Author.Rules.{rules}
use borrow.Author.Tests.{not-true, not-false}
use lib.Dec.{eqb}
use Rattle.tuples.proofs.asks_record.Statement.{statement}
use Rattle.tuples.proofs.asks_record.Tie as tie

returns : tie.Need-returns-then-not-is_record
returns c =
    let a = c.args in
    ap (λ (b : Bool). b && eqb a.code a.asked)
    (sym (not-true _ c.if-not-is_record.true-raw)
    ∙ c.is_record.ensures)

returns-2 : tie.Need-returns
returns-2 c =
    let a = c.args in
    ap (λ (b : Bool). b && eqb a.code a.asked)
    (sym (not-false _ c.if-not-is_record.false-raw)
    ∙ c.is_record.ensures)

pub asks_record_spec : {M : Type 1} → statement M
asks_record_spec = tie.close (tie.spec
    (λ c κs. search rules)
    returns
    returns-2)
