-- `ping_writers::judging::is_empty` meets its contract: where there is no length, there is no number. Assumes nothing.
use borrow.Author.Rules.{rules}
use mathlib.Core.Path.{refl, sym}
use lib.Dec.{eqb}
use Rattle.rules.proofs.Bools.{and_true, and_false}
use Rattle.ping_writers.proofs.judging.is_empty.Statement.{statement}
use Rattle.ping_writers.proofs.judging.is_empty.Tie as tie

returns : tie.Need-returns-in-None
returns c = rw (c.in-None.is, and_true)

returns-2 : tie.Need-returns-in-Some
returns-2 c = rw c.in-Some.is (sym (and_false (eqb c.args.n 0) refl))

pub is_empty_spec : {M : Type 1} → statement M
is_empty_spec = tie.close (tie.spec
    (λ c. search rules)
    (λ c. search rules)
    returns
    returns-2)
