-- `intake::sounder_at` meets its contract: the numbers are read where the contract says. Assumes nothing.
use borrow.Author.Rules.{rules}
use Rattle.intake.proofs.sounder_at.Statement.{statement}
use Rattle.intake.proofs.sounder_at.Tie as tie

returns : tie.Need-returns
returns c = rw (c.read4.ensures, c.read2.ensures)

pub sounder_at_spec : {M : Type 1} → statement M
sounder_at_spec =
    tie.close
    (tie.spec
    (λ c. search rules)
    (λ c κs. search rules)
    (λ c. search rules)
    (λ c κs. search rules)
    returns)
