-- `intake::named_at` meets its contract: the channel is read where the contract says. Assumes nothing.
use borrow.Author.Rules.{rules}
use Rattle.intake.proofs.named_at.Statement.{statement}
use Rattle.intake.proofs.named_at.Tie as tie

returns : tie.Need-returns
returns c = rw c.read2.ensures

pub named_at_spec : {M : Type 1} → statement M
named_at_spec = tie.close (tie.spec
    (λ c. search rules)
    (λ c κs. search rules)
    returns)
