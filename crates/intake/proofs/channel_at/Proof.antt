-- `intake::channel_at` meets its contract: the numbers are read where the contract says. Assumes nothing.
use borrow.Author.Rules.{rules}
use Rattle.intake.proofs.channel_at.Statement.{statement}
use Rattle.intake.proofs.channel_at.Tie as tie

returns : tie.Need-returns
returns c =
    let r = c.before.before in
    rw (r.read2.ensures, r.read4.ensures, c.read4-2.ensures, c.read2-2.ensures)

pub channel_at_spec : {M : Type 1} → statement M
channel_at_spec =
    tie.close
    (tie.spec
    (λ c. search rules)
    (λ c κs. search rules)
    (λ c. search rules)
    (λ c κs. search rules)
    (λ c. search rules)
    (λ c κs. search rules)
    (λ c. search rules)
    (λ c κs. search rules)
    returns)
