-- `readings::page_at` meets its contract: what `readings` leaves in a page of silence is shown. Assumes nothing.
use borrow.Author.Rules.{rules}
use Rattle.readings.proofs.Doubles.{nought}
use Rattle.readings.proofs.Handing.{page_told}
use Rattle.readings.proofs.page_at.Statement.{statement}
use Rattle.readings.proofs.page_at.Tie as tie

returns : tie.Need-returns
returns c = page_told _ _ _ (rw nought at c.readings-answer.ensures) c.show_all.ensures

pub page_at_spec : {M : Type 1} → statement M
page_at_spec =
    tie.close
    (tie.spec
    (λ c. search rules)
    (λ c. search rules)
    (λ c κs. search rules)
    (λ c κs. search rules)
    returns)
