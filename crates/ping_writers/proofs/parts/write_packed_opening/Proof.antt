-- `ping_writers::parts::write_packed_opening` meets its contract: the opening, then the number of samples. Assumes nothing.
use borrow.Author.Rules.{rules}
use Rattle.ping_writers.proofs.parts.write_packed_opening.Statement.{statement}
use Rattle.ping_writers.proofs.parts.write_packed_opening.Tie as tie

returns : tie.Need-returns
returns c =
    let count = c.before.before in
    let opening = count.before.before.before.before in
    rw (count.store4.ensures, opening.write_opening.ensures)

pub write_packed_opening_spec : {M : Type 1} → statement M
write_packed_opening_spec =
    tie.close
    (tie.spec
    (λ c κs. search rules)
    (λ c. search rules)
    (λ c κs. search rules)
    (λ c. search rules)
    returns)
