-- `ping_writers::parts::write_opening` meets its contract: size, type and header, one behind the other. Assumes nothing.
use borrow.Author.Rules.{rules}
use Rattle.frame.proofs.Framing.{opening-stored}
use Rattle.ping_writers.proofs.parts.write_opening.Statement.{statement}
use Rattle.ping_writers.proofs.parts.write_opening.Tie as tie

returns : tie.Need-returns
returns c =
    let header = c.before.before in
    let opening = header.before.before.before.before in
    let a = opening.args in
    rw (header.write_header.ensures, opening.open_frame.ensures)
    (opening-stored a.msb a.out.now 0 a.whole a.code _)

pub write_opening_spec : {M : Type 1} → statement M
write_opening_spec = tie.close (tie.spec
    (λ c κs. search rules)
    (λ c κs. search rules)
    (λ c. search rules)
    returns)
