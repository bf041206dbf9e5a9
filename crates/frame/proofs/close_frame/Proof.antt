-- `frame::close_frame` meets its contract: attribute and backlink, one behind the other. Assumes nothing.
use borrow.Author.Rules.{rules}
use Rattle.frame.proofs.Framing.{close_stored}
use Rattle.frame.proofs.close_frame.Statement.{statement}
use Rattle.frame.proofs.close_frame.Tie as tie

returns : tie.Need-returns
returns c =
    let back = c.before.before in
    let attribute = back.before.before.before.before in
    let a = attribute.args in
    rw (back.store4-2.ensures, attribute.store4.ensures) (close_stored a.msb a.out.now a.to a.whole a.attribute)

pub close_frame_spec : {M : Type 1} → statement M
close_frame_spec =
    tie.close
    (tie.spec
    (λ c κs. search rules)
    (λ c. search rules)
    (λ c. search rules)
    (λ c. search rules)
    (λ c κs. search rules)
    (λ c. search rules)
    returns)
