-- `frame::open_frame` meets its contract: size and type, one behind the other. Assumes nothing.
use borrow.Author.Rules.{rules}
use Rattle.frame.proofs.Framing.{open_stored}
use Rattle.frame.proofs.open_frame.Statement.{statement}
use Rattle.frame.proofs.open_frame.Tie as tie

returns : tie.Need-returns
returns c =
    let type = c.before.before in
    let size = type.before.before.before.before in
    let a = size.args in
    rw (type.store2.ensures, size.store4.ensures) (open_stored a.msb a.out.now a.to a.whole a.code)

pub open_frame_spec : {M : Type 1} → statement M
open_frame_spec =
    tie.close
    (tie.spec
    (λ c. search rules)
    (λ c. search rules)
    (λ c κs. search rules)
    (λ c. search rules)
    (λ c κs. search rules)
    (λ c. search rules)
    returns)
