-- `index::write_opening` meets its contract: size and type, time fraction, time, one behind the other. Assumes nothing.
use Rattle.std.proofs.Common.{ℕ, ◌+◌, List, ap, ◌∙◌}
use lib.Seq.{sets}
use Rattle.order.specs.Order.{bytes_of}
use Rattle.index.proofs.Writes.{opening-stored}
use Rattle.index.proofs.write_opening.Goals as goal

pub returns : goal.returns
returns c =
    let a = c.args in
    c.store4.ensures
    ∙ ap (λ (l : List ℕ). sets l (a.to + 6 + 2) (bytes_of a.msb 4 0))
    (c.store2.ensures ∙ ap (λ (l : List ℕ). sets l (a.to + 6) (bytes_of a.msb 2 0)) c.open_frame.ensures)
    ∙ opening-stored a.msb a.whole a.out.now a.to
