-- Made from views/records.txt by views/make.
-- `position::Position::read` meets its contract: the reader's refusal, or the record of the numbers that were read. Assumes
-- nothing.
use Rattle.std.proofs.Common.{refl, ap, ◌∙◌}
use Rattle.std.proofs.lemmas.Result.{err_from_is_err_and}
use Rattle.order.proofs.Laws.{bytes_of_lem}
use Rattle.layout.specs.Answer.{Answer}
use Rattle.layout.specs.Answers.{tells}
use Rattle.layout.specs.Types.{listings, among, listing_of}
use Rattle.rows.specs.Integers.{row_integers}
use Rattle.rows.proofs.Views.{view_refused, view_accepted, view_integers}
use Rattle.position.specs.PositionRead.{Read}
use Rattle.position.specs.Position.{position_of, answered}
use Rattle.position.proofs.Position.read.Goals as goal

pub returns-in_err-read_row : goal.returns-in_err-read_row
unfolding listing_of among listings
returns-in_err-read_row c =
    let a = c.args in
    let there = position_of (row_integers 20 a.file.now a.place) in
    let p = err_from_is_err_and c.from_residual.result c.from_residual.ensures.1 in
    let e = view_refused 20 refl refl (rw c.in_err-read_row.was at c.read_row.ensures) in
    rw (p.1, p.2) (record { answer = tells e; outcome = ap (λ (x : Answer). answered x there) e })

pub returns : goal.returns
unfolding listing_of among listings
returns c =
    let a = c.args in
    let there = position_of (row_integers 20 a.file.now a.place) in
    let r = rw c.in_ok-read_row.was at c.read_row.ensures in
    let e = view_accepted 20 refl refl r in
    let bytes = bytes_of_lem a.file.now (λ i. (c.type_inv.file i).fits) in
    let fields = c.of.ensures ∙ ap position_of (view_integers 20 refl refl r bytes) in
    record { answer = tells e; outcome = ap Read fields ∙ ap (λ (x : Answer). answered x there) e }
