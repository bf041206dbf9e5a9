-- `rows::read_row` meets its contract: the refusal of what opens the tuple, or its record. Assumes nothing.
use Rattle.std.proofs.lemmas.Result.{err_from_is_err_and}
use Rattle.rows.proofs.Reading.{unopened, opened_as}
use Rattle.rows.proofs.read_row.Goals as goal

pub returns-in_err-found : goal.returns-in_err-found
returns-in_err-found c =
    let a = c.args in
    let p = err_from_is_err_and c.from_residual.result c.from_residual.ensures.1 in
    rw (p.1, p.2) (unopened a.code a.file.now a.place a.numbers.now _ _ (rw c.in_err-found.was at c.open_record.ensures))

pub take_row-requires : goal.take_row-requires
take_row-requires c = opened_as (rw c.in_ok-found.was at c.open_record.ensures)
