-- Made from views/records.txt by views/make.
-- `run_end::RunEnd::write` meets its contract: the numbers of the record, written. Assumes nothing.
use Rattle.std.proofs.Common.{refl, []}
use Rattle.layout.specs.Types.{listings, among, listing_of}
use Rattle.tuples.specs.Readers.{row_of}
use Rattle.rows.specs.Integers.{patterns}
use Rattle.rows.proofs.Views.{only-room}
use Rattle.run_end.specs.RunEnd.{run_end_integers}
use Rattle.run_end.proofs.RunEnd.write.Goals as goal

pub returns : goal.returns
unfolding listing_of among listings
returns c =
    let a = c.args in
    only-room 65517 a.msb (patterns (row_of 65517 0) (run_end_integers a.self)) [] refl refl refl refl
    (rw c.numbers.ensures at c.write_row.ensures)
