-- Made from views/records.txt by views/make.
-- `threshold::Threshold::write` meets its contract: the numbers of the record, written. Assumes nothing.
use Rattle.std.proofs.Common.{refl, []}
use Rattle.layout.specs.Types.{listings, among, listing_of}
use Rattle.tuples.specs.Readers.{row_of}
use Rattle.rows.specs.Integers.{patterns}
use Rattle.rows.proofs.Views.{only-room}
use Rattle.threshold.specs.Threshold.{threshold_integers}
use Rattle.threshold.proofs.Threshold.write.Goals as goal

pub returns : goal.returns
unfolding listing_of among listings
returns c =
    let a = c.args in
    only-room 10100 a.msb (patterns (row_of 10100 0) (threshold_integers a.self)) [] refl refl refl refl
    (rw c.numbers.ensures at c.write_row.ensures)
