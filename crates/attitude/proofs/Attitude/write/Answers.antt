-- Made from views/records.txt by views/make.
-- `attitude::Attitude::write` meets its contract: the numbers of the record, written. Assumes nothing.
use Rattle.std.proofs.Common.{refl, []}
use Rattle.layout.specs.Types.{listings, among, listing_of}
use Rattle.tuples.specs.Readers.{row_of}
use Rattle.rows.specs.Integers.{patterns}
use Rattle.rows.proofs.Views.{only-room}
use Rattle.attitude.specs.Attitude.{attitude_integers}
use Rattle.attitude.proofs.Attitude.write.Goals as goal

pub returns : goal.returns
unfolding listing_of among listings
returns c =
    let a = c.args in
    only-room 40 a.msb (patterns (row_of 40 0) (attitude_integers a.self)) [] refl refl refl refl
    (rw c.numbers.ensures at c.write_row.ensures)
