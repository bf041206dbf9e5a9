-- Made from views/records.txt by views/make.
-- `position::Position::write` meets its contract: the numbers of the record, written. Assumes nothing.
use Rattle.std.proofs.Common.{refl, []}
use Rattle.layout.specs.Types.{listings, among, listing_of}
use Rattle.tuples.specs.Readers.{row_of}
use Rattle.rows.specs.Integers.{patterns}
use Rattle.rows.proofs.Views.{only-room}
use Rattle.position.specs.Position.{position_integers}
use Rattle.position.proofs.Position.write.Goals as goal

pub returns : goal.returns
unfolding listing_of among listings
returns c =
    let a = c.args in
    only-room 20 a.msb (patterns (row_of 20 0) (position_integers a.self)) [] refl refl refl refl
    (rw c.numbers.ensures at c.write_row.ensures)
