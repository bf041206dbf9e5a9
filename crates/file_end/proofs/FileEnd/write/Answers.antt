-- Made from views/records.txt by views/make.
-- `file_end::FileEnd::write` meets its contract: the numbers of the record, written. Assumes nothing.
use Rattle.std.proofs.Common.{refl, [], ◌∷◌}
use Rattle.layout.specs.Types.{listings, among, listing_of}
use Rattle.tuples.specs.Readers.{row_of}
use Rattle.rows.specs.Integers.{patterns}
use Rattle.rows.proofs.Views.{only-room}
use Rattle.file_end.specs.FileEnd.{file_end_integers}
use Rattle.file_end.proofs.FileEnd.write.Goals as goal

pub returns : goal.returns
unfolding listing_of among listings
returns c =
    let a = c.args in
    only-room 65534 a.msb (patterns (row_of 65534 0) (file_end_integers a.self)) (0 ∷ 0 ∷ []) refl refl refl refl
    (rw c.numbers.ensures at c.write_row.ensures)
