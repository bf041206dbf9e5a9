-- Made from views/records.txt by views/make.
-- `signature::Signature::write` meets its contract: the numbers of the record, written. Assumes nothing.
use Rattle.std.proofs.Common.{refl, []}
use Rattle.layout.specs.Types.{listings, among, listing_of}
use Rattle.tuples.specs.Readers.{row_of}
use Rattle.rows.specs.Integers.{patterns}
use Rattle.rows.proofs.Views.{only-room}
use Rattle.signature.specs.Signature.{signature_integers}
use Rattle.signature.proofs.Signature.write.Goals as goal

pub returns : goal.returns
unfolding listing_of among listings
returns c =
    let a = c.args in
    only-room 65535 a.msb (patterns (row_of 65535 0) (signature_integers a.self)) [] refl refl refl refl
    (rw c.numbers.ensures at c.write_row.ensures)
