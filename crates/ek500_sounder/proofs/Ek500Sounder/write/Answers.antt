-- Made from views/records.txt by views/make.
-- `ek500_sounder::Ek500Sounder::write` meets its contract: the numbers of the record, written. Assumes nothing.
use Rattle.ek500_sounder.proofs.Ek500Sounder.write.Goals as goal

pub returns : goal.returns
returns c = rw c.numbers.ensures at c.write_row.ensures
