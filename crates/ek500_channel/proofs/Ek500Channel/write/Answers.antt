-- Made from views/records.txt by views/make.
-- `ek500_channel::Ek500Channel::write` meets its contract: the numbers of the record, written. Assumes nothing.
use Rattle.ek500_channel.proofs.Ek500Channel.write.Goals as goal

pub returns : goal.returns
returns c = rw c.numbers.ensures at c.write_row.ensures
