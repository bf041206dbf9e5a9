-- Made from views/records.txt by views/make.
-- `event::Event::write` meets its contract: the numbers of the record, written. Assumes nothing.
use Rattle.event.proofs.Event.write.Goals as goal

pub returns : goal.returns
returns c = rw c.numbers.ensures at c.write_row.ensures
