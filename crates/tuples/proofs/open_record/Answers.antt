-- `tuples::open_record` meets its contract: what is found, asked for by its type. Assumes nothing.
use Rattle.std.proofs.Common.{sym}
use Rattle.tuples.specs.Readers.{records_of}
use Rattle.tuples.proofs.open_record.Goals as goal

pub returns : goal.returns
returns c = c.open_found.ensures (records_of c.args.asked) (sym c.asks_record.ensures)
