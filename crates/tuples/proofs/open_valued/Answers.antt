-- `tuples::open_valued` meets its contract: what is found, asked for by its type. Assumes nothing.
use Rattle.std.proofs.Common.{sym}
use Rattle.tuples.specs.Readers.{is_valued}
use Rattle.tuples.proofs.open_valued.Goals as goal

pub returns : goal.returns
returns c = c.open_found.ensures is_valued (sym c.is_valued.ensures)
