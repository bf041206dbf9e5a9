-- `tuples::open_angled` meets its contract: what is found, asked for by its type. Assumes nothing.
use Rattle.std.proofs.Common.{sym}
use Rattle.tuples.specs.Readers.{is_angled}
use Rattle.tuples.proofs.open_angled.Goals as goal

pub returns : goal.returns
returns c = c.open_found.ensures is_angled (sym c.is_angled.ensures)
