-- `tuples::open_ping` meets its contract: what is found, asked for by its type. Assumes nothing.
use Rattle.std.proofs.Common.{sym}
use Rattle.layout.specs.Types.{is_ping}
use Rattle.tuples.proofs.open_ping.Goals as goal

pub returns : goal.returns
returns c = c.open_found.ensures is_ping (sym c.is_ping.ensures)
