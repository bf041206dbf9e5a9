-- `linear::linear_below` meets its contract: the value looked up. Assumes nothing.
use Rattle.linear.proofs.Values.{looked-up}
use Rattle.linear.proofs.linear_below.Goals as goal

pub returns : goal.returns
returns c = looked-up c.args.depth c.requires.0 c.requires.1
