-- `samples::is_run` meets its contract. Assumes nothing.
use Rattle.samples.proofs.Leading.{leading_ones}
use Rattle.samples.proofs.is_run.Goals as goal

pub returns : goal.returns
returns c = leading_ones 16 c.args.word c.ranges.word.fits
