-- `samples::run_length` meets its contract. Assumes nothing.
use Rattle.std.proofs.Common.{refl}
use Rattle.samples.specs.Runs.{run_length}
use Rattle.samples.proofs.run_length.Goals as goal

pub returns : goal.returns
unfolding run_length
returns c = refl
