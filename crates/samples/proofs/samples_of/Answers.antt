-- `samples::samples_of` meets its contract. Assumes nothing.
use Rattle.std.proofs.Common.{rules}
use Rattle.samples.specs.inner.Runs.{samples_by}
use Rattle.samples.proofs.samples_of.Goals as goal

pub returns-then-is_run : goal.returns-then-is_run
unfolding samples_by
returns-then-is_run c = search rules

pub returns-else-is_run : goal.returns-else-is_run
unfolding samples_by
returns-else-is_run c = search rules
