-- The radix that the code reads is the words' own.
use Rattle.std.proofs.Common.{ap, ℕ, ◌+◌, ◌%◌}
use Rattle.samples.specs.Runs.{run_length}
use Rattle.spelling.proofs.words.run_length.Goals as goal

pub returns-clause-value : goal.returns-clause-value
unfolding run_length
returns-clause-value g c = ap (λ (n : ℕ). c.args.word % n + 1) c.FULL.ensures
