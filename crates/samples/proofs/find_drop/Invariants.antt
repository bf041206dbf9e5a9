-- The numbers before this one rise. Assumes nothing.
use Rattle.std.proofs.Common.{◌≡◌, ◌+◌}
use Rattle.layout.specs.Families.{wide}
use Rattle.samples.specs.Judging.{first_drop}
use Rattle.samples.specs.Words.{sample_of}
use Rattle.samples.proofs.Chunks.{samples_on}
use Rattle.samples.proofs.find_drop.Given as goal

abbrev pub invariant-loop-i : goal.invariant-loop-i
invariant-loop-i l = first_drop 0 (samples_on (sample_of wide l.msb) l.pairs 0) ≡ l.i + first_drop l.least (samples_on (sample_of wide l.msb) l.pairs l.i)
