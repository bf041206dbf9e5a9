-- The numbers before this one rise. Assumes nothing.
use Rattle.std.proofs.Common.{◌≡◌, ◌+◌}
use Rattle.samples.specs.Words.{sample_of}
use Rattle.samples.specs.Judging.{first_drop}
use Rattle.samples.proofs.Chunks.{samples_on}
use Rattle.samples16.specs.inner.Sizes.{plain_of}
use Rattle.samples16.proofs.find_drop_of.Given as goal

abbrev pub invariant-loop-i : goal.invariant-loop-i
invariant-loop-i g l =
    first_drop 0 (samples_on (sample_of (plain_of g.row.N) l.msb) l.samples 0)
    ≡ l.i + first_drop l.least (samples_on (sample_of (plain_of g.row.N) l.msb) l.samples l.i)
