-- Whether one has dropped, or drops from here on, is whether one drops at all. Assumes nothing.
use Rattle.std.proofs.Common.{◌≡◌, ◌+◌, ◌/◌, ◌||◌, length}
use Rattle.std.specs.Simd.{first_chunks}
use Rattle.layout.specs.Families.{narrow}
use Rattle.samples.specs.Words.{all_samples}
use Rattle.samples.specs.Judging.{dropping}
use Rattle.samples.proofs.Judging.{any_drop}
use Rattle.samples.proofs.Chunks.{samples_on}
use Rattle.samples16.proofs.Ranks.{ranked}
use Rattle.samples16.proofs.drops_pairs.Given as goal

abbrev pub invariant-loop-pair : goal.invariant-loop-pair
invariant-loop-pair l =
    (l.bad || any_drop (l.last + 1) (samples_on (ranked l.msb) (first_chunks 4 (length l.part / 4) l.part) (1 + l.pair-index)))
    ≡ dropping (all_samples narrow l.msb l.part)
