-- Whether one has dropped, or drops from here on, is whether one drops at all. Assumes nothing.
use Rattle.std.proofs.Common.{◌≡◌, ◌+◌, ◌*◌, ◌/◌, ◌||◌, length}
use Rattle.std.specs.Simd.{first_chunks}
use Rattle.layout.specs.Families.{wide}
use Rattle.samples.specs.Words.{all_samples, sample_of}
use Rattle.samples.specs.Judging.{dropping}
use Rattle.samples.proofs.Judging.{any_drop}
use Rattle.samples.proofs.Chunks.{samples_on}
use Rattle.samples.proofs.drops.Given as goal

abbrev pub invariant-loop-four : goal.invariant-loop-four
invariant-loop-four l =
    (l.bad || any_drop (l.last + 1) (samples_on (sample_of wide l.msb) (first_chunks 8 (length l.part / 8) l.part) (1 + 4 * l.four-index)))
    ≡ dropping (all_samples wide l.msb l.part)

abbrev pub invariant-loop-pair : goal.invariant-loop-pair
invariant-loop-pair l =
    (l.bad || any_drop (l.last + 1) (samples_on (sample_of wide l.msb) l.few l.pair-index)) ≡ dropping (all_samples wide l.msb l.part)
