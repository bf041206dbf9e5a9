-- Whether one has dropped, or drops from here on, is whether one drops at all. Assumes nothing.
use Rattle.std.proofs.Common.{◌≡◌, ◌+◌, ◌*◌, ◌/◌, ◌||◌, length}
use Rattle.std.specs.Simd.{first_chunks}
use Rattle.layout.specs.Families.{narrow_angles}
use Rattle.samples.specs.Words.{all_samples}
use Rattle.samples.specs.Judging.{dropping}
use Rattle.samples.proofs.Judging.{any_drop}
use Rattle.samples.proofs.Chunks.{samples_on}
use Rattle.samples16.proofs.Ranks.{ranked}
use Rattle.samples16.proofs.drops_triples.Given as goal

abbrev pub invariant-loop-four : goal.invariant-loop-four
invariant-loop-four l =
    (l.bad || any_drop (l.last + 1) (samples_on (ranked l.msb) (first_chunks 6 (length l.part / 6) l.part) (1 + 4 * l.four-index)))
    ≡ dropping (all_samples narrow_angles l.msb l.part)

abbrev pub invariant-loop-triple : goal.invariant-loop-triple
invariant-loop-triple l =
    (l.bad || any_drop (l.last + 1) (samples_on (ranked l.msb) l.few l.triple-index)) ≡ dropping (all_samples narrow_angles l.msb l.part)
