-- The samples from this one on are still to be handed over. Assumes nothing.
use Rattle.samples.specs.Words.{all_samples, sample_of}
use Rattle.samples.proofs.Chunks.{samples_on}
use Rattle.samples16.specs.inner.Sizes.{angles_of}
use Rattle.samples16.proofs.Angled.{Angled}
use Rattle.samples16.proofs.angles.read.Given as goal

abbrev pub invariant-loop-i : goal.invariant-loop-i
invariant-loop-i g l =
    Angled (all_samples (angles_of g.row.N) l.msb l.part) (samples_on (sample_of (angles_of g.row.N) l.msb) l.samples l.i)
    l.fn.numbers l.fn.alongship l.fn.athwartship l.numbers l.alongship l.athwartship l.i
