-- The pairs from this one on are still to be handed over. Assumes nothing.
use Rattle.layout.specs.Families.{narrow}
use Rattle.samples.specs.Words.{all_samples, sample_of}
use Rattle.samples.proofs.Handing.{Handing}
use Rattle.samples.proofs.Chunks.{samples_on}
use Rattle.samples16.proofs.read_samples.Given as goal

abbrev pub invariant-loop-i : goal.invariant-loop-i
invariant-loop-i l = Handing 2 (all_samples narrow l.msb l.part) (samples_on (sample_of narrow l.msb) l.pairs l.i) l.fn.numbers l.fn.values l.numbers l.values l.i
