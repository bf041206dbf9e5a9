-- The pairs from this one on are still to be handed over. Assumes nothing.
use Rattle.layout.specs.Families.{wide}
use Rattle.samples.specs.Words.{all_samples, sample_of}
use Rattle.samples.proofs.Handing.{Handing}
use Rattle.samples.proofs.Chunks.{samples_on}
use Rattle.samples.proofs.read_pairs.Given as goal

abbrev pub invariant-loop-i : goal.invariant-loop-i
invariant-loop-i l = Handing 4 (all_samples wide l.msb l.part) (samples_on (sample_of wide l.msb) l.pairs l.i) l.fn.numbers l.fn.values l.numbers l.values l.i
