-- The words before this one are good. Assumes nothing.
use Rattle.std.proofs.Common.{◌≡◌, ◌+◌, drop}
use Rattle.samples.specs.inner.Narrow.{words_by}
use Rattle.samples.proofs.Chunks.{good_ones}
use Rattle.samples16.proofs.find_bad.Given as goal

abbrev pub invariant-loop-i : goal.invariant-loop-i
invariant-loop-i l = good_ones (words_by l.encoded) l.msb l.words ≡ l.i + good_ones (words_by l.encoded) l.msb (drop l.i l.words)
