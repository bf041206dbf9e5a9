-- The words before this one are good. Assumes nothing.
use Rattle.std.proofs.Common.{◌≡◌, ◌+◌, drop}
use Rattle.layout.specs.Families.{wide}
use Rattle.samples.proofs.Chunks.{good_ones}
use Rattle.samples.proofs.find_bad.Given as goal

abbrev pub invariant-loop-i : goal.invariant-loop-i
invariant-loop-i l = good_ones wide l.msb l.words ≡ l.i + good_ones wide l.msb (drop l.i l.words)
