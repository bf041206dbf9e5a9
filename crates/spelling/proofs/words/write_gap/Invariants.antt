-- The words of what is left of the gap are still to be written.
use Rattle.samples.specs.Runs.{gap}
use Rattle.spelling.proofs.Left.{Unwritten}
use Rattle.spelling.proofs.words.write_gap.Given as goal

abbrev pub invariant-loop-left : goal.invariant-loop-left
invariant-loop-left g l =
    Unwritten g.W.Words.WORD l.msb (gap g.W.Words.FULL l.quiet) (gap g.W.Words.FULL l.left) l.fn.out l.out l.at l.to

abbrev pub decreases-loop-left : goal.decreases-loop-left
decreases-loop-left g l = l.left
