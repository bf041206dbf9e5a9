-- With what is left of the part, the check is the same, stretch by stretch (`Judging`). Assumes nothing.
use Rattle.std.proofs.Common.{length, ◌-◌}
use Rattle.intake.specs.inner.Tallies.{tables}
use Rattle.edits.proofs.Judging.{Judging}
use Rattle.edits.proofs.judge_part.Given as goal

abbrev pub invariant-loop-at : goal.invariant-loop-at
invariant-loop-at l =
    Judging l.msb l.total l.part l.fn.from (tables l.fn.sounders l.fn.channels) l.at l.w (tables l.sounders l.channels)

abbrev pub decreases-loop-at : goal.decreases-loop-at
decreases-loop-at l = length l.part - l.at
