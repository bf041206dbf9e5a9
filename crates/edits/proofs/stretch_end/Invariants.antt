-- Kept tuples up to the next that isn't.
use Rattle.std.proofs.Common.{◌≡◌}
use Rattle.edits.proofs.Stretches.{Stretching}
use Rattle.edits.proofs.stretch_end.Given as goal

abbrev pub invariant-loop-tuple : goal.invariant-loop-tuple
invariant-loop-tuple l =
    (goal.iterator-loop-tuple).can_next l.tuple-iterator
    × (goal.iterator-loop-tuple).is_finite l.tuple-iterator
    × (l.tuple-iterator.part.now ≡ l.part)
    × (l.tuple-iterator.msb ≡ l.msb)
    × Stretching l.msb l.part l.from l.tuple-iterator.at
