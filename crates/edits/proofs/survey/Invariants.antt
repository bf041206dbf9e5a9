-- What is found and the tuples to come are the whole.
use Rattle.std.proofs.Common.{◌≡◌}
use Rattle.edits.proofs.Keeping.{Surveying}
use Rattle.edits.proofs.survey.Given as goal

abbrev pub invariant-loop-tuple : goal.invariant-loop-tuple
invariant-loop-tuple l =
    (goal.iterator-loop-tuple).can_next l.tuple-iterator
    × (goal.iterator-loop-tuple).is_finite l.tuple-iterator
    × (l.tuple-iterator.part.now ≡ l.part)
    × (l.tuple-iterator.msb ≡ l.msb)
    × Surveying l.msb l.part l.initial.flags l.kept l.tuple-iterator.at l.flags
    × (l.end ≡ l.tuple-iterator.at)
