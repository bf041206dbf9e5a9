-- The tuples to come, copied behind those copied, are the whole.
use Rattle.std.proofs.Common.{◌≡◌}
use Rattle.edits.proofs.Keeping.{Copying}
use Rattle.edits.proofs.copy_kept.Given as goal

abbrev pub invariant-loop-tuple : goal.invariant-loop-tuple
invariant-loop-tuple l =
    (goal.iterator-loop-tuple).can_next l.tuple-iterator
    × (goal.iterator-loop-tuple).is_finite l.tuple-iterator
    × (l.tuple-iterator.part.now ≡ l.part)
    × (l.tuple-iterator.msb ≡ l.msb)
    × Copying l.msb l.part l.initial.out l.to l.next l.tuple-iterator.at l.out
