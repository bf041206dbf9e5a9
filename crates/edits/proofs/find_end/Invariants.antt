-- With the tuples to come before the end of file, the place is theirs.
use Rattle.std.proofs.Common.{◌≡◌}
use Rattle.edits.proofs.Keeping.{Seeking}
use Rattle.edits.proofs.find_end.Given as goal

abbrev pub invariant-loop-tuple : goal.invariant-loop-tuple
invariant-loop-tuple l =
    (goal.iterator-loop-tuple).can_next l.tuple-iterator
    × (goal.iterator-loop-tuple).is_finite l.tuple-iterator
    × (l.tuple-iterator.part.now ≡ l.part)
    × (l.tuple-iterator.msb ≡ l.msb)
    × Seeking l.msb l.part l.tuple-iterator.at
    × (l.end ≡ l.tuple-iterator.at)
