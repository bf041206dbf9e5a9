-- Between tuples, and within the file.
use Rattle.std.proofs.Common.{◌≡◌, ◌≤◌, length}
use Rattle.edits.specs.inner.Places.{Between}
use Rattle.edits.proofs.find_place.Given as goal

abbrev pub invariant-loop-tuple : goal.invariant-loop-tuple
invariant-loop-tuple l =
    (goal.iterator-loop-tuple).can_next l.tuple-iterator
    × (goal.iterator-loop-tuple).is_finite l.tuple-iterator
    × (l.tuple-iterator.file.now ≡ l.file)
    × (l.tuple-iterator.msb ≡ l.msb)
    × (l.tuple-iterator.at ≤ length l.file)
    × Between l.file l.place l.tuple-iterator.at
