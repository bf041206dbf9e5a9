-- The one among the pings to come is the one among all.
use Rattle.std.proofs.Common.{◌≡◌}
use Rattle.linked.proofs.Finding.{Seeking}
use Rattle.linked.proofs.find_with.Given as goal

abbrev pub invariant-loop-tuple : goal.invariant-loop-tuple
invariant-loop-tuple l =
    (goal.iterator-loop-tuple).can_next l.tuple-iterator
    × (goal.iterator-loop-tuple).is_finite l.tuple-iterator
    × (l.tuple-iterator.file.now ≡ l.file)
    × (l.tuple-iterator.msb ≡ l.msb)
    × Seeking l.file l.msb l.place l.tuple-iterator.at l.used l.rows
