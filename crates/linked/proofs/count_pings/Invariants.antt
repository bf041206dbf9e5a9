-- The pings counted and those to come are all.
use Rattle.std.proofs.Common.{◌≡◌}
use Rattle.linked.proofs.Finding.{Counting}
use Rattle.linked.proofs.count_pings.Given as goal

abbrev pub invariant-loop-tuple : goal.invariant-loop-tuple
invariant-loop-tuple l =
    (goal.iterator-loop-tuple).can_next l.tuple-iterator
    × (goal.iterator-loop-tuple).is_finite l.tuple-iterator
    × (l.tuple-iterator.file.now ≡ l.file)
    × (l.tuple-iterator.msb ≡ l.msb)
    × Counting l.file l.msb l.tuple-iterator.at l.n
