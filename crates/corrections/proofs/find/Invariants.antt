-- The first wanted ping of the tuples that are left is the first of all.
use Rattle.std.proofs.Common.{◌≡◌}
use Rattle.corrections.proofs.Wanted.{Seeking}
use Rattle.corrections.proofs.find.Given as goal

abbrev pub invariant-loop-tuple : goal.invariant-loop-tuple
invariant-loop-tuple l =
    (goal.iterator-loop-tuple).can_next l.tuple-iterator
    × (goal.iterator-loop-tuple).is_finite l.tuple-iterator
    × (l.tuple-iterator.file.now ≡ l.file)
    × (l.tuple-iterator.msb ≡ l.msb)
    × Seeking l.edited l.channel l.number l.msb l.file l.tuple-iterator.at
