-- The tuples that are left, measured and flagged with what was, are the whole.
use Rattle.std.proofs.Common.{◌≡◌}
use Rattle.normal.proofs.Measures.{Measuring}
use Rattle.normal.proofs.measure_forms.Given as goal

abbrev pub invariant-loop-tuple : goal.invariant-loop-tuple
invariant-loop-tuple l =
    (goal.iterator-loop-tuple).can_next l.tuple-iterator
    × (goal.iterator-loop-tuple).is_finite l.tuple-iterator
    × (l.tuple-iterator.file.now ≡ l.file)
    × (l.tuple-iterator.msb ≡ l.msb)
    × Measuring l.file l.msb l.tuple-iterator.at l.m l.flags
