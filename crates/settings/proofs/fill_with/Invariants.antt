-- The rows told and those to come are all, and the tables hold what governs.
use Rattle.std.proofs.Common.{◌≡◌}
use Rattle.settings.proofs.Fills.{slices, Filling}
use Rattle.settings.proofs.fill_with.Given as goal

abbrev pub invariant-loop-tuple : goal.invariant-loop-tuple
invariant-loop-tuple l =
    (goal.iterator-loop-tuple).can_next l.tuple-iterator
    × (goal.iterator-loop-tuple).is_finite l.tuple-iterator
    × (l.tuple-iterator.file.now ≡ l.file)
    × (l.tuple-iterator.msb ≡ l.msb)
    × Filling l.file (slices l.fn.pings l.fn.thresholds l.fn.attitudes) l.msb l.tuple-iterator.at l.h l.row l.rows l.lines
    (slices l.pings l.thresholds l.attitudes)
