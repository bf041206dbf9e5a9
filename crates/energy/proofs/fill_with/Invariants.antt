-- The energies told and those to come are all.
use Rattle.std.proofs.Common.{◌≡◌}
use Rattle.energy.proofs.Fills.{slices, Filling}
use Rattle.energy.proofs.fill_with.Given as goal

abbrev pub invariant-loop-tuple : goal.invariant-loop-tuple
invariant-loop-tuple l =
    (goal.iterator-loop-tuple).can_next l.tuple-iterator
    × (goal.iterator-loop-tuple).is_finite l.tuple-iterator
    × (l.tuple-iterator.file.now ≡ l.file)
    × (l.tuple-iterator.msb ≡ l.msb)
    × Filling l.file (slices l.fn.places l.fn.energies l.fn.codes) l.msb l.tuple-iterator.at l.used l.row l.rows
    (slices l.places l.energies l.codes)
