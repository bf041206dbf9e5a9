-- The pieces to come, measured with what was measured, are the whole (`Measuring`); the iterator stands at the open range's end.
use Rattle.frame.specs.Files.{is_msb}
use Rattle.salvage.proofs.Measures.{Measuring}
use Rattle.salvage.proofs.Onward.{Stands}
use Rattle.salvage.proofs.measure_file.Given as goal

abbrev pub invariant-loop-next : goal.invariant-loop-next
invariant-loop-next l =
    (goal.iterator-loop-next).can_next l.next-iterator
    × (goal.iterator-loop-next).is_finite l.next-iterator
    × Stands l.next-iterator l.file (is_msb l.file) l.range.to
    × Measuring l.file (is_msb l.file) l.range l.measured
