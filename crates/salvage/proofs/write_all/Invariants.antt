-- With the pieces to come, the output and the table are the whole (`Writing`); the iterator stands at the open range's end.
use Rattle.frame.specs.Files.{is_msb}
use Rattle.salvage.proofs.Writes.{Writing}
use Rattle.salvage.proofs.Onward.{Stands}
use Rattle.salvage.proofs.write_all.Given as goal

abbrev pub invariant-loop-next : goal.invariant-loop-next
invariant-loop-next l =
    (goal.iterator-loop-next).can_next l.next-iterator
    × (goal.iterator-loop-next).is_finite l.next-iterator
    × Stands l.next-iterator l.file (is_msb l.file) l.range.to
    × Writing l.file l.initial.out l.initial.table l.initial.to (is_msb l.file) l.range l.to l.i l.out l.table
