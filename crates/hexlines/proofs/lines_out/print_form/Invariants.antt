-- What is still to be printed makes the whole.
use Rattle.std.proofs.Common.{◌≡◌, false}
use Rattle.frame.specs.Tuples.{tuples_of}
use Rattle.hexlines.proofs.Printing.{Printing}
use Rattle.hexlines.proofs.lines_out.print_form.Given as goal

abbrev pub invariant-loop-tuple : goal.invariant-loop-tuple
invariant-loop-tuple l =
    (goal.iterator-loop-tuple).can_next l.tuple-iterator
    × (goal.iterator-loop-tuple).is_finite l.tuple-iterator
    × (l.tuple-iterator.file.now ≡ l.form)
    × (l.tuple-iterator.msb ≡ false)
    × Printing l.form l.initial.out l.initial.to (tuples_of l.form) l.out l.to l.tuple-iterator.at
