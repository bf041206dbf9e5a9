-- With the forms still to come, the memory is the whole normal form.
use Rattle.std.proofs.Common.{◌≡◌}
use Rattle.normal.specs.inner.Passes.{index_bytes}
use Rattle.normal.proofs.Writing.{Writing}
use Rattle.normal.proofs.write_normal.Given as goal

abbrev pub invariant-loop-tuple : goal.invariant-loop-tuple
invariant-loop-tuple l =
    (goal.iterator-loop-tuple).can_next l.tuple-iterator
    × (goal.iterator-loop-tuple).is_finite l.tuple-iterator
    × (l.tuple-iterator.file.now ≡ l.file)
    × (l.tuple-iterator.msb ≡ l.msb)
    × Writing (index_bytes l.flags) l.file l.initial.out l.msb l.tuple-iterator.at l.to l.out
