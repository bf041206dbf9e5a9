-- The types that the iterator has left, stored behind those stored, are the whole list.
use Rattle.index.specs.inner.Flags.{flagged_from, flagged_types}
use Rattle.index.proofs.Writes.{Typing}
use Rattle.index.proofs.write_types.Given as goal

abbrev pub invariant-loop-code : goal.invariant-loop-code
invariant-loop-code l =
    (goal.iterator-loop-code).can_next l.code-iterator
    × (goal.iterator-loop-code).is_finite l.code-iterator
    × Typing (flagged_types l.flags) l.msb l.initial.out l.to l.out l.q (flagged_from l.code-iterator.flags.now l.code-iterator.from)
