-- No type that was passed is flagged.
use Rattle.std.proofs.Common.{◌≡◌, ◌-◌}
use Rattle.index.specs.inner.Flags.{flagged_from}
use Rattle.index.proofs.TypesFromIterator.next.Given as goal

abbrev pub invariant-loop-self : goal.invariant-loop-self
invariant-loop-self l =
    (l.self.flags.now ≡ l.initial.self.flags.now)
    × (flagged_from l.initial.self.flags.now l.initial.self.from ≡ flagged_from l.initial.self.flags.now l.self.from)

abbrev pub decreases-loop-self : goal.decreases-loop-self
decreases-loop-self l = 65536 - l.self.from
