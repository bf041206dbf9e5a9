-- The first fall from here on is the first at all.
use Rattle.std.proofs.Common.{◌≡◌, ◌+◌, drop}
use Rattle.samples.specs.inner.Lists.{numbered}
use Rattle.samples.specs.Judging.{first_drop}
use Rattle.spelling16.proofs.plain.first_drop.Given as goal

abbrev pub invariant-loop-i : goal.invariant-loop-i
invariant-loop-i l = l.i + first_drop l.next (numbered (drop l.i l.numbers)) ≡ first_drop 0 (numbered l.numbers)
