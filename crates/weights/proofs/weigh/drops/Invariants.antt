-- What was compared so far is counted.
use Rattle.std.proofs.Common.{◌≤◌}
use Rattle.weights.specs.inner.Weights.{Dropped}
use Rattle.weights.proofs.weigh.drops.Given as goal

abbrev pub invariant-loop-i : goal.invariant-loop-i
invariant-loop-i g l = (l.drops ≤ l.i) × Dropped (goal.F-post g l.number) l.i l.drops
