-- The values stored so far are the levels'.
use Rattle.std.proofs.Common.{◌≡◌, ℕ, ◌<◌, get_or, length}
use Rattle.linear.specs.Linear.{linear_at}
use Rattle.linear.proofs.fill_values.Given as goal

abbrev pub invariant-loop-steps : goal.invariant-loop-steps
invariant-loop-steps l = (length l.values ≡ 3001) × ((k : ℕ) → k < l.steps → get_or l.values k 0 ≡ linear_at k)
