-- `linear::fill_values` meets its contract: what stands at each place is the level's value. Assumes nothing.
use Rattle.std.proofs.Common.{arith}
use Rattle.linear.proofs.Values.{filled}
use Rattle.linear.proofs.fill_values.Goals as goal

pub returns : goal.returns
returns c =
    let i = c.loop-steps.invariant in
    filled c.loop-steps.values i.0 (λ k h. i.1 k (omega arith))
