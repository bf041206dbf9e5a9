-- `linear::linear_at` meets its contract. Assumes nothing.
use native.Mathlib.Nat.{one-le-pow}
use lib.Dec.{lit<}
use Rattle.linear.proofs.Levels.{told-up, told-down}
use Rattle.linear.proofs.linear_at.Goals as goal

pub returns-then-tens-le-SHIFT : goal.returns-then-tens-le-SHIFT
returns-then-tens-le-SHIFT c = told-up c.args.steps c.requires.steps_bound c.entry-e.ensures.0 c.if-tens-le-SHIFT.true c.power.ensures.0

pub nonzero_div-result : goal.nonzero_div-result
nonzero_div-result c = rw c.power-2.ensures.0 (one-le-pow _ 10 (lit< tt))

pub returns : goal.returns
returns c = told-down c.args.steps c.requires.steps_bound c.entry-e.ensures.0 c.if-tens-le-SHIFT.false c.power-2.ensures.0
