-- `index::write_types` meets its contract: the types to come, stored behind those stored, are the whole list. Assumes nothing.
use Rattle.index.proofs.Writes.{typing_one, typing_end}
use Rattle.index.proofs.write_types.Goals as goal

pub loop-code-preserved : goal.loop-code-preserved
loop-code-preserved c = (tt, tt, typing_one c.loop-code.invariant.2 c.in-Some.code _ c.in-Some.ensures.steps _ c.store2.ensures)

pub returns-clause-out_after : goal.returns-clause-out_after
returns-clause-out_after c = (typing_end c.loop-code.invariant.2 c.in-None.ensures.steps.0).1
