-- No more types are flagged than there are. Assumes nothing.
use Rattle.std.proofs.Common.{arith, inl, ap, length}
use Rattle.index.proofs.Writes.{few-flagged}
use Rattle.index.proofs.count_types.Goals as goal

pub count-requires-clause-fits : goal.count-requires-clause-fits
count-requires-clause-fits c = inl (omega (arith, few-flagged c.args.flags.now, ap length c.types.ensures))
