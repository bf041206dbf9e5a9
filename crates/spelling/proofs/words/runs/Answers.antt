-- A gap's runs are the fewest that cover it.
use Rattle.std.proofs.Common.{arith}
use Rattle.samples.proofs.Writing.{gap-count}
use Rattle.spelling.proofs.words.runs.Goals as goal

pub returns-clause-value : goal.returns-clause-value
returns-clause-value g c =
    rw (c.FULL.ensures, c.FULL-2.ensures) (gap-count g.W.Words.FULL (omega (arith, g.met.W.Words.radix)) c.args.quiet)
