-- `hexlines::lines_in::line_end` meets its contract. Assumes nothing.
use Rattle.std.proofs.Common.{arith, drop}
use Rattle.std.proofs.lemmas.Grind.{common_steps}
use Rattle.hexlines.proofs.Lines.{taken_before}
use Rattle.hexlines.proofs.lines_in.line_end.Goals as goal

pub returns : goal.returns
returns c = grind (arith, common_steps, c.before_feed.ensures, taken_before (drop c.args.at c.args.text.now))
