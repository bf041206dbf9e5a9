-- `samples16::angles::judge_wide` meets its contract: the numbers stand where a U-32 ping's do. Assumes nothing.
use mathlib.Core.Path.{◌∙◌}
use borrow.Author.Rules.{rules}
use Rattle.samples16.proofs.Angled.{judged-wide}
use Rattle.samples16.proofs.angles.judge_wide.Statement.{statement}
use Rattle.samples16.proofs.angles.judge_wide.Tie as tie

returns : tie.Need-returns
returns c = let a = c.args in c.judge_pairs.ensures ∙ judged-wide a.msb a.part.now

pub judge_wide_spec : {M : Type 1} → statement M
judge_wide_spec = tie.close (tie.spec
    (λ c κs. search rules)
    returns)
