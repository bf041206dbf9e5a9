-- `intake::judge_own` meets its contract: the verdict of its head, then of its samples. Assumes nothing.
use Rattle.std.proofs.Common.{ap}
use Rattle.std.proofs.lemmas.Result.{err_from_is_err_and}
use Rattle.layout.specs.Views.{as_verdict}
use Rattle.intake.proofs.Judges.{head-fits, own-parts}
use Rattle.intake.proofs.judge_own.Goals as goal

pub returns-in_err-judge_head : goal.returns-in_err-judge_head
returns-in_err-judge_head c =
    let p = err_from_is_err_and c.from_residual.result c.from_residual.ensures.1 in
    rw (p.1, p.2, ← own-parts c.requires, ← c.judge_head.ensures, c.in_err-judge_head.was)

pub judge_inner-requires-clause-fits : goal.judge_inner-requires-clause-fits
judge_inner-requires-clause-fits c = head-fits c.requires _ c.judge_head.ensures (ap as_verdict c.in_ok-judge_head.was)

pub returns : goal.returns
returns c = rw (← own-parts c.requires, ← c.judge_head.ensures, c.in_ok-judge_head.was) c.judge_inner.ensures
