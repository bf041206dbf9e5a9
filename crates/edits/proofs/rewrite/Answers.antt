-- `edits::rewrite` meets its contract: 1, what the check would say, 19, then the result. Assumes nothing.
use Rattle.std.proofs.Common.{sym, ap, ◌∙◌, arith}
use Rattle.std.proofs.lemmas.Result.{err_from_is_err_and}
use Rattle.order.proofs.Laws.{bytes_of_lem}
use Rattle.layout.specs.Views.{as_answer}
use Rattle.index.specs.inner.Flags.{flagged_types}
use Rattle.index.proofs.Flags.{flagged-types}
use Rattle.edits.specs.inner.Parts.{all_of}
use Rattle.edits.proofs.Results.{result-refused, result-over, result_no_room, result-written, accepted-divides}
use Rattle.edits.proofs.rewrite.Goals as goal

pub returns-then-size-gt-LIMIT : goal.returns-then-size-gt-LIMIT
returns-then-size-gt-LIMIT c =
    rw (ap as_answer c.refuse.ensures) (result-over _ _ _ (omega (arith, c.measure-size.ensures.size_of.whole, c.if-size-gt-LIMIT.true)))

pub returns-in_err-judge_result : goal.returns-in_err-judge_result
returns-in_err-judge_result c =
    let p = err_from_is_err_and c.from_residual.result c.from_residual.ensures.1 in
    rw (p.1, p.2) (result-refused _ _ _ _ _ (sym c.in_err-judge_result.ensures))

pub returns-then-out-size : goal.returns-then-out-size
returns-then-out-size c =
    rw (ap as_answer c.refuse-then-out-size.ensures)
    (result_no_room _ _ _ _ (sym c.in_ok-judge_result.ensures)
    (omega (arith, c.measure-size.ensures.size_of.whole, c.if-out-size.true)))

-- the second part divides, since the result is accepted
pub write_result-requires-clause-divides : goal.write_result-requires-clause-divides
write_result-requires-clause-divides c =
    let a = c.args in
    accepted-divides a.msb a.first.now a.second.now a.last.now
    (bytes_of_lem a.first.now (λ i. (c.type_inv.first i).fits))
    (bytes_of_lem a.second.now (λ i. (c.type_inv.second i).fits))
    c.requires.first _ (sym c.in_ok-judge_result.ensures)

pub write_result-requires-clause-flags_value : goal.write_result-requires-clause-flags_value
write_result-requires-clause-flags_value c =
    let a = c.args in
    ap flagged_types c.measure-size.ensures.flags_after ∙ flagged-types (all_of a.msb a.first.now a.second.now a.last.now)

pub returns : goal.returns
returns c =
    result-written _ _ _ _ (sym c.in_ok-judge_result.ensures) _ c.measure-size.ensures.size_of.whole c.if-out-size.false _
    c.write_result.ensures
