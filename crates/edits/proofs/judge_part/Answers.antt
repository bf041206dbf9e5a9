-- `edits::judge_part` meets its contract: a tuple of the index class is passed over, a stretch is judged. Assumes nothing.
use Rattle.std.proofs.Common.{refl, sym, ap, ◌∙◌, ◌+◌, ◌-◌, arith}
use lib.Seq.{length-take-le}
use Rattle.order.proofs.Laws.{bytes_of_lem}
use Rattle.intake.specs.inner.Views.{as_turned}
use Rattle.edits.proofs.Keeping.{holds_16, ends-within}
use Rattle.edits.proofs.Judging.{dropped-front, judging_dropped, judging_end}
use Rattle.edits.proofs.Stretches.{stretch_small, stretch_on, stretch_done}
use Rattle.edits.proofs.judge_part.Goals as goal

pub length_at-at-requires : goal.length_at-at-requires
length_at-at-requires c =
    let b = bytes_of_lem c.args.part.now (λ i. (c.type_inv.part i).fits) in
    let p = dropped-front c.loop-at.invariant b (sym c.is_dropped.ensures ∙ c.if-is_dropped.true) in
    omega (arith, holds_16 _ _ _ p c.loop-at.invariant.within)

pub overflow_add-at : goal.overflow_add-at
overflow_add-at c =
    let b = bytes_of_lem c.args.part.now (λ i. (c.type_inv.part i).fits) in
    let p = dropped-front c.loop-at.invariant b (sym c.is_dropped.ensures ∙ c.if-is_dropped.true) in
    omega (arith, ends-within _ _ _ p c.loop-at.invariant.within, c.length_at-at.ensures)

pub loop-at-smaller-then-is_dropped : goal.loop-at-smaller-then-is_dropped
loop-at-smaller-then-is_dropped c =
    let b = bytes_of_lem c.args.part.now (λ i. (c.type_inv.part i).fits) in
    let p = dropped-front c.loop-at.invariant b (sym c.is_dropped.ensures ∙ c.if-is_dropped.true) in
    omega (arith, ends-within _ _ _ p c.loop-at.invariant.within, c.length_at-at.ensures, p.size, p.long)

pub loop-at-preserved-then-is_dropped : goal.loop-at-preserved-then-is_dropped
loop-at-preserved-then-is_dropped c =
    judging_dropped c.loop-at.invariant (bytes_of_lem c.args.part.now (λ i. (c.type_inv.part i).fits))
    (sym c.is_dropped.ensures ∙ c.if-is_dropped.true) _ c.length_at-at.ensures

pub run_on-requires-clause-from_bound : goal.run_on-requires-clause-from_bound
run_on-requires-clause-from_bound c =
    let g = c.stretch_end-end.ensures in
    let m = stretch_small c.loop-at.invariant g (c.loop-at.w.at + (c.stretch_end-end.result - c.loop-at.at)) refl in
    let n = length-take-le c.stretch_end-end.result c.args.part.now g.within in
    omega (arith, n, m, g.far, c.loop-at.invariant.place, c.requires.part_bound)

pub returns-in_err-w : goal.returns-in_err-w
returns-in_err-w c =
    rw c.from_residual.ensures
    (stretch_done c.loop-at.invariant c.stretch_end-end.ensures _ refl _ _ c.run_on.ensures _ (ap as_turned c.in_err-w.was))

pub loop-at-preserved : goal.loop-at-preserved
loop-at-preserved c =
    stretch_on c.loop-at.invariant c.stretch_end-end.ensures _ refl _ _ c.run_on.ensures _ (ap as_turned c.in_ok-w.was)

pub returns : goal.returns
returns c = judging_end c.loop-at.invariant (bytes_of_lem c.args.part.now (λ i. (c.type_inv.part i).fits)) c.loop-at-test.false
