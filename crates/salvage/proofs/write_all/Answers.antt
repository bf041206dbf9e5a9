-- `salvage::write_all` meets its contract: nothing stands behind the mark, or piece by piece to the end. Assumes nothing.
use Rattle.std.proofs.Common.{refl, ◌∙◌, arith}
use Rattle.frame.specs.Files.{mark}
use Rattle.salvage.proofs.Measures.{length-output, within_of}
use Rattle.salvage.proofs.Writes.{first-lying, length-first, output-first, output-none, table_none, writing-begin, writing-row}
use Rattle.salvage.proofs.Writes.{writing-within, writing-room, writing-again, writing-out, writing-table}
use Rattle.salvage.proofs.Onward.{onward-begun, onward-more, onward-piece, onward-behind, onward-grown, onward-end}
use Rattle.salvage.proofs.write_all.Goals as goal

pub store4-requires : goal.store4-requires
store4-requires c = omega (arith, length-output c.args.file.now, c.requires.roomy.output)

pub returns-in_default-clause-out_after : goal.returns-in_default-clause-out_after
unfolding mark
returns-in_default-clause-out_after c =
    let n = c.behind_mark-pieces.ensures in
    let w = onward-begun c.behind_mark-pieces.result _ n.from n.order c.is_msb-msb.ensures in
    output-none _ _ (omega (arith, c.requires.roomy.marked, onward-end w c.in_default.ensures.steps)) c.is_msb-msb.ensures _ c.store4.ensures

pub returns-in_default-clause-table_after : goal.returns-in_default-clause-table_after
returns-in_default-clause-table_after c =
    let n = c.behind_mark-pieces.ensures in
    let w = onward-begun c.behind_mark-pieces.result _ n.from n.order c.is_msb-msb.ensures in
    table_none _ _ (omega (arith, c.requires.roomy.marked, onward-end w c.in_default.ensures.steps)) c.is_msb-msb.ensures _

pub put_kept-to-requires-clause-within : goal.put_kept-to-requires-clause-within
put_kept-to-requires-clause-within c =
    let n = c.behind_mark-pieces.ensures in
    let w = onward-begun c.behind_mark-pieces.result _ n.from n.order c.is_msb-msb.ensures in
    let g = c.in-Some.ensures.steps in
    within_of
    (first-lying _ _ _ c.requires.roomy.marked (λ e. omega (arith, e, onward-more w g)) refl (onward-piece w g))
    (omega arith)

pub put_kept-to-requires-clause-p_in_bounds : goal.put_kept-to-requires-clause-p_in_bounds
put_kept-to-requires-clause-p_in_bounds c =
    let n = c.behind_mark-pieces.ensures in
    let w = onward-begun c.behind_mark-pieces.result _ n.from n.order c.is_msb-msb.ensures in
    let g = c.in-Some.ensures.steps in
    let l = length-first _ _ _ c.requires.roomy.marked (λ e. omega (arith, e, onward-more w g)) refl (onward-piece w g) in
    omega (arith, l, c.requires.roomy.output, c.store4.auto.out)

pub loop-next-init : goal.loop-next-init
loop-next-init c =
    let n = c.behind_mark-pieces.ensures in
    let w = onward-begun c.behind_mark-pieces.result _ n.from n.order c.is_msb-msb.ensures in
    let g = c.in-Some.ensures.steps in
    let r = c.requires.roomy in
    rw c.into_iter-next-iterator.ensures.into_iter_gives (
      c.in-Some.ensures.goes.keeps,
      tt,
      onward-behind w g,
      writing-begin _ _ _ r.marked (λ e. omega (arith, e, onward-more w g)) refl (onward-piece w g) _ _ _ c.put_kept-to.ensures.value
          (record {
            marked = r.marked;
            output = omega (arith, r.output, c.store4.auto.out, c.put_kept-to.auto.out);
            report = r.report;
          }),
    )

pub put_kept-to-requires-in-loop-next-clause-within : goal.put_kept-to-requires-in-loop-next-clause-within
put_kept-to-requires-in-loop-next-clause-within c =
    let i = c.loop-next.invariant in
    let g = c.in-Some-next.ensures.steps in
    writing-within i.3 (onward-more i.2 g) _ (onward-piece i.2 g)

pub put_kept-to-requires-in-loop-next-clause-p_in_bounds : goal.put_kept-to-requires-in-loop-next-clause-p_in_bounds
put_kept-to-requires-in-loop-next-clause-p_in_bounds c =
    let i = c.loop-next.invariant in
    let g = c.in-Some-next.ensures.steps in
    writing-room i.3 (onward-more i.2 g) _ (onward-piece i.2 g)

pub close-i-requires : goal.close-i-requires
close-i-requires c = writing-row c.loop-next.invariant.3

pub loop-next-preserved : goal.loop-next-preserved
loop-next-preserved c =
    let i = c.loop-next.invariant in
    let g = c.in-Some-next.ensures.steps in
    let k = c.put_kept-to-in-loop-next.ensures in (
      c.in-Some-next.ensures.goes.keeps,
      tt,
      onward-grown i.2 g c.loop-next.range c.grow-range.result c.grow-range.ensures,
      writing-again i.3 (onward-more i.2 g) _ (onward-piece i.2 g) _ _ _ _ _ c.grow-range.ensures k.value k.out_after
          c.close-i.ensures.value c.close-i.ensures.table_after,
    )

pub put_row-requires : goal.put_row-requires
put_row-requires c = writing-row c.loop-next.invariant.3

pub returns-clause-out_after : goal.returns-clause-out_after
unfolding mark
returns-clause-out_after c =
    let n = c.behind_mark-pieces.ensures in
    let w = onward-begun c.behind_mark-pieces.result _ n.from n.order c.is_msb-msb.ensures in
    let g = c.in-Some.ensures.steps in
    let i = c.loop-next.invariant in
    output-first _ _ _ c.requires.roomy.marked (λ e. omega (arith, e, onward-more w g)) refl (onward-piece w g) _
    (rw c.is_msb-msb.ensures at c.store4.ensures) c.put_kept-to.ensures.out_after c.put_kept-to.ensures.value
    (writing-out i.3 (onward-end i.2 c.in-None.ensures.steps))

pub returns-clause-table_after : goal.returns-clause-table_after
returns-clause-table_after c =
    let i = c.loop-next.invariant in
    c.put_row.ensures ∙ writing-table i.3 (onward-end i.2 c.in-None.ensures.steps)
