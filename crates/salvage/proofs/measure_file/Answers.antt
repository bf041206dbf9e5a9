-- `salvage::measure_file` meets its contract: nothing stands behind the mark, or piece by piece to the end. Assumes nothing.
use Rattle.std.proofs.Common.{refl, arith}
use Rattle.salvage.proofs.Measures.{measured-none, first-within, measuring_begin, measuring_few, measuring_within, measuring_past}
use Rattle.salvage.proofs.Measures.{measuring_done}
use Rattle.salvage.proofs.Onward.{onward-begun, onward-more, onward-piece, onward-behind, onward-grown, onward-end}
use Rattle.salvage.proofs.measure_file.Goals as goal

pub returns-in_default : goal.returns-in_default
returns-in_default c =
    let n = c.behind_mark-pieces.ensures in
    let w = onward-begun c.behind_mark-pieces.result _ n.from n.order c.is_msb.ensures in
    measured-none _ (omega (arith, c.requires.in_bounds.0, onward-end w c.in_default.ensures.steps))

pub first-measured-requires : goal.first-measured-requires
first-measured-requires c =
    let n = c.behind_mark-pieces.ensures in
    let w = onward-begun c.behind_mark-pieces.result _ n.from n.order c.is_msb.ensures in
    let g = c.in-Some.ensures.steps in
    let b = c.requires.in_bounds in
    first-within _ _ _ b.0 (λ e. omega (arith, e, onward-more w g)) b.1 (onward-piece w g)

pub loop-next-init : goal.loop-next-init
loop-next-init c =
    let n = c.behind_mark-pieces.ensures in
    let w = onward-begun c.behind_mark-pieces.result _ n.from n.order c.is_msb.ensures in
    let g = c.in-Some.ensures.steps in
    let b = c.requires.in_bounds in
    rw c.into_iter-next-iterator.ensures.into_iter_gives (
      c.in-Some.ensures.goes.keeps,
      tt,
      onward-behind w g,
      measuring_begin _ _ _ b.0 (λ e. omega (arith, e, onward-more w g)) b.1 (onward-piece w g) _ refl c.first-measured.ensures,
    )

pub past-measured-requires-clause-few : goal.past-measured-requires-clause-few
past-measured-requires-clause-few c =
    let i = c.loop-next.invariant in
    let g = c.in-Some-next.ensures.steps in
    measuring_few _ _ _ _ i.3 (onward-more i.2 g) _ (onward-piece i.2 g)

pub past-measured-requires-clause-within : goal.past-measured-requires-clause-within
past-measured-requires-clause-within c =
    let i = c.loop-next.invariant in
    let g = c.in-Some-next.ensures.steps in
    measuring_within _ _ _ _ i.3 (onward-more i.2 g) _ (onward-piece i.2 g)

pub loop-next-preserved : goal.loop-next-preserved
loop-next-preserved c =
    let i = c.loop-next.invariant in
    let g = c.in-Some-next.ensures.steps in (
      c.in-Some-next.ensures.goes.keeps,
      tt,
      onward-grown i.2 g c.loop-next.range c.grow-range.result c.grow-range.ensures,
      measuring_past _ _ _ _ i.3 (onward-more i.2 g) _ (onward-piece i.2 g) _ _ c.grow-range.ensures c.past-measured.ensures,
    )

pub returns : goal.returns
returns c =
    let i = c.loop-next.invariant in
    measuring_done _ _ _ _ i.3 (onward-end i.2 c.in-None.ensures.steps)
