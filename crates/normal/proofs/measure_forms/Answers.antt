-- `normal::measure_forms` meets its contract: the tuples to come, measured and flagged with what was, are the whole (`Measuring`). Assumes
-- nothing.
use Rattle.std.proofs.Common.{arith}
use Rattle.intake.proofs.Loops.{accepted_4}
use Rattle.frame.proofs.Onward.{passes-below, passes-whole, passes-code, passes-next, passes-file, passes-msb, passed-all}
use Rattle.normal.proofs.Measures.{measuring_begin, measuring_sound, measuring_whole, measuring_past, measuring_done}
use Rattle.normal.proofs.measure_forms.Goals as goal

pub is_msb-msb-requires : goal.is_msb-msb-requires
is_msb-msb-requires c = accepted_4 _ c.requires.accepts

pub loop-tuple-init : goal.loop-tuple-init
loop-tuple-init c =
    let i = c.into_iter-tuple-iterator.ensures.into_iter_gives in
    let b = c.behind_mark-tuple-items.ensures in
    rw i (
      tt,
      tt,
      b.from.0,
      b.order,
      rw b.from.1 (measuring_begin _ _ _ _ c.requires.accepts c.is_msb-msb.ensures c.begin-m.ensures c.requires.flags_value),
    )

pub past-m-requires-clause-sound_here : goal.past-m-requires-clause-sound_here
past-m-requires-clause-sound_here c =
    let i = c.loop-tuple.invariant in
    let p = c.in-Some.ensures.steps in
    rw (p.at, passes-whole _ _ _ p _ _ i.2 i.3, passes-code _ _ _ p _ _ i.2 i.3)
    (measuring_sound _ _ _ _ _ i.4 (passes-below _ _ _ p _ _ i.2 i.3))

pub past-m-requires-clause-few : goal.past-m-requires-clause-few
past-m-requires-clause-few c = rw c.in-Some.ensures.steps.at c.loop-tuple.invariant.4.few

pub loop-tuple-preserved : goal.loop-tuple-preserved
loop-tuple-preserved c =
    let i = c.loop-tuple.invariant in
    let p = c.in-Some.ensures.steps in
    let e = c.past-m.ensures in
    let w = passes-whole _ _ _ p _ _ i.2 i.3 in (
      tt,
      tt,
      passes-file _ _ _ p _ _ i.2 i.3,
      passes-msb _ _ _ p _ _ i.2 i.3,
      rw (passes-next _ _ _ p _ _ i.2 i.3)
          (measuring_past _ _ _ _ _ i.4 (passes-below _ _ _ p _ _ i.2 i.3) _ _ _ w (rw p.at at e.value) (rw (p.at, w) at e.bytes_bound)
          (rw p.at at e.flags_after)),
    )

pub returns : goal.returns
returns c =
    let i = c.loop-tuple.invariant in
    let s = c.loop-tuple.tuple-iterator in
    let over = passed-all s _ _ i.2 i.3 c.in-None.ensures.steps (λ h. measuring_whole _ _ _ _ _ i.4 h) in
    let d = measuring_done _ _ _ _ _ i.4 (omega (arith, over)) in
    record { value = d.0; bytes_bound = d.1; flags_after = d.2 }
