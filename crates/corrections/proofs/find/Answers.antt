-- `corrections::find` meets its contract: the first of the tuples from here on is the first of all (`Seeking`). Assumes nothing.
use Rattle.std.proofs.Common.{◌≡◌, sym, ap, ◌∙◌, ◌≤◌, length, arith}
use Rattle.intake.proofs.Loops.{accepted_4}
use Rattle.frame.proofs.Onward.{passes-below, passes-whole, passes-next, passes-file, passes-msb, passed-all}
use Rattle.corrections.proofs.Wanted.{Seeking, seeking_begin, seeking_none, seeking_sound, seeking_whole, seeking_here, seeking_again}
use Rattle.corrections.proofs.find.Goals as goal

pub is_msb-msb-requires : goal.is_msb-msb-requires
is_msb-msb-requires c = accepted_4 _ c.requires

pub loop-tuple-init : goal.loop-tuple-init
loop-tuple-init c =
    let i = c.into_iter-tuple-iterator.ensures.into_iter_gives in
    let b = c.behind_mark-tuple-items.ensures in
    rw i (tt, tt, b.from.0, b.order, rw b.from.1 (seeking_begin _ _ _ _ _ c.requires c.is_msb-msb.ensures))

pub is_wanted-requires : goal.is_wanted-requires
is_wanted-requires c =
    let i = c.loop-tuple.invariant in
    let p = c.in-Some.ensures.steps in
    rw p.at (seeking_sound _ _ _ _ _ _ i.4 (passes-below _ _ _ p _ _ i.2 i.3) _ (passes-whole _ _ _ p _ _ i.2 i.3))

pub returns-then-is_wanted : goal.returns-then-is_wanted
returns-then-is_wanted c =
    let i = c.loop-tuple.invariant in
    let p = c.in-Some.ensures.steps in
    let r = seeking_here _ _ _ _ _ _ i.4 (passes-below _ _ _ p _ _ i.2 i.3) _ (passes-whole _ _ _ p _ _ i.2 i.3) (rw p.at at c.is_wanted.ensures) c.if-is_wanted.true in
    rw p.at (record { value = r.0; inside = r.1 })

pub loop-tuple-preserved : goal.loop-tuple-preserved
loop-tuple-preserved c =
    let i = c.loop-tuple.invariant in
    let p = c.in-Some.ensures.steps in (
      tt,
      tt,
      passes-file _ _ _ p _ _ i.2 i.3,
      passes-msb _ _ _ p _ _ i.2 i.3,
      rw (passes-next _ _ _ p _ _ i.2 i.3)
          (seeking_again _ _ _ _ _ _ i.4 (passes-below _ _ _ p _ _ i.2 i.3) _ (passes-whole _ _ _ p _ _ i.2 i.3) (rw p.at at c.is_wanted.ensures) c.if-is_wanted.false),
    )

pub returns : goal.returns
returns c =
    let i = c.loop-tuple.invariant in
    let s = c.loop-tuple.tuple-iterator in
    let over = passed-all s _ _ i.2 i.3 c.in-None.ensures.steps (λ h. seeking_whole _ _ _ _ _ _ i.4 h) in
    let r = seeking_none _ _ _ _ _ _ i.4 (omega (arith, over)) in
    record { value = r.0; inside = r.1 }
