-- `settings::fill_with` meets its contract: the rows told and those to come are all, and the tables hold what governs (`Filling`).
-- Assumes nothing.
use Rattle.std.proofs.Common.{ℕ, ap, ◌∙◌, arith}
use Rattle.intake.proofs.Loops.{accepted_4, accepted-small}
use Rattle.frame.proofs.Onward.{passes-below, passes-whole, passes-code, passes-next, passes-file, passes-msb, passed-all}
use Rattle.settings.specs.inner.Tables.{told_by, lines_by}
use Rattle.settings.proofs.Fills.{filling_begin, filling_done, filling_whole, filling_sound, filling_line}
use Rattle.settings.proofs.Fills.{filling_room, filling_rows, filling_again}
use Rattle.settings.proofs.fill_with.Goals as goal

pub is_msb-msb-requires : goal.is_msb-msb-requires
is_msb-msb-requires c = accepted_4 _ c.requires.roomy.accepted

pub loop-tuple-init : goal.loop-tuple-init
loop-tuple-init c =
    let i = c.into_iter-tuple-iterator.ensures.into_iter_gives in
    let b = c.behind_mark-tuple-items.ensures in
    let r = c.requires in
    rw i (
      tt,
      tt,
      b.from.0,
      b.order,
      rw b.from.1 (filling_begin _ _ _ _ _ r.roomy.accepted c.is_msb-msb.ensures r.rows_len.0 r.rows_len.1),
    )

pub role_at-role-requires : goal.role_at-role-requires
role_at-role-requires c =
    let i = c.loop-tuple.invariant in
    let p = c.in-Some.ensures.steps in
    rw p.at
    (filling_sound i.4 (passes-below _ _ _ p _ _ i.2 i.3) _ _ (passes-whole _ _ _ p _ _ i.2 i.3) (passes-code _ _ _ p _ _ i.2 i.3))

-- the line that is found is its channel's
pub told_of-told-requires : goal.told_of-told-requires
told_of-told-requires c =
    let i = c.loop-tuple.invariant in
    let p = c.in-Some.ensures.steps in
    let e = rw p.at at c.role_at-role.ensures in
    omega (arith, c.line_of-line.ensures, filling_line i.4 (passes-below _ _ _ p _ _ i.2 i.3) _ e)

pub put_row-row-requires-clause-row_bound : goal.put_row-row-requires-clause-row_bound
put_row-row-requires-clause-row_bound c =
    let i = c.loop-tuple.invariant in
    let p = c.in-Some.ensures.steps in
    omega (arith, i.4.few, passes-below _ _ _ p _ _ i.2 i.3, accepted-small _ c.requires.roomy.accepted)

pub put_row-row-requires-clause-row_room : goal.put_row-row-requires-clause-row_room
put_row-row-requires-clause-row_room c =
    let i = c.loop-tuple.invariant in
    let p = c.in-Some.ensures.steps in
    let l = c.loop-tuple in
    let r = c.role_at-role.result in
    let e = rw p.at at c.role_at-role.ensures in
    let told = c.told_of-told.ensures ∙ ap (λ (n : ℕ). told_by r n l.h l.lines) c.line_of-line.ensures in
    filling_rows i.4 (passes-below _ _ _ p _ _ i.2 i.3) r e _ told c.requires.roomy

pub keep-h-requires-clause-at_bound : goal.keep-h-requires-clause-at_bound
keep-h-requires-clause-at_bound c =
    let i = c.loop-tuple.invariant in
    let p = c.in-Some.ensures.steps in
    let e = rw p.at at c.role_at-role.ensures in (
      omega (arith, p.at, passes-below _ _ _ p _ _ i.2 i.3, accepted-small _ c.requires.roomy.accepted),
      omega (arith, c.line_of-line.ensures, filling_line i.4 (passes-below _ _ _ p _ _ i.2 i.3) _ e),
      i.4.holding.few,
    )

pub keep-h-requires-clause-room : goal.keep-h-requires-clause-room
keep-h-requires-clause-room c =
    let i = c.loop-tuple.invariant in
    let p = c.in-Some.ensures.steps in
    filling_room i.4 (passes-below _ _ _ p _ _ i.2 i.3) _ (rw p.at at c.role_at-role.ensures)

pub loop-tuple-preserved : goal.loop-tuple-preserved
loop-tuple-preserved c =
    let i = c.loop-tuple.invariant in
    let p = c.in-Some.ensures.steps in
    let l = c.loop-tuple in
    let r = c.role_at-role.result in
    let e = rw p.at at c.role_at-role.ensures in
    let told = c.told_of-told.ensures ∙ ap (λ (n : ℕ). told_by r n l.h l.lines) c.line_of-line.ensures in
    let w = rw p.at at c.put_row-row.ensures in
    let k = rw p.at at c.keep-h.ensures in (
      tt,
      tt,
      passes-file _ _ _ p _ _ i.2 i.3,
      passes-msb _ _ _ p _ _ i.2 i.3,
      rw (passes-next _ _ _ p _ _ i.2 i.3)
          (filling_again i.4 (passes-below _ _ _ p _ _ i.2 i.3) r e _ told _ (passes-whole _ _ _ p _ _ i.2 i.3) _ _ w.value
          (record { pings = w.pings_after; thresholds = w.thresholds_after; attitudes = w.attitudes_after }) _ _ _ k.value k.stands
          k.rows_after
          (k.lines_after ∙ ap (λ (n : ℕ). lines_by r l.tuple-iterator.at n l.lines) c.line_of-line.ensures)),
    )

pub returns : goal.returns
returns c =
    let i = c.loop-tuple.invariant in
    let s = c.loop-tuple.tuple-iterator in
    let over = passed-all s _ _ i.2 i.3 c.in-None.ensures.steps (λ h. filling_whole i.4 h) in
    let d = filling_done i.4 (omega (arith, over)) in
    record { pings_after = d.pings; thresholds_after = d.thresholds; attitudes_after = d.attitudes }
