-- `linked::find_with` meets its contract: the one among the pings to come is the one among all (`Seeking`). Assumes nothing.
use Rattle.std.proofs.Common.{sym, ◌∙◌, arith, rules}
use Rattle.intake.proofs.Loops.{accepted_4}
use Rattle.frame.proofs.Onward.{passes-below, passes-whole, passes-code, passes-next, passes-file, passes-msb, passed-all}
use Rattle.linked.specs.Linked.{standing}
use Rattle.linked.proofs.Along.{telling-within, telling-whole, telling-sound, along-begin, along-room, along-named}
use Rattle.linked.proofs.Finding.{seeking_none, seeking_here, seeking_again}
use Rattle.linked.proofs.find_with.Goals as goal

pub is_msb-msb-requires : goal.is_msb-msb-requires
is_msb-msb-requires c = accepted_4 _ c.requires.accepts

pub loop-tuple-init : goal.loop-tuple-init
loop-tuple-init c =
    let i = c.into_iter-tuple-iterator.ensures.into_iter_gives in
    let b = c.behind_mark-tuple-items.ensures in
    let r = c.requires in
    rw i (
      tt,
      tt,
      b.from.0,
      b.order,
      rw b.from.1 (record { along = along-begin (standing c.args.place) _ _ _ r.accepts c.is_msb-msb.ensures r.rows_len }),
    )

pub quantity_at-quantity-requires-clause-rows_bound : goal.quantity_at-quantity-requires-clause-rows_bound
quantity_at-quantity-requires-clause-rows_bound c =
    let i = c.loop-tuple.invariant in
    let p = c.in-Some.ensures.steps in
    rw p.at
    (along-named i.4.along (passes-below _ _ _ p _ _ i.2 i.3) _ _ (passes-whole _ _ _ p _ _ i.2 i.3) (passes-code _ _ _ p _ _ i.2 i.3)
    (sym c.is_ping.ensures ∙ c.if-is_ping.true))

pub returns-then-is_ping : goal.returns-then-is_ping
returns-then-is_ping c =
    let i = c.loop-tuple.invariant in
    let p = c.in-Some.ensures.steps in
    rw p.at
    (seeking_here i.4 (passes-below _ _ _ p _ _ i.2 i.3) _ _ (passes-whole _ _ _ p _ _ i.2 i.3) (passes-code _ _ _ p _ _ i.2 i.3)
    (sym c.is_ping.ensures ∙ c.if-is_ping.true) (search rules) _ (rw p.at at c.quantity_at-quantity.ensures))

pub keep-used-requires-clause-sound_here : goal.keep-used-requires-clause-sound_here
keep-used-requires-clause-sound_here c =
    let i = c.loop-tuple.invariant in
    let p = c.in-Some.ensures.steps in
    rw p.at
    (telling-sound i.4.along.telling (passes-below _ _ _ p _ _ i.2 i.3) _ _ (passes-whole _ _ _ p _ _ i.2 i.3)
    (passes-code _ _ _ p _ _ i.2 i.3))

pub keep-used-requires-clause-at_bound : goal.keep-used-requires-clause-at_bound
keep-used-requires-clause-at_bound c =
    let i = c.loop-tuple.invariant in
    let p = c.in-Some.ensures.steps in
    omega (arith, p.at, passes-below _ _ _ p _ _ i.2 i.3, (telling-within i.4.along.telling).1)

pub keep-used-requires-clause-at_bound_2 : goal.keep-used-requires-clause-at_bound_2
keep-used-requires-clause-at_bound_2 c =
    let i = c.loop-tuple.invariant in
    let p = c.in-Some.ensures.steps in
    rw p.at (along-room i.4.along (passes-below _ _ _ p _ _ i.2 i.3))

-- the tuple is no ping at the place: which branch ran is found, and not named
pub loop-tuple-preserved : goal.loop-tuple-preserved
loop-tuple-preserved c =
    let i = c.loop-tuple.invariant in
    let p = c.in-Some.ensures.steps in (
      tt,
      tt,
      passes-file _ _ _ p _ _ i.2 i.3,
      passes-msb _ _ _ p _ _ i.2 i.3,
      rw (passes-next _ _ _ p _ _ i.2 i.3)
          (seeking_again i.4 (passes-below _ _ _ p _ _ i.2 i.3) _ _ (passes-whole _ _ _ p _ _ i.2 i.3) (passes-code _ _ _ p _ _ i.2 i.3)
          (λ e. grind arith) _ _ (rw p.at at c.keep-used.ensures)),
    )

pub returns : goal.returns
returns c =
    let i = c.loop-tuple.invariant in
    let s = c.loop-tuple.tuple-iterator in
    let over = passed-all s _ _ i.2 i.3 c.in-None.ensures.steps (λ h. telling-whole i.4.along.telling h) in
    seeking_none i.4 (omega (arith, over))
