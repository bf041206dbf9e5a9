-- `energy::fill_with` meets its contract: the energies told and those to come are all (`Filling`). Assumes nothing.
use Rattle.std.proofs.Common.{sym, ap, ◌∙◌, arith}
use lib.ListN.{set}
use Rattle.intake.proofs.Loops.{accepted_4}
use Rattle.frame.proofs.Onward.{passes-below, passes-whole, passes-code, passes-next, passes-file, passes-msb, passed-all}
use Rattle.linked.proofs.Along.{telling-within, telling-whole, telling-sound, along-room, along-named}
use Rattle.energy.proofs.Fills.{filling_begin, filling_long, filling_done, filling_other, filling_room, filling_found}
use Rattle.energy.proofs.Fills.{filling_ping}
use Rattle.energy.proofs.fill_with.Goals as goal
use Rattle.energy.proofs.fill_with.Goals.{then-is_ping, else-is_ping}

pub is_msb-msb-requires : goal.is_msb-msb-requires
is_msb-msb-requires c = accepted_4 _ (record { counts = _; answer = c.requires.roomy.accepted })

pub loop-tuple-init : goal.loop-tuple-init
loop-tuple-init c =
    let i = c.into_iter-tuple-iterator.ensures.into_iter_gives in
    let b = c.behind_mark-tuple-items.ensures in
    let r = c.requires in
    rw i (
      tt,
      tt,
      b.from.0,
      b.order,
      rw b.from.1 (filling_begin _ _ _ _ (record { counts = _; answer = r.roomy.accepted }) c.is_msb-msb.ensures r.values_value.1),
    )

-- ---- a listed ping
pub quantity_at-quantity-requires-clause-rows_bound : goal.quantity_at-quantity-requires-clause-rows_bound
quantity_at-quantity-requires-clause-rows_bound c =
    let i = c.loop-tuple.invariant in
    let p = c.in-Some.ensures.steps in
    rw p.at
    (along-named i.4.along (passes-below _ _ _ p _ _ i.2 i.3) _ _ (passes-whole _ _ _ p _ _ i.2 i.3) (passes-code _ _ _ p _ _ i.2 i.3)
    (sym c.is_ping.ensures ∙ c.if-is_ping.true))

pub echo_of-echo-requires-clause-spot_here : goal.echo_of-echo-requires-clause-spot_here
echo_of-echo-requires-clause-spot_here c =
    let i = c.loop-tuple.invariant in
    let p = c.in-Some.ensures.steps in
    let found = filling_found i.4 (passes-below _ _ _ p _ _ i.2 i.3) _ _ (passes-whole _ _ _ p _ _ i.2 i.3) (passes-code _ _ _ p _ _ i.2 i.3)
    (sym c.is_ping.ensures ∙ c.if-is_ping.true) _ (rw p.at at c.quantity_at-quantity.ensures) in
    rw p.at found.here

-- it has room in all three slices
pub bounds-places-row : goal.bounds-places-row
bounds-places-row c =
    let i = c.loop-tuple.invariant in
    let p = c.in-Some.ensures.steps in
    let r = filling_room i.4 (passes-below _ _ _ p _ _ i.2 i.3) _ _ (passes-whole _ _ _ p _ _ i.2 i.3) (passes-code _ _ _ p _ _ i.2 i.3)
    (sym c.is_ping.ensures ∙ c.if-is_ping.true) in
    omega (arith, r, (filling_long i.4).0, c.requires.roomy.places_room)

pub bounds-energies-row : goal.bounds-energies-row
bounds-energies-row c =
    let i = c.loop-tuple.invariant in
    let p = c.in-Some.ensures.steps in
    let r = filling_room i.4 (passes-below _ _ _ p _ _ i.2 i.3) _ _ (passes-whole _ _ _ p _ _ i.2 i.3) (passes-code _ _ _ p _ _ i.2 i.3)
    (sym c.is_ping.ensures ∙ c.if-is_ping.true) in
    omega (arith, r, (filling_long i.4).1, c.requires.roomy.energies_room)

pub bounds-codes-row : goal.bounds-codes-row
bounds-codes-row c =
    let i = c.loop-tuple.invariant in
    let p = c.in-Some.ensures.steps in
    let r = filling_room i.4 (passes-below _ _ _ p _ _ i.2 i.3) _ _ (passes-whole _ _ _ p _ _ i.2 i.3) (passes-code _ _ _ p _ _ i.2 i.3)
    (sym c.is_ping.ensures ∙ c.if-is_ping.true) in
    omega (arith, r, (filling_long i.4).2, c.requires.roomy.codes_room)

-- ---- past it
pub keep-used-requires-clause-sound_here : goal.keep-used-requires-clause-sound_here
keep-used-requires-clause-sound_here c =
    let i = c.loop-tuple.invariant in
    let p = c.in-Some.ensures.steps in
    rw p.at
    (telling-sound i.4.along.telling (passes-below _ _ _ p _ _ i.2 i.3) _ _ (passes-whole _ _ _ p _ _ i.2 i.3)
    (passes-code _ _ _ p _ _ i.2 i.3))

pub keep-used-requires-clause-at_bound : goal.keep-used-requires-clause-at_bound
keep-used-requires-clause-at_bound c =
    let i = c.loop-tuple.invariant in
    let p = c.in-Some.ensures.steps in
    omega (arith, p.at, passes-below _ _ _ p _ _ i.2 i.3, (telling-within i.4.along.telling).1)

pub keep-used-requires-clause-at_bound_2 : goal.keep-used-requires-clause-at_bound_2
keep-used-requires-clause-at_bound_2 c =
    let i = c.loop-tuple.invariant in
    let p = c.in-Some.ensures.steps in
    rw p.at (along-room i.4.along (passes-below _ _ _ p _ _ i.2 i.3))

pub loop-tuple-preserved : goal.loop-tuple-preserved
loop-tuple-preserved c =
    let i = c.loop-tuple.invariant in
    let p = c.in-Some.ensures.steps in
    let k = rw p.at at c.keep-used.ensures in (
      tt,
      tt,
      passes-file _ _ _ p _ _ i.2 i.3,
      passes-msb _ _ _ p _ _ i.2 i.3,
      rw (passes-next _ _ _ p _ _ i.2 i.3)
          (elim c.if-is_ping.branch [
            | then-is_ping w ↦ filling_ping i.4 (passes-below _ _ _ p _ _ i.2 i.3) _ _ (passes-whole _ _ _ p _ _ i.2 i.3)
                (passes-code _ _ _ p _ _ i.2 i.3) (sym c.is_ping.ensures ∙ w.if-is_ping.true) _ (rw p.at at w.quantity_at-quantity.ensures)
                _ c.requires.roomy.accepted _ (rw p.at at w.echo_of-echo.ensures) _ _ w.units_in.ensures w.code_in.ensures _ _ w.row-is
                (record { places = w.places-is ∙ ap (set c.loop-tuple.places c.loop-tuple.row) p.at; energies = w.energies-is; codes = w.codes-is }) _ _ k
            | else-is_ping w ↦ filling_other i.4 (passes-below _ _ _ p _ _ i.2 i.3) _ _ (passes-whole _ _ _ p _ _ i.2 i.3)
                (passes-code _ _ _ p _ _ i.2 i.3) (sym c.is_ping.ensures ∙ w.if-is_ping.false) _ _ w.row-is
                (record { places = w.places-is; energies = w.energies-is; codes = w.codes-is }) _ _ k
          ]),
    )

pub returns : goal.returns
returns c =
    let i = c.loop-tuple.invariant in
    let s = c.loop-tuple.tuple-iterator in
    let over = passed-all s _ _ i.2 i.3 c.in-None.ensures.steps (λ h. telling-whole i.4.along.telling h) in
    let d = filling_done i.4 (omega (arith, over)) in
    record { places_after = d.0; energies_after = d.1; codes_after = d.2 }
