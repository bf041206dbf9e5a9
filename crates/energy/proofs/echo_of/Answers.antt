-- `energy::echo_of` meets its contract: 28 for angles and for what isn't Sv, 29 at a value outside, or the sum. Assumes nothing.
use Rattle.std.proofs.Common.{sym, ap, ◌∙◌, subst, arith, Ok, Err}
use borrow.Author.Tests.{not-true, not-false}
use Rattle.quantities.specs.inner.Codes.{family_of}
use Rattle.layout.specs.Types.{shape_of}
use Rattle.pings.specs.inner.Handing.{part_samples}
use Rattle.linked.specs.inner.Here.{part_at}
use Rattle.energy.specs.Energy.{values_in}
use Rattle.energy.specs.inner.Sums.{summed_of}
use Rattle.energy.proofs.Sums.{Tells, summed_tells}
use Rattle.energy.proofs.Echoes.{echo_angles, echo_other, echo_outside, echo_sum, valued_plain, values-here}
use Rattle.energy.proofs.echo_of.Goals as goal

pub returns-then-not-is_valued : goal.returns-then-not-is_valued
returns-then-not-is_valued c =
    rw c.refuse.ensures (echo_angles _ _ _ _ _ (not-false _ (sym (c.is_valued.ensures ∙ valued_plain c.args.ping.code c.requires.spot_here.listed) ∙ c.if-not-is_valued.true)))

pub returns-then-not-is_sv : goal.returns-then-not-is_sv
returns-then-not-is_sv c = rw c.refuse-then-not-is_sv.ensures (echo_other _ _ _ _ _ (sym c.is_sv.ensures ∙ c.if-not-is_sv.true))

pub returns-in-Err : goal.returns-in-Err
returns-in-Err c =
    let x = c.args in
    let k = x.ping.code in
    let part = part_at x.file.now x.ping.at x.ping.whole in
    let vs = values_in (family_of k) (part_samples (shape_of k) x.ping.msb part) in
    let t : Tells (family_of k) vs 0 0 (Err c.in-Err.nth)
    = subst (Tells (family_of k) vs 0 0)
    (sym (ap (summed_of (family_of k)) (values-here c.span_of-span.ensures)) ∙ sym c.sum_up.ensures ∙ c.in-Err.is) (summed_tells (family_of k) vs 0 0) in
    let plain = not-true _ (sym (c.is_valued.ensures ∙ valued_plain k c.requires.spot_here.listed) ∙ c.if-not-is_valued.false) in
    rw c.refuse-in-Err.ensures (echo_outside _ _ _ _ _ plain (sym c.is_sv.ensures ∙ c.if-not-is_sv.false) t.0 (omega (arith, t.1)))

pub returns-in-Ok : goal.returns-in-Ok
returns-in-Ok c =
    let x = c.args in
    let k = x.ping.code in
    let part = part_at x.file.now x.ping.at x.ping.whole in
    let vs = values_in (family_of k) (part_samples (shape_of k) x.ping.msb part) in
    let t : Tells (family_of k) vs 0 0 (Ok c.in-Ok.units)
    = subst (Tells (family_of k) vs 0 0)
    (sym (ap (summed_of (family_of k)) (values-here c.span_of-span.ensures)) ∙ sym c.sum_up.ensures ∙ c.in-Ok.is) (summed_tells (family_of k) vs 0 0) in
    let plain = not-true _ (sym (c.is_valued.ensures ∙ valued_plain k c.requires.spot_here.listed) ∙ c.if-not-is_valued.false) in
    echo_sum _ _ _ _ _ plain (sym c.is_sv.ensures ∙ c.if-not-is_sv.false) t.0 (omega (arith, t.1))
