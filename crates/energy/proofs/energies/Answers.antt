-- `energy::energies` meets its contract: the check's refusal, 19 for a slice that is short, or the energies of all pings. Assumes nothing.
use Rattle.std.proofs.Common.{sym, ap, ◌∙◌}
use Rattle.std.proofs.lemmas.Result.{err_from_is_err_and}
use Rattle.layout.specs.Views.{as_answer}
use Rattle.energy.proofs.Answers.{all-refused, short-places, short-energies, short-codes, roomy, told-all}
use Rattle.energy.proofs.energies.Goals as goal

pub returns-in_err-counts : goal.returns-in_err-counts
returns-in_err-counts c =
    let p = err_from_is_err_and c.from_residual.result c.from_residual.ensures.1 in
    rw (p.1, p.2) (all-refused _ _ _ _ _ _ (sym c.check.ensures.is ∙ ap as_answer c.in_err-counts.was))

pub count_pings-n-requires : goal.count_pings-n-requires
count_pings-n-requires c = record { counts = _; answer = sym c.check.ensures.is ∙ ap as_answer c.in_ok-counts.was }

pub returns-then-places-n : goal.returns-then-places-n
returns-then-places-n c =
    rw c.refuse.ensures (short-places _ _ _ _ _ _ (sym c.check.ensures.is ∙ ap as_answer c.in_ok-counts.was) c.count_pings-n.ensures c.if-places-n.true)

pub returns-then-energies-n : goal.returns-then-energies-n
returns-then-energies-n c =
    rw c.refuse-then-energies-n.ensures
    (short-energies _ _ _ _ _ _ (sym c.check.ensures.is ∙ ap as_answer c.in_ok-counts.was) c.count_pings-n.ensures c.if-energies-n.true)

pub returns-then-codes-n : goal.returns-then-codes-n
returns-then-codes-n c =
    rw c.refuse-then-codes-n.ensures
    (short-codes _ _ _ _ _ _ (sym c.check.ensures.is ∙ ap as_answer c.in_ok-counts.was) c.count_pings-n.ensures c.if-codes-n.true)

pub fill-requires : goal.fill-requires
fill-requires c =
    let a = c.args in
    roomy a.file.now a.places.now a.energies.now a.codes.now _ _ (sym c.check.ensures.is ∙ ap as_answer c.in_ok-counts.was) c.count_pings-n.ensures
    c.if-places-n.false c.if-energies-n.false c.if-codes-n.false

pub returns : goal.returns
returns c =
    let e = c.fill.ensures in
    told-all _ _ _ _ _ _ (sym c.check.ensures.is ∙ ap as_answer c.in_ok-counts.was) c.count_pings-n.ensures
    c.if-places-n.false c.if-energies-n.false c.if-codes-n.false _ _ _ e.places_after e.energies_after e.codes_after
