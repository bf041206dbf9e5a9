-- `readings::readings` meets its contract: the check's refusal, 9 where no ping is found, or what is handed over. Assumes nothing.
use Rattle.std.proofs.Common.{refl, sym, ap, ◌∙◌, subst}
use Rattle.std.proofs.lemmas.Result.{err_from_is_err_and}
use Rattle.layout.specs.Views.{as_answer}
use Rattle.linked.specs.inner.Here.{FoundAt}
use Rattle.readings.proofs.Handing.{told_unchecked, told-nowhere, told-found}
use Rattle.readings.proofs.readings.Goals as goal

pub returns-in_err-counts : goal.returns-in_err-counts
returns-in_err-counts c =
    let a = c.args in
    let p = err_from_is_err_and c.from_residual.result c.from_residual.ensures.1 in
    rw (p.1, p.2) (told_unchecked a.file.now a.place a.first _ _ (sym c.check.ensures.is ∙ ap as_answer c.in_err-counts.was) refl)

pub find-requires : goal.find-requires
find-requires c = record { counts = _; answer = sym c.check.ensures.is ∙ ap as_answer c.in_ok-counts.was }

pub returns-in_default : goal.returns-in_default
returns-in_default c =
    let a = c.args in
    told-nowhere a.file.now a.place a.first _ _ (sym c.check.ensures.is ∙ ap as_answer c.in_ok-counts.was)
    (subst (FoundAt a.file.now a.place) c.in_default.is c.find.ensures) (ap as_answer c.refuse.ensures)

pub hand_over-requires : goal.hand_over-requires
hand_over-requires c = (subst (FoundAt c.args.file.now c.args.place) c.in-Some.is c.find.ensures).here

pub returns : goal.returns
returns c =
    let a = c.args in
    told-found a.file.now a.place a.first _ _ (sym c.check.ensures.is ∙ ap as_answer c.in_ok-counts.was)
    (subst (FoundAt a.file.now a.place) c.in-Some.is c.find.ensures) c.hand_over.ensures
