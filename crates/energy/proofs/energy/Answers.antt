-- `energy::energy` meets its contract: the check's refusal, 9 where no ping is found, or what is told of the ping. Assumes nothing.
use Rattle.std.proofs.Common.{sym, ap, ◌∙◌, subst}
use Rattle.std.proofs.lemmas.Result.{err_from_is_err_and}
use Rattle.layout.specs.Views.{as_answer}
use Rattle.layout.specs.Answers.{tells}
use Rattle.linked.specs.inner.Here.{FoundAt}
use Rattle.energy.proofs.Echoes.{told-refused, told-nowhere, found_echo}
use Rattle.energy.proofs.energy.Goals as goal

pub returns-in_err-counts : goal.returns-in_err-counts
returns-in_err-counts c =
    let p = err_from_is_err_and c.from_residual.result c.from_residual.ensures.1 in
    rw (p.1, p.2) (told-refused _ _ (sym c.check.ensures.is ∙ ap as_answer c.in_err-counts.was))

pub find-requires : goal.find-requires
find-requires c = record { counts = _; answer = sym c.check.ensures.is ∙ ap as_answer c.in_ok-counts.was }

pub returns-in_default : goal.returns-in_default
returns-in_default c =
    rw c.refuse.ensures (told-nowhere _ _ (sym c.check.ensures.is ∙ ap as_answer c.in_ok-counts.was) (subst (FoundAt _ _) c.in_default.is c.find.ensures))

pub echo_of-requires-clause-spot_here : goal.echo_of-requires-clause-spot_here
echo_of-requires-clause-spot_here c = (subst (FoundAt c.args.file.now c.args.place) c.in-Some.is c.find.ensures).here

pub returns : goal.returns
returns c =
    tells (c.echo_of.ensures
    ∙ sym (found_echo _ _ (sym c.check.ensures.is ∙ ap as_answer c.in_ok-counts.was) (subst (FoundAt c.args.file.now c.args.place) c.in-Some.is c.find.ensures)))
