-- `intake::ask` meets its contract: the check's refusal, or what is asked of an accepted file. Assumes nothing.
use Rattle.std.proofs.Common.{sym, ap, ◌∙◌}
use Rattle.std.proofs.lemmas.Result.{err_from_is_err_and}
use Rattle.layout.specs.Views.{as_answer}
use Rattle.layout.specs.Answers.{tells}
use Rattle.intake.specs.Asking.{ask_checked, ask_at}
use Rattle.intake.proofs.ask.Goals as goal

pub returns-in_err-counts : goal.returns-in_err-counts
unfolding ask_at
returns-in_err-counts c =
    let p = err_from_is_err_and c.from_residual.result c.from_residual.ensures.1 in
    rw (p.1, p.2) (tells (sym (ap (ask_checked c.args.file.now c.args.place) (sym c.check.ensures.is ∙ ap as_answer c.in_err-counts.was))))

pub returns : goal.returns
unfolding ask_at
returns c =
    tells (c.ask_accepted.ensures
    ∙ sym (ap (ask_checked c.args.file.now c.args.place) (sym c.check.ensures.is ∙ ap as_answer c.in_ok-counts.was)))
