-- `corrections::look` meets its contract: the deposit's check, the corrections' check, then both searches. Assumes nothing.
use Rattle.std.proofs.Common.{sym, ap, ◌∙◌}
use Rattle.layout.specs.Views.{as_answer}
use Rattle.corrections.proofs.Choices.{found_deposit, found-corrections, found-both}
use Rattle.corrections.proofs.look.Goals as goal

pub returns-in-Err-clause-value : goal.returns-in-Err-clause-value
returns-in-Err-clause-value c = found_deposit _ _ _ _ _ _ (sym c.check.ensures.is ∙ ap as_answer c.in-Err.is)

pub returns-in-Err-check-clause-value : goal.returns-in-Err-check-clause-value
returns-in-Err-check-clause-value c =
    found-corrections _ _ _ _ (sym c.check.ensures.is ∙ ap as_answer c.in_default.is) _ _
    (sym c.check-2.ensures.is ∙ ap as_answer c.in-Err-check.is)

pub returns-clause-value : goal.returns-clause-value
returns-clause-value c =
    found-both _ _ _ _ (sym c.check.ensures.is ∙ ap as_answer c.in_default.is)
    (sym c.check-2.ensures.is ∙ ap as_answer c.in_default-check.is) c.choose.ensures
    c.find-corrected.ensures.value c.find-deposited.ensures.value
