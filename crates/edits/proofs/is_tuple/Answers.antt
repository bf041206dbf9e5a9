-- `edits::is_tuple` meets its contract: by the verdict on the frame. Assumes nothing.
use Rattle.std.proofs.Common.{ap, ◌∙◌}
use Rattle.layout.specs.Answers.{is_fine}
use Rattle.layout.proofs.Views.{ok_fine}
use Rattle.edits.proofs.is_tuple.Goals as goal

pub returns : goal.returns
returns c = c.is_ok.ensures.value ∙ ok_fine _ ∙ ap is_fine c.judge_frame.ensures
