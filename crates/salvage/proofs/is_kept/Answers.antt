-- `salvage::is_kept` meets its contract: by the sums, or by the verdict on the tuple. Assumes nothing.
use Rattle.std.proofs.Common.{ap, ◌∙◌}
use Rattle.layout.specs.Answers.{is_fine}
use Rattle.layout.proofs.Views.{ok_fine}
use Rattle.salvage.proofs.is_kept.Goals as goal

pub returns : goal.returns
returns c = c.is_ok.ensures.value ∙ ok_fine _ ∙ ap is_fine c.judge_alone.ensures
