-- `sampling::narrow_value` meets its contract: a run, or the word's value. Assumes nothing.
use Rattle.std.proofs.Common.{◌∙◌, rules}
use mir.Syntax.{w32}
use mir.ValLaws.{to_z-of_z}
use Rattle.samples.specs.inner.Narrow.{words_by}
use Rattle.sampling.proofs.Walking.{radix-by}
use Rattle.sampling.proofs.Values.{word-valued}
use Rattle.sampling.proofs.narrow_value.Goals as goal

pub returns : goal.returns
returns c =
    let b = c.args.encoded in
    let v = to_z-of_z w32 c.value_of.result (search rules) ∙ c.value_of.ensures in
    word-valued (words_by b) (radix-by b) c.args.word c.is_run.ensures v c.then_some.ensures
