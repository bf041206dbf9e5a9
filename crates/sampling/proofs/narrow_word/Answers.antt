-- `sampling::narrow_word` meets its contract: a run passes its samples, a value is the sample's. Assumes nothing.
use Rattle.std.proofs.Common.{sym, ◌∙◌, rules}
use mir.Syntax.{w32}
use mir.ValLaws.{to_z-of_z}
use Rattle.samples.specs.inner.Narrow.{words_by}
use Rattle.sampling.proofs.Walking.{radix-by, run-passed, value-passed}
use Rattle.sampling.proofs.narrow_word.Goals as goal

pub returns-then-is_run : goal.returns-then-is_run
returns-then-is_run c =
    let b = c.args.encoded in
    run-passed (words_by b) (radix-by b) _ _ (sym c.is_run.ensures ∙ c.if-is_run.true) c.run_length.ensures

pub returns : goal.returns
returns c =
    let b = c.args.encoded in
    let v = to_z-of_z w32 c.value_of.result (search rules) ∙ c.value_of.ensures in
    value-passed (words_by b) (radix-by b) _ _ (sym c.is_run.ensures ∙ c.if-is_run.false) v
