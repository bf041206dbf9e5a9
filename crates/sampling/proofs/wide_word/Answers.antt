-- `sampling::wide_word` meets its contract: a run passes its samples, a value is the sample's. Assumes nothing.
use Rattle.std.proofs.Common.{refl, sym, ◌∙◌, arith, rules}
use lib.Dec.{lit<}
use mir.Syntax.{w32}
use mir.ValLaws.{to_z-of_z}
use Rattle.layout.specs.Families.{wide}
use Rattle.samples.specs.Runs.{radix}
use Rattle.samples.specs.Values.{meant}
use Rattle.samples.proofs.Runs.{run_short}
use Rattle.sampling.proofs.Walking.{run-passed, value-passed}
use Rattle.sampling.proofs.wide_word.Goals as goal

pub overflow_add-result : goal.overflow_add-result
overflow_add-result c = omega (arith, c.run_length.ensures, run_short radix (lit< tt) c.args.word)

pub returns-then-is_run : goal.returns-then-is_run
returns-then-is_run c = run-passed wide refl _ _ (sym c.is_run.ensures ∙ c.if-is_run.true) c.run_length.ensures

pub returns : goal.returns
unfolding meant
returns c =
    let v = to_z-of_z w32 c.signed4.result (search rules) ∙ c.signed4.ensures in
    value-passed wide refl _ _ (sym c.is_run.ensures ∙ c.if-is_run.false) v
