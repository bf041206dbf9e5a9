-- `sampling::wide_value` meets its contract: a run, or the word's value. Assumes nothing.
use Rattle.std.proofs.Common.{refl, ◌∙◌, rules}
use mir.Syntax.{w32}
use mir.ValLaws.{to_z-of_z}
use Rattle.layout.specs.Families.{wide}
use Rattle.samples.specs.Values.{meant}
use Rattle.sampling.proofs.Values.{word-valued}
use Rattle.sampling.proofs.wide_value.Goals as goal

pub returns : goal.returns
unfolding meant
returns c =
    let v = to_z-of_z w32 c.signed4.result (search rules) ∙ c.signed4.ensures in
    word-valued wide refl c.args.word (search rules) v c.then_some.ensures
