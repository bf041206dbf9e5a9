-- A value is its own word.
use Rattle.std.proofs.Common.{◌≡◌, refl, arith, rules}
use Rattle.order.specs.Order.{pattern_of}
use Rattle.layout.specs.Families.{wide}
use Rattle.samples.specs.Values.{meant, word_for}
use Rattle.samples.proofs.Written.{wordless-same}
use Rattle.spelling.proofs.write.is_wordless.Goals as goal

pub returns : goal.returns
unfolding word_for meant
returns c =
    let w = c.pattern4-word.result in
    let e : w ≡ pattern_of 4 c.args.value = search rules in
    rw (← e, wordless-same wide w refl refl (omega arith), c.is_run.ensures, c.is_bad.ensures)
