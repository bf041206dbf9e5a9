-- A value is its own word.
use Rattle.std.proofs.Common.{rules}
use Rattle.samples.specs.Values.{word_for}
use Rattle.spelling.proofs.write.WideHanded.word.Goals as goal

pub returns : goal.returns
unfolding word_for
returns c = search rules
