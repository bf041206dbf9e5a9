-- A count's word is its code.
use Rattle.std.proofs.Common.{rules}
use Rattle.samples.specs.Values.{word_for}
use Rattle.spelling16.proofs.write.CountsHanded.word.Goals as goal

pub returns : goal.returns
unfolding word_for
returns c = search rules
