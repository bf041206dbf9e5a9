-- `samples::is_bad` meets its contract. Assumes nothing.
use Rattle.std.proofs.Common.{refl}
use Rattle.layout.specs.Families.{is_bad}
use Rattle.samples.proofs.is_bad.Goals as goal

pub returns : goal.returns
unfolding is_bad
returns c = refl
