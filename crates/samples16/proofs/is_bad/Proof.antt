-- `samples16::is_bad` meets its contract. Assumes nothing.
use mathlib.Core.Path.{refl}
use Rattle.samples16.proofs.is_bad.Statement.{statement}
use Rattle.samples16.proofs.is_bad.Tie as tie

pub is_bad_spec : {M : Type 1} → statement M
is_bad_spec = tie.close (tie.spec
    (λ c. refl))
