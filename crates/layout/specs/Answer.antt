-- What intake says: it accepts and counts, or it refuses with the code and the place of the first broken rule. Assumes nothing.
use Rattle.std.specs.Prelude.{ℕ}
use Rattle.layout.specs.declared.Counts.{Counts}

pub data Answer : Type 0 where
  Accepted : Counts → Answer
  Refused : ℕ → ℕ → Answer
