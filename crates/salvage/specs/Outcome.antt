-- What salvage says: the ranges of the file, the offsets tried, the tuples kept and the bytes written; or a refusal. Assumes nothing.
use Rattle.std.specs.Prelude.{ℕ}
use Rattle.layout.specs.declared.Counts.{Counts}

pub data Outcome : Type 0 where
  Saved : ℕ → ℕ → Counts → Outcome
  Refused : ℕ → ℕ → Outcome
