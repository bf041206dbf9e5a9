-- Where the bytes stand: in which file, from where on and how many; or whose refusal, by its file's mark, its code and its place.
-- Assumes nothing.
use Rattle.std.specs.Prelude.{ℕ}

pub data Found : Type 0 where
  Corrected : ℕ → ℕ → Found
  Deposited : ℕ → ℕ → Found
  Refused : ℕ → ℕ → ℕ → Found
