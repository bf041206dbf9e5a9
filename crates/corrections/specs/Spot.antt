-- Where a ping stands in a file, and its length; or that none is there. Assumes nothing.
use Rattle.std.specs.Prelude.{ℕ}

pub data Spot : Type 0 where
  At : ℕ → ℕ → Spot
  Nowhere : Spot
