-- What the rules between tuples say of one: a fault; or that it is linked, and by how many identifiers compared. Assumes nothing.
use Rattle.std.specs.Prelude.{ℕ}

pub data LinkVerdict : Type 0 where
  Faulty : ℕ → ℕ → LinkVerdict
  Linked : ℕ → LinkVerdict
