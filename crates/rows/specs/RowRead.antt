-- What reading a record's numbers gives: where its characters stand, or a refusal. Assumes nothing.
use Rattle.std.specs.Prelude.{ℕ}
use Rattle.tuples.specs.declared.Part.{Part}

pub data RowRead : Type 0 where
  Read : Part → RowRead
  Refused : ℕ → ℕ → RowRead
