-- Made from views/records.txt by views/make.
-- What reading gives: the record, or a refusal. Assumes nothing.
use Rattle.std.specs.Prelude.{ℕ}
use Rattle.run_end.specs.declared.RunEnd.{RunEnd}

pub data RunEndRead : Type 0 where
  Read : RunEnd → RunEndRead
  Refused : ℕ → ℕ → RunEndRead
