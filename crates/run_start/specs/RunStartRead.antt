-- Made from views/records.txt by views/make.
-- What reading gives: the record, or a refusal. Assumes nothing.
use Rattle.std.specs.Prelude.{ℕ}
use Rattle.run_start.specs.declared.RunStart.{RunStart}

pub data RunStartRead : Type 0 where
  Read : RunStart → RunStartRead
  Refused : ℕ → ℕ → RunStartRead
