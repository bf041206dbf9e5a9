-- Made from views/records.txt by views/make.
-- What reading gives: the record, or a refusal. Assumes nothing.
use Rattle.std.specs.Prelude.{ℕ}
use Rattle.position.specs.declared.Position.{Position}

pub data PositionRead : Type 0 where
  Read : Position → PositionRead
  Refused : ℕ → ℕ → PositionRead
