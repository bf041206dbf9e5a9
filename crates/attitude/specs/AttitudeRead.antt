-- Made from views/records.txt by views/make.
-- What reading gives: the record, or a refusal. Assumes nothing.
use Rattle.std.specs.Prelude.{ℕ}
use Rattle.attitude.specs.declared.Attitude.{Attitude}

pub data AttitudeRead : Type 0 where
  Read : Attitude → AttitudeRead
  Refused : ℕ → ℕ → AttitudeRead
