-- Made from views/records.txt by views/make.
-- What reading gives: the record, or a refusal. Assumes nothing.
use Rattle.std.specs.Prelude.{ℕ}
use Rattle.threshold.specs.declared.Threshold.{Threshold}

pub data ThresholdRead : Type 0 where
  Read : Threshold → ThresholdRead
  Refused : ℕ → ℕ → ThresholdRead
