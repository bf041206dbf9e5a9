-- What reading a ping's fields gives: its header, attribute, kind, number of values and length; or a refusal. Assumes nothing.
use Rattle.std.specs.Prelude.{ℕ, ℤ}
use Rattle.pings.specs.declared.PingHeader.{PingHeader}
use Rattle.pings.specs.declared.PingKind.{PingKind}
use Rattle.pings.specs.PingLength.{PingLength}

pub data PingRead : Type 0 where
  Read : PingHeader → ℤ → PingKind → ℕ → PingLength → PingRead
  Refused : ℕ → ℕ → PingRead
