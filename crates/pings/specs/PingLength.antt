-- A ping's length: how many samples it has, or none. Assumes nothing.
use Rattle.std.specs.Prelude.{ℕ, Option}

abbrev pub PingLength : Type 0
PingLength = Option ℕ
