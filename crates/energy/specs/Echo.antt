-- What is told of a ping: its energy in units of 10^-14, with what the file's acceptance counts; or a refusal. Assumes nothing.
use Rattle.std.specs.Prelude.{ℕ}
use Rattle.layout.specs.declared.Counts.{Counts}

pub data Echo : Type 0 where
  Sum : ℕ → Counts → Echo
  Refused : ℕ → ℕ → Echo
