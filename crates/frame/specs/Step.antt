-- What a step yields: a tuple, by its place, its length, its type and the walk past it; the end; or a refusal. Assumes nothing.
use Rattle.std.specs.Prelude.{ℕ}
use Rattle.frame.specs.declared.Walk.{Walk}

pub data Step : Type 0 where
  Tuple : ℕ → ℕ → ℕ → Walk → Step
  End : Step
  Refused : ℕ → ℕ → Step
