-- What is said of one tuple: it is fine, or the code of its first broken rule, with a place counted from the tuple's first byte. Assumes
-- nothing.
use Rattle.std.specs.Prelude.{ℕ}

pub data Verdict : Type 0 where
  Fine : Verdict
  Fault : ℕ → ℕ → Verdict
