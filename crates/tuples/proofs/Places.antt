-- Where the fields of a tuple stand, said once for every record, since a search at each field costs the check far more. Assumes nothing.
use mathlib.Core.Path.{◌≡◌}
use mathlib.Core.Bool.{true}
use Prim.Native.Nat.{ℕ, ◌+◌, ◌^◌, ◌≤◌, ◌<◌}
use native.Mathlib.Omega.{arith}
use borrow.Author.Tests.{leb-true}
use mir.Syntax.{w64}
use mir.Val.{Fits}
use lib.Dec.{leb}

-- a tuple of m bytes at p, in a file of l bytes
module _ (p m l : ℕ) (inside : p + m ≤ l) where
  -- a field's place is a number of 64 bits
  pub field-place : l < 2 ^ 64 → (k : ℕ) → leb k m ≡ true → Fits w64 (p + k)
  field-place small k e = record { fits = omega (arith, leb-true k m e) }

  -- and its w bytes are the file's
  pub field-ends : (k w : ℕ) → leb (k + w) m ≡ true → p + k + w ≤ l
  field-ends k w e = omega (arith, leb-true (k + w) m e)
