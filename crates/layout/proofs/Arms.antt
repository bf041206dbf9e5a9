-- A table read by a `match` on its listing, an arm for each. Assumes nothing.
use mathlib.Core.Path.{◌≡◌, sym, ap, ◌∙◌}
use mathlib.Core.List.{List}
use Prim.Native.Nat.{ℕ, zero, suc, ◌≤◌}
use native.Mathlib.Omega.{arith}
use lib.ListN.{get_or}

-- an arm of the match: the listing is the arm's, whose entry computes
pub arm : {A : Type 0} (table : List A) (d : A) {k n : ℕ} {r : A} → k ≡ n → get_or table n d ≡ r → r ≡ get_or table k d
arm table d e h = sym h ∙ sym (ap (λ (i : ℕ). get_or table i d) e)

-- k is none of 0 .. n - 1
abbrev NoneBelow : ℕ → ℕ → Type 0
NoneBelow zero k = Unit {0}
NoneBelow (suc n) k = NoneBelow n k × (k ≡ n → ⊥)

pub at_least : (n k : ℕ) → NoneBelow n k → n ≤ k
at_least zero k h = omega arith
at_least (suc n) k h = omega (arith, at_least n k h.0, h.1)
