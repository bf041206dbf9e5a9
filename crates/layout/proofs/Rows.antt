-- A row of codes and its fields. Assumes nothing.
use mathlib.Core.Path.{◌≡◌, refl, ap}
use mathlib.Core.List.{List, [], ◌∷◌}
use mathlib.Core.Option.{Option, some, none}
use Prim.Native.Nat.{ℕ, ◌+◌, ◌≤◌}
use native.Mathlib.Omega.{arith}
use lib.ListN.{length, take}
use Rattle.layout.specs.Fields.{Field}
use Rattle.layout.specs.inner.Codes.{field_of, fields_from, fields_of}

-- a row without the dots behind its codes has the same fields
cut_at : (k : ℕ) (ks : List ℕ) → fields_of (take (length (fields_of ks)) ks) ≡ fields_of ks
    → (o : Option Field) → field_of k ≡ o → fields_of (take (length (fields_from o (fields_of ks))) (k ∷ ks)) ≡ fields_from o (fields_of ks)
unfolding fields_of
cut_at k ks h none e = refl
cut_at k ks h (some f) e = rw e (ap (λ (fs : List Field). f ∷ fs) h)

pub cut : (r : List ℕ) → fields_of (take (length (fields_of r)) r) ≡ fields_of r
unfolding fields_of
cut [] = refl
cut (k ∷ ks) = cut_at k ks (cut ks) (field_of k) refl

-- no more fields than codes
fewer-at : (n : ℕ) (fs : List Field) → length fs ≤ n → (o : Option Field) → length (fields_from o fs) ≤ n + 1
fewer-at n fs h none = omega arith
fewer-at n fs h (some f) = omega arith

pub fewer : (r : List ℕ) → length (fields_of r) ≤ length r
unfolding fields_of
fewer [] = omega arith
fewer (k ∷ ks) = omega (arith, fewer-at (length ks) (fields_of ks) (fewer ks) (field_of k))
