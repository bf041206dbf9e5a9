-- An arm that turns the row of a listing: a row without the dots behind its codes has the same fields. Assumes nothing.
use mathlib.Core.Path.{◌≡◌, sym, ap, ◌∙◌}
use mathlib.Core.Bool.{Bool}
use mathlib.Core.List.{List, []}
use Prim.Native.Nat.{ℕ, zero, suc, ◌+◌, ◌≤◌, ◌<◌}
use native.Mathlib.Omega.{arith}
use lib.ListN.{length, take, drop, get_or}
use lib.Seq.{sets}
use Rattle.layout.specs.Fields.{Field, size}
use Rattle.layout.specs.inner.Codes.{fields_of, row_codes}
use Rattle.layout.proofs.Rows.{cut}
use Rattle.turning.specs.Rows.{turned}
use Rattle.forms.specs.inner.Parts.{listed_fields}

-- in an arm for listing k, whose row is r and has n fields
module _ {listing k n : ℕ} {r : List ℕ} (e : listing ≡ k) (h : r ≡ get_or row_codes k []) (c : n ≡ length (listed_fields k)) where
  of_listing : fields_of (take n r) ≡ listed_fields listing
  of_listing =
      ap (λ (l : List ℕ). fields_of (take n l)) h
      ∙ ap (λ (i : ℕ). fields_of (take i (get_or row_codes k []))) c
      ∙ cut (get_or row_codes k [])
      ∙ sym (ap (λ (i : ℕ). listed_fields i) e)

  -- what its call asks
  pub asked : (at to : ℕ) (f out : List ℕ) → at + size (listed_fields listing) ≤ length f → to + size (listed_fields listing) ≤ length out
      → (at + size (fields_of (take n r)) ≤ length f) × (to + size (fields_of (take n r)) ≤ length out)
  asked at to f out a b = let z = ap (λ (fs : List Field). size fs) of_listing in (omega (arith, a), omega (arith, b))

  -- and what it leaves
  pub left : (at to : ℕ) (o : Bool) (f out : List ℕ) {now : List ℕ} → now ≡ sets out to (turned o (fields_of (take n r)) (drop at f))
      → now ≡ sets out to (turned o (listed_fields listing) (drop at f))
  left at to o f out g = g ∙ ap (λ (fs : List Field). sets out to (turned o fs (drop at f))) of_listing

-- ---- k is none of n .. n + d - 1, as a match on it leaves it
abbrev NoneFrom : ℕ → ℕ → ℕ → Type 0
NoneFrom n zero k = Unit {0}
NoneFrom n (suc d) k = NoneFrom n d k × (k ≡ n + d → ⊥)

pub below : (n d k : ℕ) → k < n + d → NoneFrom n d k → k < n
below n zero k h z = omega arith
below n (suc d) k h z = below n d k (omega (arith, z.1)) z.0
