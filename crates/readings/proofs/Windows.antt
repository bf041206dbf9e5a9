-- Windows of readings: a reading for each number, and what each is. Assumes nothing.
use mathlib.Core.Path.{◌≡◌, refl, ap, ◌∙◌}
use mathlib.Core.Bool.{Bool, true, false}
use mathlib.Core.List.{List, [], ◌∷◌}
use mathlib.Core.Option.{some, none}
use Prim.Native.Nat.{ℕ, zero, suc, ◌+◌, ◌<◌, min}
use native.Mathlib.Nat.{not-suc-le-zero, le_of_suc-le-suc}
use native.Mathlib.Omega.{arith}
use borrow.Author.Tests.{ne_eqb, ltb-true, ltb-false}
use lib.Dec.{eqb, ltb}
use lib.ListN.{length, get_or}
use Rattle.layout.specs.Families.{Family}
use Rattle.samples.specs.Words.{Sample}
use Rattle.samples.proofs.Rising.{Rising}
use Rattle.quantities.specs.declared.Quantity.{Quantity}
use Rattle.readings.specs.declared.Reading.TheVariants.{Silent}
use Rattle.readings.specs.Readings.{value_at, reading_at, readings_from, shorter}

-- ---- the value of a sample number: this sample's, or that of one behind it
pub value-here : (i : ℕ) (x : Sample) (s : List Sample) → eqb x.0 i ≡ true → value_at i (x ∷ s) ≡ some x.1
unfolding value_at
value-here i x s e = rw (e, value_at)

pub value-later : (i : ℕ) (x : Sample) (s : List Sample) → eqb x.0 i ≡ false → value_at i (x ∷ s) ≡ value_at i s
unfolding value_at
value-later i x s e = rw (e, value_at)

-- none before the first of numbers that rise
pub value_before : (s : List Sample) (i n : ℕ) → i < n → Rising n s → value_at i s ≡ none
value_before [] i n h r = unfold value_at in refl
value_before (x ∷ s) i n h r =
    value-later i x s (ne_eqb x.0 i (λ z. omega (arith, r.0))) ∙ value_before s i (x.0 + 1) (omega (arith, r.0)) r.1

-- ---- windows
module _ (x : Quantity) (f : Family) (s : List Sample) where
  pub window : (first n : ℕ) → length (readings_from x f s first n) ≡ n
  unfolding readings_from
  window first zero = refl
  window first (suc n) = ap suc (window (first + 1) n)

  pub nth : (first n i : ℕ) → i < n → get_or (readings_from x f s first n) i Silent ≡ reading_at x f s (first + i)
  unfolding readings_from
  nth first zero i h = absurd (not-suc-le-zero h)
  nth first (suc n) zero h = ap (reading_at x f s) (omega arith)
  nth first (suc n) (suc i) h = nth (first + 1) n i (le_of_suc-le-suc h) ∙ ap (reading_at x f s) (omega arith)

-- ---- the shorter of two lengths
pub shorter-min : (a b : ℕ) → min a b ≡ shorter a b
unfolding shorter
shorter-min a b = by (ltb a b) refl
  where
    by : (x : Bool) → ltb a b ≡ x → min a b ≡ elim x as (λ _. ℕ) [ true ↦ a | false ↦ b ]
    by true e = omega (arith, ltb-true a b e)
    by false e = omega (arith, ltb-false a b e)
