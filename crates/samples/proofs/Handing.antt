-- Samples handed over one at a time into two slices, values of w bytes: what is still to come, and what a turn hands over. Assumes nothing.
use mathlib.Core.Path.{◌≡◌, refl, subst, ◌∙◌}
use mathlib.Core.List.{List, [], ◌∷◌}
use Prim.Native.Nat.{ℕ, suc, ◌+◌, ◌≤◌, ◌<◌}
use native.Mathlib.Omega.{arith}
use lib.IntN.{ℤ}
use lib.ListN.{length, set, length-set}
use lib.Seq.{sets}
use Rattle.order.specs.Order.{signed_of}
use Rattle.samples.specs.Words.{Sample}
use Rattle.samples.specs.Lists.{numbers_of, values_of}
use Rattle.samples.specs.inner.Lists.{Room}

-- samples s are to stand in the slices ns₀ and vs₀; those left are still to come, from entry j on
pub record Handing (w : ℕ) (s left : List Sample) (ns₀ : List ℕ) (vs₀ : List ℤ) (ns : List ℕ) (vs : List ℤ) (j : ℕ) : Type 0 where
  pub long_numbers : length ns ≡ length ns₀
  pub long_values : length vs ≡ length vs₀
  pub room_numbers : j + length left ≤ length ns₀
  pub room_values : j + length left ≤ length vs₀
  pub numbers : sets ns j (numbers_of left) ≡ sets ns₀ 0 (numbers_of s)
  pub values : sets vs j (values_of w left) ≡ sets vs₀ 0 (values_of w s)

pub handing_begin : {w : ℕ} {s : List Sample} {ns : List ℕ} {vs : List ℤ} → Room s ns vs → Handing w s s ns vs ns vs 0
handing_begin r =
    record {
      long_numbers = refl;
      long_values = refl;
      room_numbers = omega (arith, r.for_numbers);
      room_values =
          omega (arith, r.for_values);
      numbers = refl;
      values = refl;
    }

-- by another name for what is left
pub handing_as : {w : ℕ} {s left rest : List Sample} {ns₀ : List ℕ} {vs₀ : List ℤ} {ns : List ℕ} {vs : List ℤ} {j : ℕ} → left ≡ rest
    → Handing w s left ns₀ vs₀ ns vs j → Handing w s rest ns₀ vs₀ ns vs j
handing_as {w} {s} {ns₀ = ns₀} {vs₀ = vs₀} {ns = ns} {vs = vs} {j = j} e h = subst (λ (l : List Sample). Handing w s l ns₀ vs₀ ns vs j) e h

-- one more handed over, its value v as the code has it
pub handing_one : {w : ℕ} {s r : List Sample} (x : Sample) (v : ℤ) {ns₀ : List ℕ} {vs₀ : List ℤ} {ns : List ℕ} {vs : List ℤ} {j : ℕ}
    → v ≡ signed_of w x.1
    → Handing w s (x ∷ r) ns₀ vs₀ ns vs j → Handing w s r ns₀ vs₀ (set ns j x.0) (set vs j v) (j + 1)
handing_one x v {ns = ns} {vs = vs} {j = j} z h =
    let e : j + 1 ≡ suc j = omega arith in
    record {
      long_numbers = length-set ns j x.0 ∙ h.long_numbers;
      long_values = length-set vs j v ∙ h.long_values;
      room_numbers = omega (arith, h.room_numbers);
      room_values = omega (arith, h.room_values);
      numbers = rw e h.numbers;
      values = rw (e, z) h.values;
    }

-- none is left
pub handing_end : {w : ℕ} {s : List Sample} {ns₀ : List ℕ} {vs₀ : List ℤ} {ns : List ℕ} {vs : List ℤ} {j : ℕ}
    → Handing w s [] ns₀ vs₀ ns vs j
    → (ns ≡ sets ns₀ 0 (numbers_of s)) × (vs ≡ sets vs₀ 0 (values_of w s))
handing_end h = (h.numbers, h.values)

-- there is an entry for one still to come
pub entry-numbers : {w : ℕ} {s r : List Sample} {x : Sample} {ns₀ : List ℕ} {vs₀ : List ℤ} {ns : List ℕ} {vs : List ℤ} {j : ℕ}
    → Handing w s (x ∷ r) ns₀ vs₀ ns vs j → j < length ns
entry-numbers h = omega (arith, h.room_numbers, h.long_numbers)

pub entry-values : {w : ℕ} {s r : List Sample} {x : Sample} {ns₀ : List ℕ} {vs₀ : List ℤ} {ns : List ℕ} {vs : List ℤ} {j : ℕ}
    → Handing w s (x ∷ r) ns₀ vs₀ ns vs j → j < length vs
entry-values h = omega (arith, h.room_values, h.long_values)
