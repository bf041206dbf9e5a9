-- Numbers and values handed over apart, or numbers and two angles, are found again in the samples that they make, and these are within
-- the limits of their family. Assumes nothing.
use mathlib.Core.Path.{◌≡◌, refl, ap, ap₂, ◌∙◌}
use Prim.Native.Nat.{ℕ, suc, ◌+◌, ◌*◌, ◌/◌, ◌%◌, ◌^◌, ◌<◌}
use mathlib.Core.Bool.{true, false≢true}
use mathlib.Core.List.{List, [], ◌∷◌}
use native.Mathlib.Omega.{arith}
use lib.IntN.{ℤ}
use lib.ListN.{length}
use Rattle.order.specs.Order.{signed_of, pattern_of}
use Rattle.layout.specs.Families.{Family, wide, narrow, encoded, wide_angles, narrow_angles, has_u, has_c, number_bytes, value_count}
use Rattle.samples.specs.Words.{Below}
use Rattle.samples.specs.Lists.{handed_bytes, paired, angled, numbers_of, values_of, alongship_of, athwartship_of}
use Rattle.samples.proofs.Words.{Within, number_limit, value_limit}
use Rattle.samples.proofs.Apart.{Ints, paired-within}
use Rattle.roundtrip.specs.Held.{InRange}
use Rattle.roundtrip.specs.Pings.{EachInt}
use Rattle.roundtrip.proofs.Rows.{signed-pattern, pattern-below}

-- ---- families: those with words have one value a sample, those with two angles are uncompressed
pub one_value : (f : Family) → has_c f ≡ true → value_count f ≡ 1
one_value wide e = refl
one_value narrow e = refl
one_value encoded e = refl
one_value wide_angles e = absurd (false≢true e)
one_value narrow_angles e = absurd (false≢true e)

pub angles_u : (f : Family) → value_count f ≡ 2 → has_u f ≡ true
angles_u wide e = absurd (omega (arith, e))
angles_u narrow e = absurd (omega (arith, e))
angles_u encoded e = absurd (omega (arith, e))
angles_u wide_angles e = refl
angles_u narrow_angles e = refl

-- ---- numbers and values
numbers-paired : (w : ℕ) (ns : List ℕ) (vs : List ℤ) → length vs ≡ length ns → numbers_of (paired w ns vs) ≡ ns
numbers-paired w [] vs e = refl
numbers-paired w (n ∷ ns) [] e = absurd (omega arith)
numbers-paired w (n ∷ ns) (v ∷ vs) e = ap (λ (l : List ℕ). n ∷ l) (numbers-paired w ns vs (omega arith))

values-by : (w : ℕ) → ((z : ℤ) → InRange w z → signed_of w (pattern_of w z) ≡ z) → (ns : List ℕ) (vs : List ℤ) → length vs ≡ length ns
    → EachInt w vs → values_of w (paired w ns vs) ≡ vs
values-by w back [] [] e g = refl
values-by w back [] (v ∷ vs) e g = absurd (omega arith)
values-by w back (n ∷ ns) [] e g = absurd (omega arith)
values-by w back (n ∷ ns) (v ∷ vs) e g =
    ap₂ (λ (x : ℤ) (l : List ℤ). x ∷ l) (back v g.0) (values-by w back ns vs (omega arith) g.1)

module _ (f : Family) (ns : List ℕ) (vs : List ℤ) (e : length vs ≡ length ns) where
  pub numbers_apart : numbers_of (paired (handed_bytes f) ns vs) ≡ ns
  numbers_apart = numbers-paired (handed_bytes f) ns vs e

  pub values-apart : EachInt (handed_bytes f) vs → values_of (handed_bytes f) (paired (handed_bytes f) ns vs) ≡ vs
  values-apart = values-by (handed_bytes f) (signed f) ns vs e
    where
      signed : (g : Family) (z : ℤ) → InRange (handed_bytes g) z → signed_of (handed_bytes g) (pattern_of (handed_bytes g) z) ≡ z
      signed wide z h = signed-pattern 3 z h
      signed narrow z h = signed-pattern 1 z h
      signed encoded z h = signed-pattern 3 z h
      signed wide_angles z h = signed-pattern 1 z h
      signed narrow_angles z h = signed-pattern 1 z h

ints : (w : ℕ) (vs : List ℤ) → EachInt w vs → Ints w vs
ints w [] g = tt
ints w (v ∷ vs) g = (omega (arith, g.0), ints w vs g.1)

-- a value is stored as it is handed over, where there is one of an uncompressed kind
pub within-apart : (f : Family) → has_u f ≡ true → value_count f ≡ 1 → (ns : List ℕ) (vs : List ℤ) → Below (256 ^ number_bytes f) ns
    → EachInt (handed_bytes f) vs → Within (number_limit f) (value_limit f) (paired (handed_bytes f) ns vs)
within-apart wide u c ns vs b g = paired-within (256 ^ 4) 4 ns vs b (ints 4 vs g)
within-apart narrow u c ns vs b g = paired-within (256 ^ 2) 2 ns vs b (ints 2 vs g)
within-apart encoded u c ns vs b g = absurd (false≢true u)
within-apart wide_angles u c ns vs b g = absurd (omega (arith, c))
within-apart narrow_angles u c ns vs b g = absurd (omega (arith, c))

-- ---- numbers and two angles
pub numbers-angled : (ns : List ℕ) (xs ys : List ℤ) → length xs ≡ length ns → length ys ≡ length ns → numbers_of (angled ns xs ys) ≡ ns
numbers-angled [] xs ys d e = refl
numbers-angled (n ∷ ns) [] ys d e = absurd (omega arith)
numbers-angled (n ∷ ns) (x ∷ xs) [] d e = absurd (omega arith)
numbers-angled (n ∷ ns) (x ∷ xs) (y ∷ ys) d e = ap (λ (l : List ℕ). n ∷ l) (numbers-angled ns xs ys (omega arith) (omega arith))

-- the lower half and the upper one
lower : (a b : ℕ) → a < 65536 → (a + 65536 * b) % 65536 ≡ a
lower a b h = omega arith

upper : (a b : ℕ) → a < 65536 → (a + 65536 * b) / 65536 ≡ b
upper a b h = omega arith

pub alongship-angled : (ns : List ℕ) (xs ys : List ℤ) → length xs ≡ length ns → length ys ≡ length ns → EachInt 2 xs
    → alongship_of (angled ns xs ys) ≡ xs
alongship-angled [] [] ys d e g = refl
alongship-angled [] (x ∷ xs) ys d e g = absurd (omega arith)
alongship-angled (n ∷ ns) [] ys d e g = absurd (omega arith)
alongship-angled (n ∷ ns) (x ∷ xs) [] d e g = absurd (omega arith)
alongship-angled (n ∷ ns) (x ∷ xs) (y ∷ ys) d e g =
    let half = lower (pattern_of 2 x) (pattern_of 2 y) (pattern-below 1 x g.0) in
    ap₂ (λ (z : ℤ) (l : List ℤ). z ∷ l) (ap (signed_of 2) half ∙ signed-pattern 1 x g.0)
    (alongship-angled ns xs ys (omega arith) (omega arith) g.1)

pub athwartship-angled : (ns : List ℕ) (xs ys : List ℤ) → length xs ≡ length ns → length ys ≡ length ns → EachInt 2 xs → EachInt 2 ys
    → athwartship_of (angled ns xs ys) ≡ ys
athwartship-angled [] xs [] d e g k = refl
athwartship-angled [] xs (y ∷ ys) d e g k = absurd (omega arith)
athwartship-angled (n ∷ ns) [] ys d e g k = absurd (omega arith)
athwartship-angled (n ∷ ns) (x ∷ xs) [] d e g k = absurd (omega arith)
athwartship-angled (n ∷ ns) (x ∷ xs) (y ∷ ys) d e g k =
    let half = upper (pattern_of 2 x) (pattern_of 2 y) (pattern-below 1 x g.0) in
    ap₂ (λ (z : ℤ) (l : List ℤ). z ∷ l) (ap (signed_of 2) half ∙ signed-pattern 1 y k.0)
    (athwartship-angled ns xs ys (omega arith) (omega arith) g.1 k.1)

angled-below : (m : ℕ) (ns : List ℕ) (xs ys : List ℤ) → Below m ns → EachInt 2 xs → EachInt 2 ys
    → Within m ((256 ^ 2) ^ 2) (angled ns xs ys)
angled-below m [] xs ys b g k = tt
angled-below m (n ∷ ns) [] ys b g k = tt
angled-below m (n ∷ ns) (x ∷ xs) [] b g k = tt
angled-below m (n ∷ ns) (x ∷ xs) (y ∷ ys) b g k =
    let p : pattern_of 2 x < 65536 = pattern-below 1 x g.0 in
    let q : pattern_of 2 y < 65536 = pattern-below 1 y k.0 in
    (b.0, omega arith, angled-below m ns xs ys b.1 g.1 k.1)

pub within-angled : (f : Family) → value_count f ≡ 2 → (ns : List ℕ) (xs ys : List ℤ) → Below (256 ^ number_bytes f) ns
    → EachInt 2 xs → EachInt 2 ys → Within (number_limit f) (value_limit f) (angled ns xs ys)
within-angled wide c ns xs ys b g k = absurd (omega (arith, c))
within-angled narrow c ns xs ys b g k = absurd (omega (arith, c))
within-angled encoded c ns xs ys b g k = absurd (omega (arith, c))
within-angled wide_angles c ns xs ys b g k = angled-below (256 ^ 4) ns xs ys b g k
within-angled narrow_angles c ns xs ys b g k = angled-below (256 ^ 2) ns xs ys b g k
