-- Laws of levels and stored values: stepping down, what is inside, that a louder sample never gives less, and the most of one. Assumes
-- nothing.
use Prim.Native.Nat.{ℕ, ◌-◌, ◌*◌, ◌/◌, ◌^◌, ◌≤◌, ◌<◌, zero-le, suc-le-suc}
use mathlib.Core.Path.{◌≡◌, refl, sym}
use mathlib.Core.Bool.{true, false, true≢false}
use native.Mathlib.Nat.{le_trans, mul-le-mul_right}
use native.Mathlib.Omega.{arith}
use borrow.Author.Tests.{leb-true, le-leb, lt-leb, ltb-true, ltb-false}
use lib.Dec.{lit≤}
use lib.ListN.{get_or}
use lib.IntN.{ℤ, pos, negsuc}
use lib.Signed.{le_z, lt_z}
use Rattle.rules.proofs.Bools.{both_true, and_false}
use Rattle.layout.specs.Families.{Family}
use Rattle.linear.specs.Roots.{roots}
use Rattle.linear.specs.Linear.{
  steps_of,
  tens_of,
  rest_of,
  scaled,
  linear_at,
  linear_below,
  millionths,
  negated,
  depth_of,
  is_inside,
  linear_of,
}
use Rattle.linear.specs.Results.{Stepped}
use Rattle.linear.proofs.Rule.{steps_fall}

-- ---- of a level
pub stepped : (d : ℕ) → Stepped d
stepped d = record { rest = omega arith; down = omega arith; next = omega arith }

depths_fall : (d e : ℕ) → d ≤ e → e ≤ 150000000 → linear_below e ≤ linear_below d
depths_fall d e h k = steps_fall (steps_of d) (steps_of e) (omega arith) (omega arith)

loudest : linear_at 0 ≤ 100000000000000
unfolding linear_at scaled roots
loudest = lit≤ tt

steps-most : (s : ℕ) → s ≤ 3000 → linear_at s ≤ 100000000000000
steps-most s h = le_trans (steps_fall 0 s zero-le h) loudest

pub below-most : (d : ℕ) → d ≤ 150000000 → linear_below d ≤ 100000000000000
below-most d h = steps-most (steps_of d) (omega arith)

-- as the code tells it: by an entry e and a power p of ten, with its bound
module _ (s : ℕ) {e p : ℕ} (h : s ≤ 3000) (entry : e ≡ get_or roots (rest_of s) 0) where
  pub told-up : tens_of s ≤ 8 → p ≡ 10 ^ (8 - tens_of s) → (e * p ≡ linear_at s) × (e * p ≤ 100000000000000)
  unfolding linear_at scaled
  told-up g power =
      let r : e * p ≡ linear_at s = rw (entry, power) (rw (le-leb _ _ g, scaled)) in
      (r, rw r (steps-most s h))

  pub told-down : 8 < tens_of s → p ≡ 10 ^ (tens_of s - 8) → (e / p ≡ linear_at s) × (e / p ≤ 100000000000000)
  unfolding linear_at scaled
  told-down g power =
      let r : e / p ≡ linear_at s = rw (entry, power) (rw (lt-leb _ _ g, scaled)) in
      (r, rw r (steps-most s h))

-- ---- of a stored value: what is inside lies at most 150 dB below 0
pub deep : (f : Family) (v : ℤ) → is_inside f v ≡ true → depth_of f v ≤ 150000000
unfolding is_inside
deep f v e = leb-true _ _ (both_true (le_z v (pos 0)) _ e).1

nearer : (v w : ℤ) → le_z v w ≡ true → negated w ≤ negated v
nearer v (pos m) e = zero-le
nearer (pos n) (negsuc m) e = absurd (true≢false (sym e))
nearer (negsuc n) (negsuc m) e = suc-le-suc (leb-true m n e)

-- a louder sample never gives less
pub louder : (f : Family) (v w : ℤ) → is_inside f v ≡ true → is_inside f w ≡ true → le_z v w ≡ true → linear_of f v ≤ linear_of f w
unfolding linear_of
louder f v w i j e = depths_fall (depth_of f w) (depth_of f v) (mul-le-mul_right (millionths f) (nearer v w e)) (deep f v i)

pub most : (f : Family) (v : ℤ) → is_inside f v ≡ true → linear_of f v ≤ 100000000000000
unfolding linear_of
most f v i = below-most (depth_of f v) (deep f v i)

-- ---- as code tells whether a value is inside: by its sign and by its depth
not-positive : (v : ℤ) → lt_z (pos 0) v ≡ false → le_z v (pos 0) ≡ true
not-positive (pos n) e = le-leb n 0 (ltb-false 0 n e)
not-positive (negsuc n) e = refl

positive : (v : ℤ) → lt_z (pos 0) v ≡ true → le_z v (pos 0) ≡ false
positive (pos n) e = lt-leb n 0 (ltb-true 0 n e)
positive (negsuc n) e = sym e

module _ (f : Family) (v : ℤ) where
  pub within : lt_z (pos 0) v ≡ false → depth_of f v ≤ 150000000 → is_inside f v ≡ true
  unfolding is_inside
  within e h = rw (not-positive v e) (le-leb _ _ h)

  pub too_loud : lt_z (pos 0) v ≡ true → is_inside f v ≡ false
  unfolding is_inside
  too_loud e = rw (positive v e)

  pub too_quiet : 150000000 < depth_of f v → is_inside f v ≡ false
  unfolding is_inside
  too_quiet h = and_false (le_z v (pos 0)) (lt-leb _ _ h)
