-- Laws of sums of linear values: where none is outside, at most 10 ^ 14 for each. Assumes nothing.
use Prim.Native.Nat.{◌+◌, ◌*◌, ◌^◌, ◌≤◌, ◌<◌, zero-le}
use mathlib.Core.Path.{◌≡◌, refl}
use mathlib.Core.Bool.{Bool, true, false}
use mathlib.Core.List.{List, [], ◌∷◌}
use native.Mathlib.Omega.{arith}
use lib.IntN.{ℤ}
use lib.ListN.{length}
use Rattle.layout.specs.Families.{Family}
use Rattle.linear.specs.Linear.{is_inside, linear_of, first_outside, total}
use Rattle.linear.proofs.Levels.{most}

module _ (f : Family) (v : ℤ) (vs : List ℤ) where
  pub outside-first : is_inside f v ≡ false → first_outside f (v ∷ vs) ≡ 0
  unfolding first_outside
  outside-first e = rw (e, first_outside)

  pub outside-later : is_inside f v ≡ true → first_outside f (v ∷ vs) ≡ first_outside f vs + 1
  unfolding first_outside
  outside-later e = rw (e, first_outside)

pub total-most : (f : Family) (vs : List ℤ) → first_outside f vs ≡ length vs → total f vs ≤ length vs * 100000000000000
unfolding total
total-most f [] e = zero-le
total-most f (v ∷ vs) e = go (is_inside f v) refl (total-most f vs)
  where
    go : (b : Bool) → is_inside f v ≡ b → (first_outside f vs ≡ length vs → total f vs ≤ length vs * 100000000000000)
        → linear_of f v + total f vs ≤ length (v ∷ vs) * 100000000000000
    go true i others =
        let first = most f v i in
        let later = others (omega (arith, outside-later f v vs i)) in
        omega arith
    go false i others = absurd (omega (arith, outside-first f v vs i))

pub total-within : (f : Family) (vs : List ℤ) → first_outside f vs ≡ length vs → length vs ≤ 32764 → total f vs < 2 ^ 64
total-within f vs e h = let b = total-most f vs e in omega arith
