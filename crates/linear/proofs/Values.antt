-- Laws of the linear values of all levels: which stands where, and a store of one more. Assumes nothing.
use Prim.Native.Nat.{ℕ, zero, suc, ◌+◌, ◌≤◌, ◌<◌}
use mathlib.Core.Path.{◌≡◌, refl, sym, ap, ◌∙◌}
use mathlib.Core.List.{List}
use native.Mathlib.Nat.{not-suc-le-zero, le_of_suc-le-suc}
use native.Mathlib.Omega.{arith}
use lib.ListN.{length, get_or}
use Rattle.std.proofs.lemmas.Grind.{same_number_lists}
use Rattle.linear.specs.Linear.{linear_at, linear_below, steps_of}
use Rattle.linear.specs.inner.Values.{values_from, all_values}
use Rattle.linear.proofs.Levels.{below-most}

many : (n s : ℕ) → length (values_from n s) ≡ n
unfolding values_from
many zero s = refl
many (suc n) s = ap suc (many n (s + 1))

at-step : (n s i : ℕ) → i < n → get_or (values_from n s) i 0 ≡ linear_at (s + i)
unfolding values_from
at-step zero s i h = absurd (not-suc-le-zero h)
at-step (suc n) s zero h = ap linear_at (omega arith)
at-step (suc n) s (suc i) h = at-step n (s + 1) i (le_of_suc-le-suc h) ∙ ap linear_at (omega arith)

all-many : length all_values ≡ 3001
unfolding all_values
all-many = many 3001 0

all-at : (i : ℕ) → i < 3001 → get_or all_values i 0 ≡ linear_at i
unfolding all_values
all-at i h = at-step 3001 0 i h ∙ ap linear_at (omega arith)

-- values of which each stands where it belongs are all
pub filled : (l : List ℕ) → length l ≡ 3001 → ((k : ℕ) → k < 3001 → get_or l k 0 ≡ linear_at k) → l ≡ all_values
filled l e h =
    same_number_lists l all_values (e ∙ sym all-many) (λ k b. let i : k < 3001 = omega arith in h k i ∙ sym (all-at k i))

-- ---- looked up
pub looked-up : (d : ℕ) {l : List ℕ} → l ≡ all_values → d ≤ 150000000
    → (get_or l (steps_of d) 0 ≡ linear_below d) × (get_or l (steps_of d) 0 ≤ 100000000000000)
looked-up d {l} e h =
    let r : get_or l (steps_of d) 0 ≡ linear_below d = ap (λ (x : List ℕ). get_or x (steps_of d) 0) e ∙ all-at (steps_of d) (omega arith) in
    (r, rw r (below-most d h))
