-- Laws of the tables: their rules, and that more steps below 0 dB never give more, each by one test that is computed over all places.
-- Assumes nothing.
use Prim.Native.Nat.{ℕ, zero, suc, ◌+◌, ◌^◌, ◌≤◌, ◌<◌}
use mathlib.Core.Path.{◌≡◌, refl, ap, ◌∙◌}
use mathlib.Core.Bool.{Bool, true, ◌&&◌}
use mathlib.Core.Logic.{⊎_elim}
use native.Mathlib.Nat.{
  le_refl,
  le_trans,
  le_of_suc-le-suc,
  lt_of_lt_of_le,
  lt_of_not-le,
  lt_irrefl,
  not-suc-le-zero,
  eq-or-lt_of_le,
  pow-le-pow_left,
}
use native.Mathlib.Numerals.{add-one}
use native.Mathlib.Decide.{le_ind}
use native.Mathlib.Omega.{arith}
use borrow.Author.Tests.{leb-true, ltb-true, eqb-true}
use lib.Dec.{leb, ltb, eqb}
use lib.ListN.{length, get_or}
use Rattle.rules.proofs.Bools.{both_true}
use Rattle.linear.specs.Roots.{roots, Largest}
use Rattle.linear.specs.Linear.{scaled, linear_at}
use Rattle.linear.specs.inner.Values.{powers_of_ten}

-- a test that passes at all numbers below n passes at each
abbrev below : (ℕ → Bool) → ℕ → Bool
below t zero = true
below t (suc n) = t n && below t n

each : (t : ℕ → Bool) (n : ℕ) → below t n ≡ true → (k : ℕ) → k < n → t k ≡ true
each t zero a k h = absurd (not-suc-le-zero h)
each t (suc n) a k h =
    let b = both_true (t n) (below t n) a in
    ⊎_elim (λ e. ap t e ∙ b.0) (λ l. each t n b.1 k l) (eq-or-lt_of_le (le_of_suc-le-suc h))

-- ---- each entry is the largest whole number whose 200th power is at most 10 to the (k + 1200)
abbrev entry_at : ℕ → ℕ
entry_at k = get_or roots k 0

largest : ℕ → Bool
largest k = leb (entry_at k ^ 200) (10 ^ (k + 1200)) && ltb (10 ^ (k + 1200)) ((entry_at k + 1) ^ 200)

all-largest : below largest 200 ≡ true
unfolding largest roots
all-largest = refl

pub rule : (k : ℕ) → k < 200 → Largest k (get_or roots k 0)
unfolding largest
rule k h =
    let b = both_true (leb (entry_at k ^ 200) (10 ^ (k + 1200))) _ (each largest 200 all-largest k h) in
    let most = ltb-true _ _ b.1 in
    record {
      within = leb-true _ _ b.0;
      none_above = λ u g. at_most (λ l. lt_irrefl _ (lt_of_lt_of_le most (le_trans (pow-le-pow_left l 200) g)));
    }
  where
    at_most : {t u : ℕ} → (t + 1 ≤ u → ⊥) → u ≤ t
    at_most never = le_of_suc-le-suc (lt_of_not-le (λ l. never (rw add-one l)))

pub entries : length roots ≡ 200
unfolding roots
entries = refl

-- ---- all have at most seven digits
small : ℕ → Bool
small k = ltb (entry_at k) 10000000

all_small : below small 200 ≡ true
unfolding small roots
all_small = refl

pub entry-small : (k : ℕ) → k < 200 → get_or roots k 0 < 10 ^ 7
unfolding small
entry-small k h = ltb-true (entry_at k) 10000000 (each small 200 all_small k h)

-- ---- each power of ten stands at its exponent
power : ℕ → Bool
power n = eqb (get_or powers_of_ten n 0) (10 ^ n) && leb (get_or powers_of_ten n 0) 100000000

all-powers : below power 9 ≡ true
unfolding power powers_of_ten
all-powers = refl

pub power-at : (n : ℕ) → n ≤ 8 → (get_or powers_of_ten n 0 ≡ 10 ^ n) × (get_or powers_of_ten n 0 ≤ 100000000)
unfolding power
power-at n h =
    let b = both_true (eqb (get_or powers_of_ten n 0) (10 ^ n)) _ (each power 9 all-powers n (omega arith)) in
    (eqb-true _ _ b.0, leb-true _ _ b.1)

-- ---- more steps below 0 dB never give more
falling : ℕ → Bool
falling s = leb (linear_at (s + 1)) (linear_at s)

all-falling : below falling 3000 ≡ true
unfolding falling linear_at scaled roots
all-falling = refl

pub steps_fall : (a b : ℕ) → a ≤ b → b ≤ 3000 → linear_at b ≤ linear_at a
unfolding falling
steps_fall a =
    le_ind (λ (b : ℕ). b ≤ 3000 → linear_at b ≤ linear_at a) (λ _. le_refl _)
    (λ b l nearer h. le_trans (next b (each falling 3000 all-falling b h)) (nearer (omega arith)))
  where
    next : (b : ℕ) → leb (linear_at (b + 1)) (linear_at b) ≡ true → linear_at (suc b) ≤ linear_at b
    next b e = leb-true (linear_at (suc b)) (linear_at b) (rw (← add-one) e)
