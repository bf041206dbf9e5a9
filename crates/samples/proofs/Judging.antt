-- The tests of the rules past a word or a sample, and what stands there, over the width k of a word, the radix R and the family; and the
-- space behind words by what a loop has counted. Assumes nothing.
use mathlib.Core.Path.{◌≡◌, refl, sym, ap, ◌∙◌}
use mathlib.Core.Bool.{Bool, true, false, not, ◌&&◌, ◌||◌}
use mathlib.Core.List.{List, [], ◌∷◌}
use Prim.Native.Nat.{ℕ, suc, ◌+◌, ◌-◌, ◌≤◌, ◌<◌}
use native.Mathlib.Numerals.{add-one}
use native.Mathlib.Omega.{arith}
use mir.Val.{bool_byte}
use lib.Dec.{eqb, leb, ltb, leb-suc-suc}
use lib.ListN.{length, drop}
use borrow.Author.Tests.{lt-ltb, lt-leb, leb-true, leb-false, eqb-true, eqb-false, eq-eqb, ne_eqb}
use Rattle.rules.proofs.Bools.{and_false}
use Rattle.layout.specs.Families.{Family, value_bytes, radix_of, sample_bytes, is_bad}
use Rattle.samples.specs.Words.{Sample, sample_of}
use Rattle.samples.specs.Runs.{is_run, ends_from, values, first_bad}
use Rattle.samples.specs.Values.{front, has_space}
use Rattle.samples.specs.Judging.{first_drop, any_bad}
use Rattle.samples.proofs.Words.{some_bytes, word_at, words_from, from_cons, rest_of, rest-next}
use Rattle.samples.proofs.Runs.{by_bool}
use Rattle.samples.proofs.Values.{values-run, values-value, bad-here, bad-later}
use Rattle.samples.proofs.Rising.{drop-later, drop_here}

-- ---- the tests of the rules
-- some number is below n or not above the one before it
abbrev pub any_drop : ℕ → List Sample → Bool
any_drop n s = ltb (first_drop n s) (length s)

-- a place in a list, and the same place behind one more element
one_more : (a b n : ℕ) → b ≡ a + 1 → ltb b (suc n) ≡ ltb a n
one_more a b n e = rw (e, add-one a) (leb-suc-suc (suc a) n)

-- at most one value a word
pub counts-one : (b : Bool) → bool_byte b ≤ 1
counts-one true = omega arith
counts-one false = omega arith

pub values_cons : (R w : ℕ) (ws : List ℕ) → values R (w ∷ ws) ≡ bool_byte (not (is_run R w)) + values R ws
values_cons R w ws =
    by_bool (is_run R w) (λ e. rw (values-run R w ws e, e) (omega arith)) (λ e. rw (values-value R w ws e, e) (omega arith))

pub bad_cons : (f : Family) (w : ℕ) (ws : List ℕ) → any_bad f (w ∷ ws) ≡ (is_bad f w || any_bad f ws)
bad_cons f w ws =
    by_bool (is_bad f w)
    (λ e. rw (bad-here f w ws e, e) (lt-ltb 0 (suc (length ws)) (omega arith)))
    (λ e. rw e (one_more _ _ (length ws) (bad-later f w ws e)))

drops_here : (n : ℕ) (x : Sample) (s : List Sample) → x.0 < n → any_drop n (x ∷ s) ≡ true
drops_here n x s h = rw (drop_here n x s (lt-leb n x.0 h)) (lt-ltb 0 (suc (length s)) (omega arith))

pub drops_later : (n : ℕ) (x : Sample) (s : List Sample) → n ≤ x.0 → any_drop n (x ∷ s) ≡ any_drop (x.0 + 1) s
drops_later n x s h = one_more _ _ (length s) (drop-later n x s h)

-- behind a number n
pub drops_cons : (n : ℕ) (x : Sample) (s : List Sample) → any_drop (n + 1) (x ∷ s) ≡ (leb x.0 n || any_drop (x.0 + 1) s)
drops_cons n x s =
    by_bool (leb x.0 n)
    (λ e. rw e (drops_here (n + 1) x s (omega (arith, leb-true x.0 n e))))
    (λ e. rw e (drops_later (n + 1) x s (omega (arith, leb-false x.0 n e))))

-- ---- words: the word w at p, and those from p + k on
module _ (k : ℕ) (pos : 0 < k) (o : Bool) (part : List ℕ) (p w : ℕ) (h : k ≤ length part - p) (e : w ≡ word_at k o part p) where
  pub next : words_from k o part p ≡ w ∷ words_from k o part (p + k)
  next = rw e (from_cons k o part p pos (omega arith))

  -- the first bad word is this one, or the first behind it
  module _ (f : Family) where
    pub bad-there : is_bad f w ≡ true → first_bad f (words_from k o part p) ≡ 0
    bad-there t = ap (first_bad f) next ∙ bad-here f w _ t

    pub bad-behind : is_bad f w ≡ false → first_bad f (words_from k o part p) ≡ first_bad f (words_from k o part (p + k)) + 1
    bad-behind t = ap (first_bad f) next ∙ bad-later f w _ t

-- ---- samples: the number x at p, and the samples from behind it on
module _ (f : Family) (o : Bool) (part : List ℕ) (p x : ℕ) (h : sample_bytes f ≤ length part - p)
    (e : x ≡ (sample_of f o (drop p part)).0) where
  abbrev here : Sample
  here = (x, (sample_of f o (drop p part)).1)

  abbrev behind : List Sample
  behind = rest_of f o part (p + sample_bytes f)

  pub next_sample : rest_of f o part p ≡ here ∷ behind
  next_sample =
      rest-next f o part p (omega (arith, some_bytes f)) ∙ ap (λ (y : ℕ). (y, (sample_of f o (drop p part)).1) ∷ behind) (sym e)

  -- the first number that falls below n, or not above the one before it, is this one, or the first behind it
  pub fall_there : (n : ℕ) → x < n → first_drop n (rest_of f o part p) ≡ 0
  fall_there n t = ap (first_drop n) next_sample ∙ drop_here n here behind (lt-leb n x t)

  pub fall_behind : (n : ℕ) → n ≤ x → first_drop n (rest_of f o part p) ≡ first_drop (x + 1) behind + 1
  fall_behind n t = ap (first_drop n) next_sample ∙ drop-later n here behind t

-- ---- the space behind words, by the number of value words and whether the last word is a run
front-values : (R w : ℕ) (ws : List ℕ) → values R (w ∷ ws) ≡ values R (front (w ∷ ws)) + bool_byte (not (ends_from R false (w ∷ ws)))
unfolding front ends_from values
front-values R w [] = by_bool (is_run R w) (λ e. rw (values-run R w [] e, e)) (λ e. rw (values-value R w [] e, e))
front-values R w (v ∷ ws) =
    values_cons R w (v ∷ ws)
    ∙ ap (λ (n : ℕ). bool_byte (not (is_run R w)) + n) (front-values R v ws)
    ∙ omega (arith, values_cons R w (front (v ∷ ws)))

pub space-counted : (f : Family) (count w : ℕ) (ws : List ℕ)
    → has_space f count (w ∷ ws) ≡ (eqb (value_bytes f) 2 && (not (ends_from (radix_of f) false (w ∷ ws)) && eqb (count + 1)
    (values (radix_of f) (w ∷ ws))))
unfolding has_space
space-counted f count w ws =
    let R = radix_of f in
    ap (λ (b : Bool). eqb (value_bytes f) 2 && b) (one (ends_from R false (w ∷ ws)) count (values R (w ∷ ws)) (values R (front (w ∷ ws)))
    (front-values R w ws))
  where
    one : (run : Bool) (c v m : ℕ) → v ≡ m + bool_byte (not run) → (not (eqb c v) && eqb c m) ≡ (not run && eqb (c + 1) v)
    one true c v m e =
        by_bool (eqb c m)
        (λ t. let z : c ≡ v = eqb-true c m t ∙ omega arith in rw (eq-eqb c v z))
        (λ t. rw t (and_false (not (eqb c v)) refl))
    one false c v m e =
        by_bool (eqb c m)
        (λ t. let z = eqb-true c m t in rw (t, ne_eqb c v (λ q. omega arith), eq-eqb (c + 1) v (omega arith)))
        (λ t. let z = eqb-false c m t in rw (t, ne_eqb (c + 1) v (λ q. z (omega arith))) (and_false (not (eqb c v)) refl))
