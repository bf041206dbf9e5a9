-- Each count that an exponent gives within the limits has one CE-16 word, and no other has; 0 has two. Assumes nothing.
use mathlib.Core.Path.{◌≡◌, refl, sym, ap, ap₂, subst, ◌∙◌}
use mathlib.Core.Bool.{Bool, ◌&&◌}
use Prim.Native.Nat.{ℕ, zero, suc, ◌+◌, ◌-◌, ◌*◌, ◌/◌, ◌%◌, ◌≤◌, ◌<◌}
use native.Mathlib.Omega.{arith}
use lib.Dec.{ltb, leb}
use lib.IntN.{ℤ, pos}
use borrow.Author.Tests.{ltb-true, ltb-false, ne_eqb, lt-leb}
use Rattle.order.specs.Order.{pattern_of}
use Rattle.rules.proofs.Bools.{and_false}
use Rattle.layout.specs.Families.{is_bad}
use Rattle.samples.specs.Runs.{is_run}
use Rattle.samples.specs.Values.{scaled, magnitude, negated, code_of, count_of}
use Rattle.samples.specs.Counts.{CountWord, most_count}
use Rattle.samples.proofs.Runs.{by_bool}
use Rattle.samples.proofs.Meaning.{count_plus, count-minus, code_plus, code-minus}

-- ---- there is one: the word of an exponent e and a mantissa m, with either sign
module _ (e m : ℕ) (high : e < 8) (low : m < 4096) (within : scaled e m ≤ most_count) where
  abbrev word : ℕ
  word = e * 4096 + m

  -- below 7F00, for the largest exponent leaves no more
  below : word < 0x7f00
  below = by_bool (ltb e 7) (λ t. omega (arith, ltb-true e 7 t)) (λ t. most (omega (arith, ltb-false e 7 t)))
    where
      most : e ≡ 7 → word < 0x7f00
      most z = let l : (4096 + m) * 64 ≤ 507840 = subst (λ (k : ℕ). scaled k m ≤ most_count) z within in omega arith

  magnitude-word : magnitude word ≡ scaled e m
  unfolding magnitude
  magnitude-word = let a : word / 4096 ≡ e = omega arith in let b : word % 4096 ≡ m = omega arith in ap₂ scaled a b

  pub has_plus : CountWord (pos (scaled e m)) word
  unfolding is_run is_bad
  has_plus =
      let l = below in
      record {
        fits = omega arith;
        value = ne_eqb (word / 256) 255 (λ z. omega arith);
        inside = ap (λ (b : Bool). b && leb word 0x7fff) (lt-leb 0x7f00 word l);
        says = count_plus word (omega arith) ∙ ap pos magnitude-word;
      }

  pub has-minus : CountWord (negated (scaled e m)) (32768 + word)
  unfolding is_run is_bad
  has-minus =
      let l = below in
      let back : 32768 + word - 32768 ≡ word = omega arith in
      record {
        fits = omega arith;
        value = ne_eqb ((32768 + word) / 256) 255 (λ z. omega arith);
        inside = and_false (leb 0x7f00 (32768 + word)) (lt-leb (32768 + word) 0x7fff (omega arith));
        says = count-minus (32768 + word) (omega arith) ∙ ap (λ (n : ℕ). negated (magnitude n)) back ∙ ap negated magnitude-word;
      }

-- ---- and no other
-- the word of a count other than 0 is the one that is worked out from it
found : {z : ℤ} {w : ℕ} → (z ≡ pos 0 → ⊥) → CountWord z w → w ≡ code_of (pattern_of 4 z)
found {z} {w} some c =
    by_bool (ltb w 32768) (λ t. sym (code_plus w (ltb-true w 32768 t)) ∙ counted)
    (λ t. minus (ltb-false w 32768 t) (magnitude (w - 32768)) refl)
  where
    counted : code_of (pattern_of 4 (count_of w)) ≡ code_of (pattern_of 4 z)
    counted = ap (λ (x : ℤ). code_of (pattern_of 4 x)) c.says

    minus : 32768 ≤ w → (n : ℕ) → magnitude (w - 32768) ≡ n → w ≡ code_of (pattern_of 4 z)
    minus l zero e = absurd (some (sym c.says ∙ count-minus w l ∙ ap negated e))
    minus l (suc n) e = sym (code-minus w n l c.fits e) ∙ counted

pub one_word : (count : ℤ) (w u : ℕ) → (count ≡ pos 0 → ⊥) → CountWord count w → CountWord count u → w ≡ u
one_word count w u some a b = found some a ∙ sym (found some b)
