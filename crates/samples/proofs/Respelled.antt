-- Words packed are a family's fewest words: each value's word is spelled as its family writes it. Assumes nothing.
use mathlib.Core.Path.{◌≡◌, refl, sym, ap, ◌∙◌}
use mathlib.Core.Bool.{Bool, true, false, cond, ◌&&◌, true≢false}
use mathlib.Core.List.{List, [], ◌∷◌}
use Prim.Native.Nat.{ℕ, zero, suc, ◌+◌, ◌-◌, ◌≤◌, ◌<◌}
use native.Mathlib.Omega.{arith}
use borrow.Author.Tests.{ltb-true, ltb-false, eqb-true, eqb-false, ne_eqb}
use lib.Dec.{leb, ltb, eqb}
use Rattle.layout.specs.Families.{Family, wide, narrow, encoded, radix_of, is_bad}
use Rattle.samples.specs.Words.{Sample, Below}
use Rattle.samples.specs.Runs.{is_run, run_length, decode_from, ping_length, fewest}
use Rattle.samples.specs.Values.{magnitude, count_of, shortened, code_of, meant, word_for, revalued, samples_in, words_for}
use Rattle.samples.specs.inner.Narrow.{words_by, respelled}
use Rattle.samples.specs.inner.Packing.{packed, same}
use Rattle.samples.proofs.Runs.{by_bool, decode-run, decode-value}
use Rattle.samples.proofs.Meaning.{magnitude-found, code_plus, code-minus}
use Rattle.samples.proofs.Written.{Each, some-radix}
use Rattle.samples.proofs.Packed.{packed-fewest}

-- what each word stands for has the word g of it
abbrev Spelled : Family → (ℕ → ℕ) → List ℕ → Type 0
Spelled f g ws = Each (λ (w : ℕ). word_for f (meant f w) ≡ g w) ws

module _ (f : Family) (g : ℕ → ℕ) where
  spelled-from : (ws : List ℕ) (n : ℕ) → Spelled f g ws
      → revalued (word_for f) (revalued (meant f) (decode_from (radix_of f) n ws)) ≡ revalued g (decode_from (radix_of f) n ws)
  spelled-from [] n s = unfold decode_from in refl
  spelled-from (w ∷ ws) n s =
      let R = radix_of f in
      by_bool (is_run R w)
      (λ e. rw (decode-run R (some-radix f) n w ws e) (spelled-from ws (n + run_length R w) s.1))
      (λ e. rw (decode-value R (some-radix f) n w ws e) (λ i. (n, s.0 i) ∷ spelled-from ws (n + 1) s.1 i))

  pub packed-words : (ws : List ℕ) → Spelled f g ws
      → words_for f (samples_in f ws) (ping_length (radix_of f) ws) ≡ packed (radix_of f) g ws
  unfolding words_for samples_in
  packed-words ws s =
      let R = radix_of f in
      ap (λ (x : List Sample). fewest R x (ping_length R ws)) (spelled-from ws 0 s) ∙ sym (packed-fewest R (some-radix f) g ws)

-- ---- C-32: words as they stand
spelled-wide : (ws : List ℕ) → Spelled wide same ws
unfolding word_for meant
spelled-wide [] = tt
spelled-wide (w ∷ ws) = (refl, spelled-wide ws)

pub packed-wide : (ws : List ℕ) → words_for wide (samples_in wide ws) (ping_length (radix_of wide) ws) ≡ packed (radix_of wide) same ws
packed-wide ws = packed-words wide same ws (spelled-wide ws)

-- ---- C-16 and CE-16: 8000 as 0
-- only 0 stands for none
no_magnitude : (m : ℕ) → m < 32768 → magnitude m ≡ 0 → m ≡ 0
unfolding shortened
no_magnitude m h e = sym (magnitude-found m h) ∙ ap (shortened 6) e

minus-zero : word_for encoded (meant encoded 32768) ≡ 0
unfolding word_for meant code_of count_of magnitude shortened
minus-zero = refl

module _ (w : ℕ) (h : w < 65536) where
  other_word : (w ≡ 32768 → ⊥) → w ≡ respelled w
  other_word z = ap (λ (b : Bool). cond b 0 w) (sym (ne_eqb w 32768 z))

  spelled-encoded : word_for encoded (meant encoded w) ≡ respelled w
  unfolding word_for meant
  spelled-encoded =
      by_bool (ltb w 32768)
      (λ t. let l = ltb-true w 32768 t in code_plus w l ∙ other_word (λ z. omega arith))
      (λ t. let l = ltb-false w 32768 t in
      by_bool (eqb w 32768)
      (λ e. let z = eqb-true w 32768 e in rw z minus-zero)
      (λ e. let z = eqb-false w 32768 e in minus l z (magnitude (w - 32768)) refl))
    where
      minus : 32768 ≤ w → (w ≡ 32768 → ⊥) → (n : ℕ) → magnitude (w - 32768) ≡ n → word_for encoded (meant encoded w) ≡ respelled w
      minus l z zero e = absurd (z (omega (arith, no_magnitude (w - 32768) (omega arith) e)))
      minus l z (suc n) e = code-minus w n l h e ∙ other_word z

  -- no C-16 word within the limits is 8000
  spelled-narrow : is_bad narrow w ≡ false → word_for narrow (meant narrow w) ≡ respelled w
  unfolding word_for meant is_bad
  spelled-narrow e = other_word (λ z. true≢false (sym (ap (λ (v : ℕ). leb 32512 v && leb v 33024) z) ∙ e))

spelled-one : (b : Bool) (w : ℕ) → w < 65536 → is_bad (words_by b) w ≡ false → word_for (words_by b) (meant (words_by b) w) ≡ respelled w
spelled-one true w h e = spelled-encoded w h
spelled-one false w h e = spelled-narrow w h e

spelled-words : (b : Bool) (ws : List ℕ) → Below 65536 ws → Each (λ (w : ℕ). is_bad (words_by b) w ≡ false) ws
    → Spelled (words_by b) respelled ws
spelled-words b [] h e = tt
spelled-words b (w ∷ ws) h e = (spelled-one b w h.0 e.0, spelled-words b ws h.1 e.1)

-- the radix of both is 256
pub packed-narrow : (b : Bool) (ws : List ℕ) → Below 65536 ws → Each (λ (w : ℕ). is_bad (words_by b) w ≡ false) ws
    → words_for (words_by b) (samples_in (words_by b) ws) (ping_length (radix_of (words_by b)) ws) ≡ packed 256 respelled ws
packed-narrow true ws h e = packed-words encoded respelled ws (spelled-words true ws h e)
packed-narrow false ws h e = packed-words narrow respelled ws (spelled-words false ws h e)
