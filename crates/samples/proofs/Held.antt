-- The words that are held: a space behind words is told from a word by the number of samples. Assumes nothing.
use mathlib.Core.Path.{◌≡◌, refl, sym, ap, subst, ◌∙◌}
use mathlib.Core.Bool.{Bool, true, false, not, ◌&&◌}
use mathlib.Core.List.{List, [], ◌∷◌, ◌++◌, append-nil}
use Prim.Native.Nat.{ℕ, zero, suc, ◌+◌, ◌-◌, ◌*◌, ◌%◌, ◌^◌, ◌≤◌, ◌<◌}
use native.Mathlib.Omega.{arith}
use lib.Dec.{eqb}
use lib.ListN.{length, replicate}
use borrow.Author.Tests.{eq-eqb, ne_eqb, eqb-true, eqb-false}
use Rattle.order.specs.Order.{bytes_of}
use Rattle.rules.proofs.Bools.{and_false, both_true}
use Rattle.layout.specs.Families.{Family, wide, narrow, encoded, wide_angles, narrow_angles, value_bytes, radix_of}
use Rattle.samples.specs.Words.{all_words, unwords, spaced}
use Rattle.samples.specs.Runs.{is_run, values}
use Rattle.samples.specs.Values.{front, has_space, held_words}
use Rattle.samples.specs.Words.{Below}
use Rattle.samples.proofs.Words.{limit-pos, length-unwords, all-unwords, unwords_append}
use Rattle.samples.proofs.Runs.{by_bool}
use Rattle.samples.proofs.Values.{values-run, values-value}

-- ---- what is held: the words, or all but the last
module _ (f : Family) (count : ℕ) (ws : List ℕ) where
  pub held-front : has_space f count ws ≡ true → held_words f count ws ≡ front ws
  unfolding held_words
  held-front e = rw (e, held_words)

  pub held_all : has_space f count ws ≡ false → held_words f count ws ≡ ws
  unfolding held_words
  held_all e = rw (e, held_words)

front_below : (b : ℕ) (ws : List ℕ) → Below b ws → Below b (front ws)
unfolding front
front_below b [] h = tt
front_below b (w ∷ []) h = tt
front_below b (w ∷ v ∷ ws) h = (h.0, front_below b (v ∷ ws) h.1)

front_length : (ws : List ℕ) → length (front ws) ≡ length ws - 1
unfolding front
front_length [] = refl
front_length (w ∷ []) = refl
front_length (w ∷ v ∷ ws) = omega (arith, front_length (v ∷ ws))

front-behind : (ws : List ℕ) (x : ℕ) → front (ws ++ (x ∷ [])) ≡ ws
unfolding front
front-behind [] x = refl
front-behind (w ∷ []) x = refl
front-behind (w ∷ v ∷ ws) x = ap (λ (l : List ℕ). w ∷ l) (front-behind (v ∷ ws) x)

module _ (f : Family) (count : ℕ) (ws : List ℕ) where
  pub held_below : (b : ℕ) → Below b ws → Below b (held_words f count ws)
  held_below b h =
      by_bool (has_space f count ws)
      (λ e. subst (Below b) (sym (held-front f count ws e)) (front_below b ws h))
      (λ e. subst (Below b) (sym (held_all f count ws e)) h)

  pub held-few : length (held_words f count ws) ≤ length ws
  held-few =
      by_bool (has_space f count ws)
      (λ e. omega (arith, ap length (held-front f count ws e), front_length ws))
      (λ e. omega (arith, ap length (held_all f count ws e)))

  -- words of four bytes and more leave at least one
  pub held-some : 4 ≤ value_bytes f * length ws → 1 ≤ length (held_words f count ws)
  unfolding has_space
  held-some h =
      by_bool (has_space f count ws)
      (λ e.
      let two = eqb-true (value_bytes f) 2 (both_true (eqb (value_bytes f) 2) _ e).0 in
      let long : 4 ≤ 2 * length ws = rw two at h in
      omega (arith, ap length (held-front f count ws e), front_length ws))
      (λ e. some (length ws) refl (ap length (held_all f count ws e)))
    where
      some : (n : ℕ) → length ws ≡ n → length (held_words f count ws) ≡ length ws → 1 ≤ length (held_words f count ws)
      some zero z e = let none : 4 ≤ value_bytes f * 0 = rw z at h in absurd (omega arith)
      some (suc n) z e = omega arith

-- ---- words written with a space are held
odd : (n : ℕ) → eqb ((2 * n) % 4) 0 ≡ false → (2 * n) % 4 ≡ 2
odd n e = let z = eqb-false ((2 * n) % 4) 0 e in omega arith

-- the bytes of a family's words are a multiple of 4, or its words have two bytes and a space is behind them
by-space : {C : Type 0} (f : Family) (n : ℕ) → ((value_bytes f * n) % 4 ≡ 0 → C) → (value_bytes f ≡ 2 → (value_bytes f * n) % 4 ≡ 2 → C) → C
by-space wide n g h = g (omega arith)
by-space narrow n g h = by_bool (eqb ((2 * n) % 4) 0) (λ e. g (eqb-true _ 0 e)) (λ e. h refl (odd n e))
by-space encoded n g h = by_bool (eqb ((2 * n) % 4) 0) (λ e. g (eqb-true _ 0 e)) (λ e. h refl (odd n e))
by-space wide_angles n g h = by_bool (eqb ((2 * n) % 4) 0) (λ e. g (eqb-true _ 0 e)) (λ e. h refl (odd n e))
by-space narrow_angles n g h = by_bool (eqb ((2 * n) % 4) 0) (λ e. g (eqb-true _ 0 e)) (λ e. h refl (odd n e))

zero-value : (f : Family) → is_run (radix_of f) 0 ≡ false
unfolding is_run
zero-value wide = refl
zero-value narrow = refl
zero-value encoded = refl
zero-value wide_angles = refl
zero-value narrow_angles = refl

values-one-more : (R : ℕ) (ws : List ℕ) (x : ℕ) → is_run R x ≡ false → values R (ws ++ (x ∷ [])) ≡ values R ws + 1
values-one-more R [] x e = values-value R x [] e
values-one-more R (w ∷ ws) x e =
    by_bool (is_run R w)
    (λ t. values-run R w (ws ++ (x ∷ [])) t ∙ values-one-more R ws x e ∙ ap (λ (n : ℕ). n + 1) (sym (values-run R w ws t)))
    (λ t. values-value R w (ws ++ (x ∷ [])) t ∙ ap (λ (n : ℕ). n + 1) (values-one-more R ws x e ∙ sym (values-value R w ws t)))

two-zeros : (o : Bool) → bytes_of o 2 0 ≡ 0 ∷ 0 ∷ []
two-zeros true = refl
two-zeros false = refl

below-one-more : (b : ℕ) (ws : List ℕ) (x : ℕ) → Below b ws → x < b → Below b (ws ++ (x ∷ []))
below-one-more b [] x f h = (h, tt)
below-one-more b (w ∷ ws) x f h = (f.0, below-one-more b ws x f.1 h)

module _ (f : Family) (o : Bool) (ws : List ℕ) (below : Below (256 ^ value_bytes f) ws) (pos : 0 < value_bytes f) where
  bytes : List ℕ
  bytes = unwords (value_bytes f) o ws

  many : length bytes ≡ value_bytes f * length ws
  unfolding bytes
  many = length-unwords (value_bytes f) o ws

  -- no space
  flush : (value_bytes f * length ws) % 4 ≡ 0 → spaced bytes ≡ bytes
  unfolding spaced
  flush e = ap (λ (n : ℕ). bytes ++ replicate n 0) (ap (λ (n : ℕ). n % 4) many ∙ e) ∙ append-nil bytes

  held-flush : has_space f (values (radix_of f) ws) ws ≡ false
  unfolding has_space
  held-flush = and_false (eqb (value_bytes f) 2) (ap (λ (b : Bool). not b && eqb (values (radix_of f) ws) (values (radix_of f) (front ws)))
      (eq-eqb (values (radix_of f) ws) (values (radix_of f) ws) refl))

  -- a space: a word of 0 that is none
  one_more : List ℕ
  one_more = ws ++ (0 ∷ [])

  behind : value_bytes f ≡ 2 → (value_bytes f * length ws) % 4 ≡ 2 → spaced bytes ≡ unwords (value_bytes f) o one_more
  unfolding spaced bytes one_more unwords
  behind two e =
      ap (λ (n : ℕ). bytes ++ replicate n 0) (ap (λ (n : ℕ). n % 4) many ∙ e)
      ∙ ap (λ (l : List ℕ). bytes ++ l) (sym (ap (λ (n : ℕ). bytes_of o n 0) two ∙ two-zeros o)
      ∙ sym (append-nil (bytes_of o (value_bytes f) 0)))
      ∙ sym (unwords_append (value_bytes f) o ws (0 ∷ []))

  held-behind : value_bytes f ≡ 2 → has_space f (values (radix_of f) ws) one_more ≡ true
  unfolding has_space one_more
  held-behind two =
      let R = radix_of f in
      let more = values-one-more R ws 0 (zero-value f) in
      rw
      (eq-eqb (value_bytes f) 2 two, ne_eqb (values R ws) (values R (ws ++ (0 ∷ []))) (λ z. omega arith), front-behind ws 0)
      (eq-eqb (values R ws) (values R ws) refl)

  pub held-written : held_words f (values (radix_of f) ws) (all_words (value_bytes f) o (spaced (unwords (value_bytes f) o ws))) ≡ ws
  unfolding bytes one_more
  held-written =
      by-space f (length ws)
      (λ e.
      ap (λ (l : List ℕ). held_words f (values (radix_of f) ws) (all_words (value_bytes f) o l)) (flush e)
      ∙ ap (held_words f (values (radix_of f) ws)) (all-unwords (value_bytes f) pos o ws below)
      ∙ held_all f (values (radix_of f) ws) ws held-flush)
      (λ two e.
      ap (λ (l : List ℕ). held_words f (values (radix_of f) ws) (all_words (value_bytes f) o l)) (behind two e)
      ∙ ap (held_words f (values (radix_of f) ws)) (all-unwords (value_bytes f) pos o (ws ++ (0 ∷ []))
      (below-one-more (256 ^ value_bytes f) ws 0 below (limit-pos (value_bytes f))))
      ∙ held-front f (values (radix_of f) ws) (ws ++ (0 ∷ [])) (held-behind two)
      ∙ front-behind ws 0)
