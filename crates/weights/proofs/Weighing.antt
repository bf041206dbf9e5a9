-- Laws of weights: one more, one after another, and how much they are at most. Assumes nothing.
use mathlib.Core.Path.{◌≡◌, refl, sym, ap, ◌∙◌}
use mathlib.Core.Bool.{Bool, true, false, not}
use mathlib.Core.List.{List}
use Prim.Native.Nat.{ℕ, zero, suc, ◌+◌, ◌-◌, ◌*◌, ◌≤◌, ◌<◌}
use native.Mathlib.Nat.{zero-add, suc-add}
use native.Mathlib.Omega.{arith}
use mir.Val.{bool_byte}
use lib.Dec.{leb}
use lib.ListN.{take, drop}
use lib.Seq.{drop-drop}
use Rattle.order.specs.Order.{num_of}
use Rattle.layout.specs.Families.{Family, number_bytes, value_bytes, sample_bytes, radix_of, is_bad}
use Rattle.samples.specs.Runs.{is_run}
use Rattle.samples.specs.inner.Narrow.{words_by}
use Rattle.samples.proofs.Judging.{counts-one}
use Rattle.weights.specs.declared.Kind.{Kind}
use Rattle.weights.specs.declared.Kind.TheVariants.{C32, C16, CE16, Pairs, Shorts, Triples}
use Rattle.weights.specs.inner.Weights.{weighed, Dropped, word_weight, by_words, by_drops, weight_by, step_by, weight_at}

-- m of them, and n behind these
pub weighed-parted : (w : List ℕ → ℕ) (s m n : ℕ) (bs : List ℕ)
    → weighed w s (m + n) bs ≡ weighed w s m bs + weighed w s n (drop (s * m) bs)
unfolding weighed
weighed-parted w s zero n bs = let z : s * 0 ≡ 0 = omega arith in rw (zero-add, z, zero-add)
weighed-parted w s (suc m) n bs =
    let e : s * suc m ≡ s + s * m = omega arith in
    let r = weighed-parted w s m n (drop s bs) in
    rw (suc-add, e, ← drop-drop (s * m) s bs) (omega (arith, r))

-- a loop over n of them, s bytes apart, from a place on, that has weighed i
module _ (w : List ℕ → ℕ) (s n from : ℕ) (f : List ℕ) where
  -- those from the i-th on
  abbrev pub left : ℕ → ℕ
  left i = weighed w s (n - i) (drop (from + s * i) f)

  pub left-all : left 0 ≡ weighed w s n (drop from f)
  left-all = let z : from + s * 0 ≡ from = omega arith in let e : n - 0 ≡ n = omega arith in rw (z, e)

  pub left-turn : (i x acc : ℕ) → i < n → x ≡ w (drop (from + s * i) f) → acc + x + left (i + 1) ≡ acc + left i
  unfolding weighed
  left-turn i x acc h e =
      let m : n - i ≡ suc (n - (i + 1)) = omega arith in
      let p : from + s * (i + 1) ≡ from + s * i + s = omega arith in
      rw (m, p, ← drop-drop s (from + s * i) f, e) (omega arith)

  pub left-none : (i acc : ℕ) → n ≤ i → acc + left i ≡ acc
  unfolding weighed
  left-none i acc h = let z : n - i ≡ 0 = omega arith in rw z (omega arith)

-- each is at most so heavy, and so are n of them
word-most : (f : Family) (o : Bool) (bs : List ℕ) → by_words f o bs ≤ 32766
unfolding by_words word_weight
word-most f o bs =
    let w = num_of o (take (value_bytes f) bs) in
    omega (arith, counts-one (not (is_run (radix_of f) w)), counts-one (is_bad f w))

drops_most : (f : Family) (o : Bool) (bs : List ℕ) → by_drops f o bs ≤ 32766
unfolding by_drops
drops_most f o bs =
    let here = num_of o (take (number_bytes f) bs) in
    let next = num_of o (take (number_bytes f) (drop (sample_bytes f) bs)) in
    omega (arith, counts-one (leb next here))

one-most : (k : Kind) (o : Bool) (bs : List ℕ) → weight_by k o bs ≤ 32766
one-most C32 o bs = word-most _ o bs
one-most C16 o bs = word-most _ o bs
one-most CE16 o bs = word-most _ o bs
one-most Pairs o bs = drops_most _ o bs
one-most Shorts o bs = drops_most _ o bs
one-most Triples o bs = drops_most _ o bs

weighed-most : (k : Kind) (o : Bool) (s n : ℕ) (bs : List ℕ) → weighed (weight_by k o) s n bs ≤ 32766 * n
unfolding weighed
weighed-most k o s zero bs = omega arith
weighed-most k o s (suc n) bs = omega (arith, one-most k o bs, weighed-most k o s n (drop s bs))

pub weight_most : (k : Kind) (o : Bool) (f : List ℕ) (from n : ℕ) → weight_at k o f from n ≤ 32766 * n
weight_most k o f from n = weighed-most k o (step_by k) n (drop from f)

-- a word that was read, as the code weighs it
pub word_read : (f : Family) (o : Bool) (bs : List ℕ) (x : ℕ) (run bad : Bool) → x ≡ num_of o (take (value_bytes f) bs)
    → run ≡ is_run (radix_of f) x → bad ≡ is_bad f x → bool_byte (not run) + 32765 * bool_byte bad ≡ by_words f o bs
unfolding by_words word_weight
word_read f o bs x run bad e r b = rw (r, b, e)

-- a number and the next, as the code compares them
pub drop-read : (f : Family) (o : Bool) (file : List ℕ) (p x y : ℕ) → x ≡ num_of o (take (number_bytes f) (drop p file))
    → y ≡ num_of o (take (number_bytes f) (drop (p + sample_bytes f) file)) → bool_byte (leb y x) ≡ by_drops f o (drop p file)
unfolding by_drops
drop-read f o file p x y e g = rw (drop-drop (sample_bytes f) p file, e, g)

-- numbers s bytes apart, as they are told at their places, and compared
weighed-none : (w : List ℕ → ℕ) (s : ℕ) (bs : List ℕ) → weighed w s zero bs ≡ 0
unfolding weighed
weighed-none w s bs = refl

weighed-last : (w : List ℕ → ℕ) (s n : ℕ) (bs : List ℕ) → weighed w s (suc n) bs ≡ weighed w s n bs + w (drop (s * n) bs)
unfolding weighed
weighed-last w s zero bs = let z : s * 0 ≡ 0 = omega arith in rw z (omega arith)
weighed-last w s (suc n) bs =
    let e : s * suc n ≡ s + s * n = omega arith in
    let r = weighed-last w s n (drop s bs) in
    rw (e, ← drop-drop (s * n) s bs) (omega (arith, r))

pub dropped : (f : Family) (o : Bool) (s from : ℕ) (file : List ℕ) (R : ℕ → ℕ → Type 0) → sample_bytes f ≡ s → (n r : ℕ)
    → ((i x : ℕ) → i ≤ n → R i x → x ≡ num_of o (take (number_bytes f) (drop (from + s * i) file)))
    → Dropped R n r → r ≡ weighed (by_drops f o) s n (drop from file)
unfolding Dropped
dropped f o s from file R e zero r told d = d ∙ sym (weighed-none (by_drops f o) s (drop from file))
dropped f o s from file R e (suc n) r told (x, y, t, p, q, before, is) =
    let z : from + s * (n + 1) ≡ from + s * n + sample_bytes f = omega (arith, e) in
    let here = drop-read f o file (from + s * n) x y (told n x (omega arith) p)
    (told (n + 1) y (omega arith) q ∙ ap (λ (k : ℕ). num_of o (take (number_bytes f) (drop k file))) z) in
    let rest = dropped f o s from file R e n t (λ i v l w. told i v (omega arith) w) before in
    let last = weighed-last (by_drops f o) s n (drop from file) in
    let at = ap (by_drops f o) (drop-drop (s * n) from file) in
    omega arith

-- both kinds of two bytes are read and told from runs alike
pub narrow-read : (b o : Bool) (bs : List ℕ) (x : ℕ) → x ≡ num_of o (take 2 bs) → x ≡ num_of o (take (value_bytes (words_by b)) bs)
narrow-read true o bs x e = e
narrow-read false o bs x e = e

pub run-narrow : (b : Bool) (x : ℕ) (run : Bool) → run ≡ is_run 256 x → run ≡ is_run (radix_of (words_by b)) x
run-narrow true x run e = e
run-narrow false x run e = e
