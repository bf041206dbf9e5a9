-- Samples handed over apart, numbers and signed values of w bytes, or two angles: how many they are, the one at a place and those
-- behind it; and numbers or values alone. Assumes nothing.
use mathlib.Core.Path.{◌≡◌, refl, sym, ap, ◌∙◌}
use mathlib.Core.List.{List, [], ◌∷◌}
use Prim.Native.Nat.{ℕ, suc, ◌+◌, ◌*◌, ◌^◌, ◌≤◌, ◌<◌}
use native.Mathlib.Numerals.{add-one}
use native.Mathlib.Omega.{arith}
use mir.Syntax.{Width}
use mir.Val.{to_z, of_z, hbits}
use mir.ValLaws.{to_z-of_z}
use lib.Dec.{leb}
use lib.IntN.{ℤ, pos, negsuc}
use lib.ListN.{length, drop, get_or, drop_of_length-le}
use lib.Seq.{drop-cons}
use lib.Signed.{mag}
use borrow.Author.Tests.{leb-true}
use Rattle.order.specs.Order.{pattern_of}
use Rattle.layout.specs.Families.{Family}
use Rattle.samples.specs.Words.{Sample}
use Rattle.samples.specs.Lists.{paired, angled}
use Rattle.samples.specs.inner.Lists.{numbered, valued}
use Rattle.samples.specs.Runs.{encode_from, behind}
use Rattle.samples.specs.Values.{revalued, wordless}
use Rattle.samples.specs.Judging.{first_drop, first_wordless}
use Rattle.samples.specs.Words.{Below}
use Rattle.samples.proofs.Words.{Within, limit-pos}
use Rattle.samples.proofs.Runs.{by_bool}
use Rattle.samples.proofs.Rising.{drop-later, drop_here}
use Rattle.samples.proofs.Written.{behind-map, encode-map, wordless-here, wordless-later}

-- ---- a signed element is read through its bits
pub pattern-read : (w : Width) (k : ℕ) (z : ℤ) (v : ℕ) → mag z < 2 ^ hbits w → v ≡ pattern_of k (to_z w (of_z w z)) → v ≡ pattern_of k z
pattern-read w k z v h e = rw (to_z-of_z w z (record { sfits = h })) at e

-- ---- values of w bytes: below half of their patterns
abbrev pub Ints : ℕ → List ℤ → Type 0
Ints w [] = Unit {0}
Ints w (v ∷ vs) = (2 * mag v < 256 ^ w) × Ints w vs

pattern-below : (w : ℕ) (z : ℤ) → 2 * mag z < 256 ^ w → pattern_of w z < 256 ^ w
pattern-below w (pos n) h = omega arith
pattern-below w (negsuc n) h = omega (arith, limit-pos w)

pub paired-within : (m w : ℕ) (ns : List ℕ) (vs : List ℤ) → Below m ns → Ints w vs → Within m (256 ^ w) (paired w ns vs)
paired-within m w [] vs b f = tt
paired-within m w (n ∷ ns) [] b f = tt
paired-within m w (n ∷ ns) (v ∷ vs) b f = (b.0, pattern-below w v f.0, paired-within m w ns vs b.1 f.1)

drop-revalued : (g : ℕ → ℕ) (s : List Sample) (n : ℕ) → first_drop n (revalued g s) ≡ first_drop n s
drop-revalued g [] n = refl
drop-revalued g (x ∷ s) n =
    by_bool (leb n x.0)
    (λ t.
    let h = leb-true n x.0 t in
    drop-later n (x.0, g x.1) (revalued g s) h ∙ ap (λ (k : ℕ). k + 1) (drop-revalued g s (x.0 + 1)) ∙ sym (drop-later n x s h))
    (λ t. drop_here n (x.0, g x.1) (revalued g s) t ∙ sym (drop_here n x s t))

module _ (w : ℕ) where
  -- ---- samples handed over apart: the one at i, and those behind it
  pub paired-next : (ns : List ℕ) (vs : List ℤ) (i : ℕ) → i < length ns → i < length vs
      → paired w (drop i ns) (drop i vs) ≡ (get_or ns i 0, pattern_of w (get_or vs i (pos 0))) ∷ paired w (drop (i + 1) ns) (drop (i + 1) vs)
  paired-next ns vs i h g = rw (drop-cons ns i 0 h, drop-cons vs i (pos 0) g, add-one i)

  pub paired-end : (ns : List ℕ) (vs : List ℤ) (i : ℕ) → length ns ≤ i → paired w (drop i ns) (drop i vs) ≡ []
  paired-end ns vs i h = rw (drop_of_length-le ns h)

  pub length-paired : (ns : List ℕ) (vs : List ℤ) → length vs ≡ length ns → length (paired w ns vs) ≡ length ns
  length-paired [] vs e = refl
  length-paired (n ∷ ns) [] e = absurd (omega arith)
  length-paired (n ∷ ns) (v ∷ vs) e = ap suc (length-paired ns vs (omega arith))

  -- ---- values alone
  pub length-valued : (vs : List ℤ) → length (valued w vs) ≡ length vs
  length-valued [] = refl
  length-valued (v ∷ vs) = ap suc (length-valued vs)

  pub valued-next : (vs : List ℤ) (i : ℕ) → i < length vs → valued w (drop i vs) ≡ (0, pattern_of w (get_or vs i (pos 0))) ∷ valued w
      (drop (i + 1) vs)
  valued-next vs i h = rw (drop-cons vs i (pos 0) h, add-one i)

  pub valued-end : (vs : List ℤ) (i : ℕ) → length vs ≤ i → valued w (drop i vs) ≡ []
  valued-end vs i h = rw (drop_of_length-le vs h)

  pub wordless-valued : (f : Family) (ns : List ℕ) (vs : List ℤ) → length vs ≡ length ns
      → first_wordless f (valued w vs) ≡ first_wordless f (paired w ns vs)
  wordless-valued f [] [] e = refl
  wordless-valued f [] (v ∷ vs) e = absurd (omega arith)
  wordless-valued f (x ∷ ns) [] e = absurd (omega arith)
  wordless-valued f (x ∷ ns) (v ∷ vs) e =
      by_bool (wordless f (pattern_of w v))
      (λ t. wordless-here f (0, pattern_of w v) (valued w vs) t ∙ sym (wordless-here f (x, pattern_of w v) (paired w ns vs) t))
      (λ t.
      wordless-later f (0, pattern_of w v) (valued w vs) t
      ∙ ap (λ (k : ℕ). k + 1) (wordless-valued f ns vs (omega arith))
      ∙ sym (wordless-later f (x, pattern_of w v) (paired w ns vs) t))

  -- ---- numbers alone: they are the samples' with other values
  numbers-alone : (ns : List ℕ) (vs : List ℤ) → length vs ≡ length ns → numbered ns ≡ revalued (λ _. 0) (paired w ns vs)
  numbers-alone [] vs e = refl
  numbers-alone (n ∷ ns) [] e = absurd (omega arith)
  numbers-alone (n ∷ ns) (v ∷ vs) e = ap (λ (l : List Sample). (n, 0) ∷ l) (numbers-alone ns vs (omega arith))

  pub drop-numbered : (ns : List ℕ) (vs : List ℤ) → length vs ≡ length ns → first_drop 0 (numbered ns) ≡ first_drop 0 (paired w ns vs)
  drop-numbered ns vs e = ap (first_drop 0) (numbers-alone ns vs e) ∙ drop-revalued (λ _. 0) (paired w ns vs) 0

  -- the number behind the last
  pub behind-numbered : (ns : List ℕ) (vs : List ℤ) → length vs ≡ length ns → behind 0 (numbered ns) ≡ behind 0 (paired w ns vs)
  behind-numbered ns vs e = ap (behind 0) (numbers-alone ns vs e) ∙ behind-map (λ _. 0) (paired w ns vs) 0

  -- how many words they take, with t quiet samples behind them, whichever words g gives the values
  pub count-numbered : (R : ℕ) → 0 < R → (g : ℕ → ℕ) (ns : List ℕ) (vs : List ℤ) (t : ℕ) → length vs ≡ length ns
      → length (encode_from R 0 (numbered ns) t) ≡ length (encode_from R 0 (revalued g (paired w ns vs)) t)
  count-numbered R some g ns vs t e =
      let s = paired w ns vs in
      ap (λ (u : List Sample). length (encode_from R 0 u t)) (numbers-alone ns vs e)
      ∙ encode-map R some (λ _. 0) s 0 t
      ∙ sym (encode-map R some g s 0 t)

pub numbered_next : (ns : List ℕ) (i : ℕ) → i < length ns → numbered (drop i ns) ≡ (get_or ns i 0, 0) ∷ numbered (drop (i + 1) ns)
numbered_next ns i h = rw (drop-cons ns i 0 h, add-one i)

pub numbered-end : (ns : List ℕ) (i : ℕ) → length ns ≤ i → numbered (drop i ns) ≡ []
numbered-end ns i h = rw (drop_of_length-le ns h)

pub length-numbered : (ns : List ℕ) → length (numbered ns) ≡ length ns
length-numbered [] = refl
length-numbered (n ∷ ns) = ap suc (length-numbered ns)

-- ---- numbers and two angles
pub length-angled : (ns : List ℕ) (xs ys : List ℤ) → length xs ≡ length ns → length ys ≡ length ns → length (angled ns xs ys) ≡ length ns
length-angled [] xs ys d e = refl
length-angled (n ∷ ns) [] ys d e = absurd (omega arith)
length-angled (n ∷ ns) (x ∷ xs) [] d e = absurd (omega arith)
length-angled (n ∷ ns) (x ∷ xs) (y ∷ ys) d e = ap suc (length-angled ns xs ys (omega arith) (omega arith))
