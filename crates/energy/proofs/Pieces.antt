-- A value read from a piece of its width alone is the one that stands first in all that the piece begins. Assumes nothing.
use mathlib.Core.Path.{◌≡◌, refl, sym, ap, ◌∙◌}
use mathlib.Core.Bool.{Bool, true, true≢false}
use mathlib.Core.List.{List, [], ◌++◌}
use Prim.Native.Nat.{ℕ, ◌+◌, ◌*◌, ◌≤◌, ◌<◌}
use native.Mathlib.Omega.{arith}
use borrow.Author.Tests.{eqb-true}
use lib.IntN.{ℤ}
use lib.ListN.{length, take, drop, length-drop, length-append}
use Rattle.std.proofs.lemmas.List.{take-append-le, drop-append-le}
use Rattle.std.proofs.Math.Seq.{drop-append_seam}
use Rattle.std.specs.Prelude.{Option, Some, None}
use Rattle.order.specs.Order.{num_of, signed_of}
use Rattle.layout.specs.Families.{value_bytes, number_bytes, value_count}
use Rattle.layout.specs.Types.{Shape, indexed, row, uncompressed, compressed, unlisted, shape_of}
use Rattle.samples.specs.Lists.{handed_bytes}
use Rattle.samples.proofs.Words.{word_at}
use Rattle.tuples.specs.Readers.{holding, is_valued}
use Rattle.sampling.specs.inner.Walking.{width_of, values_left, standing, ValuedTo}
use Rattle.sampling.proofs.Values.{values-end, plain-valued, word-valued, word-there}

-- as many bytes of the piece say the same
word-front : (o : Bool) (piece rest : List ℕ) (w p : ℕ) → p + w ≤ length piece → word_at w o (piece ++ rest) p ≡ word_at w o piece p
word-front o piece rest w p h =
    ap (λ (l : List ℕ). num_of o (take w l)) (drop-append-le p piece rest (omega arith))
    ∙ ap (num_of o) (take-append-le w (drop p piece) rest (simp length-drop (omega arith)))

-- what is told of no more tells it of more
told : (a b : Option ℤ) (ls : List ℤ) → standing a [] ≡ standing b [] → standing a ls ≡ standing b ls
told (Some u) (Some v) ls e = cc
told (Some u) None ls e = cc
told None (Some v) ls e = cc
told None None ls e = refl

module _ (k : ℕ) (o : Bool) (piece rest : List ℕ) (long : length piece ≡ width_of (shape_of k)) (some : 0 < width_of (shape_of k)) where
  abbrev Told : Type 0
  Told = (r : Option ℤ) → ValuedTo k o piece 0 r
      → values_left (shape_of k) o (piece ++ rest) ≡ standing r (values_left (shape_of k) o rest)

  -- where one value stands in both
  both : (x : Option ℤ) → ValuedTo k o piece 0 x → ValuedTo k o (piece ++ rest) 0 x → Told
  both x a b r t =
      let w = width_of (shape_of k) in
      let none = values-end (shape_of k) o piece (0 + w) (omega (arith, long, some)) in
      let one : standing x [] ≡ standing r [] = ap (standing x) (sym none) ∙ sym a.left ∙ t.left ∙ ap (standing r) none in
      let at : 0 + w ≡ length piece = omega (arith, long) in
      let behind : drop (0 + w) (piece ++ rest) ≡ rest =
      ap (λ (n : ℕ). drop n (piece ++ rest)) at ∙ drop-append_seam piece rest in
      b.left
      ∙ ap (λ (l : List ℕ). standing x (values_left (shape_of k) o l)) behind
      ∙ told x r (values_left (shape_of k) o rest) one

  whole : {w : ℕ} → width_of (shape_of k) ≡ w → (0 + w ≤ length piece) × (0 + w ≤ length (piece ++ rest))
  whole e = (omega (arith, long, e), omega (arith, long, e, length-append piece rest))

  by : (q : Shape) → shape_of k ≡ q → holding 1 q ≡ true → Told
  by indexed e z = absurd (true≢false (sym z))
  by (row fs x) e z = absurd (true≢false (sym z))
  by (uncompressed f) e z =
      let one = eqb-true (value_count f) 1 z in
      let fits = whole (ap width_of e) in
      let n = number_bytes f in
      let wide : 0 + n + value_bytes f ≤ length piece =
      omega (arith, fits.0, ap (λ (m : ℕ). n + m * value_bytes f) one) in
      let v = signed_of (handed_bytes f) (word_at (value_bytes f) o piece (0 + n)) in
      both (Some v) (plain-valued f o piece 0 e one fits.0 refl)
      (plain-valued f o (piece ++ rest) 0 e one fits.1
      (ap (signed_of (handed_bytes f)) (sym (word-front o piece rest (value_bytes f) (0 + n) wide))))
  by (compressed f) e z =
      let fits = whole (ap width_of e) in
      let word = word_at (value_bytes f) o piece 0 in
      let v = word-valued f refl word refl refl refl in
      both _ (word-there f o piece 0 e fits.0 refl v)
      (word-there f o (piece ++ rest) 0 e fits.1 (sym (word-front o piece rest (value_bytes f) 0 fits.0)) v)
  by unlisted e z = absurd (true≢false (sym z))

  pub value-first : is_valued k ≡ true → (r : Option ℤ) → ValuedTo k o piece 0 r
      → values_left (shape_of k) o (piece ++ rest) ≡ standing r (values_left (shape_of k) o rest)
  value-first z = by (shape_of k) refl z
