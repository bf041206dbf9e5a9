-- The tuples of an accepted file, cut in two: the end of file is the last of them, and each part's bytes are its tuples. Assumes nothing.
use mathlib.Core.Path.{◌≡◌, refl, sym, ap, ap₂, ◌∙◌}
use mathlib.Core.Bool.{Bool, true, false}
use mathlib.Core.List.{List, [], ◌∷◌, ◌++◌}
use Prim.Native.Nat.{ℕ, ◌+◌, ◌-◌, ◌≤◌}
use native.Mathlib.Omega.{arith}
use lib.Dec.{eqb}
use lib.ListN.{length, take, drop, length-append, length-drop}
use lib.Seq.{drop_at, drop-drop, take_at, take_all}
use Rattle.order.specs.Order.{Bytes}
use Rattle.layout.specs.declared.Counts.{Counts}
use Rattle.frame.specs.Frames.{Tup, frames}
use Rattle.frame.specs.Files.{limit, mark, is_msb}
use Rattle.frame.specs.Tuples.{tuples_of, AllFramed}
use Rattle.frame.proofs.Files.{length-mark}
use Rattle.links.specs.Links.{Links, note}
use Rattle.links.proofs.Linked.{Linked, linked-next, linked-end}
use Rattle.content.specs.Items.{digest}
use Rattle.content.proofs.Places.{by_code}
use Rattle.intake.proofs.Accepted
use Rattle.intake.proofs.Accepted.{digests, all-framed}
use Rattle.index.specs.Index.{before_end, from_end}
use Rattle.edits.specs.inner.Places.{Taken}
use Rattle.frame.proofs.Tuples.{frames_append}

-- ---- no end of file among tuples
abbrev pub NoEnd : List Tup → Type 0
NoEnd [] = Unit {0}
NoEnd (t ∷ ts) = (eqb t.kind 65534 ≡ false) × NoEnd ts

pub before_append : (us vs : List Tup) → NoEnd us → before_end (us ++ vs) ≡ us ++ before_end vs
unfolding before_end
before_append [] vs n = refl
before_append (u ∷ us) vs n = rw (n.0, before_end) (ap (λ (l : List Tup). u ∷ l) (before_append us vs n.1))

pub from_append : (us vs : List Tup) → NoEnd us → from_end (us ++ vs) ≡ from_end vs
unfolding from_end
from_append [] vs n = refl
from_append (u ∷ us) vs n = rw (n.0, from_end) (from_append us vs n.1)

-- before another tuple of linked ones
pub no_end : (o : Bool) (first : Bool) (s : Links) (us : List Tup) (t : Tup) (vs : List Tup) → Linked first s (digests o (us ++ (t ∷ vs)))
    → NoEnd us
no_end o first s [] t vs l = tt
no_end o first s (u ∷ us) t vs l = by_test (eqb u.kind 65534) refl (λ k. no_end o false (note s (digest o u)) us t vs k)
  where
    some : (ws : List Tup) → digests o (ws ++ (t ∷ vs)) ≡ [] → ⊥
    some [] e = let z : ◌≡◌ {A = ℕ} 0 1 = cc in omega arith
    some (w ∷ ws) e = let z : ◌≡◌ {A = ℕ} 0 1 = cc in omega arith

    by_test : (b : Bool) → eqb u.kind 65534 ≡ b → (Linked false (note s (digest o u)) (digests o (us ++ (t ∷ vs))) → NoEnd us)
        → NoEnd (u ∷ us)
    by_test true e ih = absurd (some us (linked-end l ((by_code o u).ends ∙ e)).0)
    by_test false e ih = (e, ih (linked-next l ((by_code o u).ends ∙ e)))

-- ---- an accepted file cut between its tuples
module _ (f : List ℕ) (b : Bytes f) (n : Counts) (t : Taken f n) where
  abbrev d : Accepted.Divided f n
  d = Accepted.divided f b n t

  pub all-taken : AllFramed (tuples_of f)
  all-taken = all-framed (is_msb f) (tuples_of f) (Accepted.divided f b n t).sound

  pub taken-small : length f ≤ limit
  taken-small = (Accepted.divided f b n t).small

  pub taken-mark : drop 4 f ≡ frames (is_msb f) (tuples_of f)
  taken-mark =
      ap (drop 4) (Accepted.divided f b n t).whole ∙ drop_at (mark (is_msb f)) (frames (is_msb f) (tuples_of f)) 4 (length-mark (is_msb f))

  pub taken_4 : 4 ≤ length f
  taken_4 =
      omega (
        arith,
        ap length (Accepted.divided f b n t).whole,
        length-append (mark (is_msb f)) (frames (is_msb f) (tuples_of f)),
        length-mark (is_msb f),
      )

  module _ (us vs : List Tup) (e : tuples_of f ≡ us ++ vs) where
    in_two : drop 4 f ≡ frames (is_msb f) us ++ frames (is_msb f) vs
    in_two = taken-mark ∙ ap (frames (is_msb f)) e ∙ frames_append (is_msb f) us vs

    pub cut-within : 4 + length (frames (is_msb f) us) + length (frames (is_msb f) vs) ≡ length f
    cut-within =
        omega (arith, taken_4, ap length in_two, length-drop 4 f, length-append (frames (is_msb f) us) (frames (is_msb f) vs))

    pub cut-behind : drop (4 + length (frames (is_msb f) us)) f ≡ frames (is_msb f) vs
    cut-behind =
        sym (drop-drop (length (frames (is_msb f) us)) 4 f)
        ∙ ap (drop (length (frames (is_msb f) us))) in_two
        ∙ drop_at (frames (is_msb f) us) (frames (is_msb f) vs) (length (frames (is_msb f) us)) refl

    pub cut-before : (k : ℕ) → k ≡ 4 + length (frames (is_msb f) us) → take (k - 4) (drop 4 f) ≡ frames (is_msb f) us
    cut-before k h =
        let m : k - 4 ≡ length (frames (is_msb f) us) = omega (arith, h) in
        ap₂ take m in_two ∙ take_at (frames (is_msb f) us) (frames (is_msb f) vs) (length (frames (is_msb f) us)) refl

    -- as the code slices it
    pub cut-last : (k : ℕ) → k ≡ 4 + length (frames (is_msb f) us) → take (length f - k) (drop k f) ≡ frames (is_msb f) vs
    cut-last k h =
        take_all (length f - k) (drop k f) (omega (arith, length-drop k f)) ∙ ap (λ (i : ℕ). drop i f) h ∙ cut-behind
