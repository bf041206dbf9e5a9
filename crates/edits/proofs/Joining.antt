-- The bytes of a result in parts: they are those of the definitions, and how many they are. Assumes nothing.
use mathlib.Core.Path.{◌≡◌, refl, sym, ap, ◌∙◌}
use mathlib.Core.Bool.{Bool, true, false, cond}
use mathlib.Core.List.{List, [], ◌∷◌, ◌++◌, append_assoc, append-nil}
use Prim.Native.Nat.{ℕ, suc, ◌+◌}
use native.Mathlib.Omega.{arith}
use borrow.Author.Tests.{eqb-true}
use lib.Dec.{eqb}
use lib.ListN.{length, drop, length-append}
use lib.Seq.{drop_at}
use Rattle.order.specs.Order.{Bytes}
use Rattle.layout.specs.Types
use Rattle.layout.specs.Types.{in_class}
use Rattle.frame.specs.Frames.{Tup, frame, frames}
use Rattle.frame.specs.Files.{mark}
use Rattle.frame.specs.Tuples.{AllFramed}
use Rattle.frame.proofs.Files.{length-mark}
use Rattle.index.specs.Index.{outside}
use Rattle.frame.proofs.Tuples.{frames_append}
use Rattle.index.proofs.Fresh.{outside_append}
use Rattle.edits.specs.Edits.{rewritten, tuples_in, rest_in, broken_off, joined}
use Rattle.edits.specs.inner.Parts.{kept_tuples, kept_of, index_in, tail_by, tail_of, result_of}
use Rattle.edits.proofs.Dividing.{divided, rest-front}

-- ---- tuples kept
pub outside-framed : (ts : List Tup) → AllFramed ts → AllFramed (outside ts)
unfolding outside
outside-framed [] g = tt
outside-framed (t ∷ ts) g = by_test (in_class Types.index t.kind) (outside-framed ts g.1)
  where
    by_test : (b : Bool) → AllFramed (outside ts) → AllFramed (elim b as (λ _. List Tup) [ true ↦ outside ts | false ↦ t ∷ outside ts ])
    by_test true h = h
    by_test false h = (g.0, h)

kept-two : (o : Bool) (us vs : List Tup) → frames o (outside (us ++ vs)) ≡ frames o (outside us) ++ frames o (outside vs)
kept-two o us vs = ap (frames o) (outside_append us vs) ∙ frames_append o (outside us) (outside vs)

-- ---- a part with no byte over, and one with some
pub empty : (l : List ℕ) → eqb (length l) 0 ≡ true → l ≡ []
empty [] e = refl
empty (x ∷ l) e = absurd (omega (arith, eqb-true (suc (length l)) 0 e))

pub kept_whole : (o : Bool) (r : List ℕ) → rest_in o r ≡ [] → kept_of o r ≡ kept_tuples o r
unfolding kept_of
kept_whole o r e = ap (λ (l : List ℕ). kept_tuples o r ++ l) e ∙ append-nil (kept_tuples o r)

pub rest-twice : (o : Bool) (r : List ℕ) → Bytes r → rest_in o (rest_in o r) ≡ rest_in o r
rest-twice o r b =
    let d = divided o r b in
    sym (ap (rest_in o) d.bytes ∙ rest-front o (tuples_in o r) (rest_in o r) d.framed)

module _ (o : Bool) (a b z : List ℕ) where
  -- ---- the tail, by whether the second part divides
  pub tail-whole : rest_in o b ≡ [] → tail_of o a b z ≡ frame o (index_in o a b z) ++ kept_of o z
  unfolding tail_of
  tail-whole e = ap (λ (l : List ℕ). tail_by o (index_in o a b z) z (eqb (length l) 0)) e

  pub tail_none : eqb (length (rest_in o b)) 0 ≡ false → tail_of o a b z ≡ []
  unfolding tail_of
  tail_none e = ap (tail_by o (index_in o a b z) z) e

  -- ---- a result is the file that the definitions say
  module _ (wa : rest_in o a ≡ []) (wz : rest_in o z ≡ []) where
    abbrev us : List Tup
    us = tuples_in o a ++ tuples_in o b

    whole-result : rest_in o b ≡ [] → result_of o a b z ≡ rewritten o us (tuples_in o z)
    unfolding result_of rewritten
    whole-result wb =
        let x = index_in o a b z in
        (λ i. mark o ++ (kept_whole o a wa i ++
        (kept_whole o b wb i ++ (tail-whole wb ∙ ap (λ (l : List ℕ). frame o x ++ l) (kept_whole o z wz)) i)))
        ∙ ap (λ (l : List ℕ). mark o ++ l)
        (sym (append_assoc (kept_tuples o a) (kept_tuples o b) (frame o x ++ kept_tuples o z))
        ∙ ap (λ (l : List ℕ). l ++ (frame o x ++ kept_tuples o z)) (sym (kept-two o (tuples_in o a) (tuples_in o b)))
        ∙ sym (frames_append o (outside us) (x ∷ outside (tuples_in o z))))

    broken-result : eqb (length (rest_in o b)) 0 ≡ false → result_of o a b z ≡ broken_off o us (rest_in o b)
    unfolding result_of broken_off kept_of
    broken-result e =
        (λ i. mark o ++ (kept_whole o a wa i ++ (kept_of o b ++ tail_none e i)))
        ∙ ap (λ (l : List ℕ). mark o ++ l)
        (ap (λ (l : List ℕ). kept_tuples o a ++ l) (append-nil (kept_of o b))
        ∙ sym (append_assoc (kept_tuples o a) (kept_tuples o b) (rest_in o b))
        ∙ ap (λ (l : List ℕ). l ++ rest_in o b) (sym (kept-two o (tuples_in o a) (tuples_in o b))))

    pub result-joined : result_of o a b z ≡ joined o (tuples_in o a) b (tuples_in o z)
    result-joined = by_test (eqb (length (rest_in o b)) 0) refl
      where
        by_test : (t : Bool) → eqb (length (rest_in o b)) 0 ≡ t
            → result_of o a b z ≡ cond t (rewritten o us (tuples_in o z)) (broken_off o us (rest_in o b))
        by_test true e = whole-result (empty (rest_in o b) e)
        by_test false e = broken-result e

  -- ---- lengths
  pub length-result : length (result_of o a b z) ≡ 4 + (length (kept_of o a) + (length (kept_of o b) + length (tail_of o a b z)))
  unfolding result_of
  length-result =
      length-append (mark o) (kept_of o a ++ (kept_of o b ++ tail_of o a b z))
      ∙ omega (arith, length-mark o, length-append (kept_of o a) (kept_of o b ++ tail_of o a b z), length-append (kept_of o b) (tail_of o a b z))

  pub behind-mark : drop 4 (result_of o a b z) ≡ kept_of o a ++ (kept_of o b ++ tail_of o a b z)
  unfolding result_of
  behind-mark = drop_at (mark o) (kept_of o a ++ (kept_of o b ++ tail_of o a b z)) 4 (length-mark o)

pub length-kept : (o : Bool) (r : List ℕ) → length (kept_of o r) ≡ length (kept_tuples o r) + length (rest_in o r)
unfolding kept_of
length-kept o r = length-append (kept_tuples o r) (rest_in o r)
