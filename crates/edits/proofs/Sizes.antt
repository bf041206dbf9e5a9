-- How many bytes a result has, by what is found of its parts. Assumes nothing.
use mathlib.Core.Path.{◌≡◌, sym, ap, ap₂, subst, ◌∙◌}
use mathlib.Core.Bool.{Bool}
use mathlib.Core.List.{List, [], ◌++◌, append_assoc}
use Prim.Native.Nat.{ℕ, ◌+◌, ◌-◌, ◌*◌, ◌%◌, ◌≤◌, ◌<◌}
use native.Mathlib.Omega.{arith}
use borrow.Author.Tests.{ne_eqb}
use lib.Seq.{sets}
use lib.ListN.{length, replicate, length-append, length-drop, drop_of_length-le}
use Rattle.frame.specs.Frames.{length_of, frame, frames}
use Rattle.order.proofs.Stores.{sets_append}
use Rattle.frame.specs.Files.{mark}
use Rattle.frame.proofs.Frames.{length-frame}
use Rattle.frame.proofs.Files.{length-mark}
use Rattle.index.specs.Index.{types_of}
use Rattle.index.specs.inner.Flags.{flag_all, flagged_types}
use Rattle.index.proofs.Laws.{length_data}
use Rattle.index.proofs.Flags.{flag_all_append, flagged-types}
use Rattle.edits.specs.Edits.{tuples_in, rest_in}
use Rattle.edits.specs.inner.Parts.{kept_tuples, kept_of, all_of, index_in, result_of, Surveyed, Cut}
use Rattle.edits.proofs.Joining.{kept_whole, length-kept, tail-whole, tail_none, length-result}

-- what is left of a part behind its tuples
pub rest-size : (o : Bool) (r : List ℕ) (end : ℕ) → end ≡ length (frames o (tuples_in o r)) → length (rest_in o r) ≡ length r - end
unfolding rest_in
rest-size o r end e = length-drop (length (frames o (tuples_in o r))) r ∙ ap (λ (k : ℕ). length r - k) (sym e)

pub rest_over : (o : Bool) (r : List ℕ) (end : ℕ) → end ≡ length (frames o (tuples_in o r)) → length r ≤ end → rest_in o r ≡ []
unfolding rest_in
rest_over o r end e h = drop_of_length-le r (subst (λ (k : ℕ). length r ≤ k) e h)

module _ (o : Bool) (a b z : List ℕ) (ga gb gz : List ℕ) (ka ea kb eb kz ez : ℕ)
    (sa : Surveyed o a (replicate 8192 0) ka ea ga) (sb : Surveyed o b ga kb eb gb) (sz : Surveyed o z gb kz ez gz) where
  -- all types are flagged
  pub all-flags : gz ≡ flag_all (replicate 8192 0) (all_of o a b z)
  all-flags =
      sz.flags
      ∙ ap (λ (g : List ℕ). flag_all g (tuples_in o z))
      (sb.flags ∙ ap (λ (g : List ℕ). flag_all g (tuples_in o b)) sa.flags ∙ sym
      (flag_all_append (replicate 8192 0) (tuples_in o a) (tuples_in o b)))
      ∙ sym (flag_all_append (replicate 8192 0) (tuples_in o a ++ tuples_in o b) (tuples_in o z))

  pub all_types : flagged_types gz ≡ types_of (all_of o a b z)
  all_types = ap flagged_types all-flags ∙ flagged-types (all_of o a b z)

  pub index-size : (k : ℕ) → k ≡ length (flagged_types gz) → (m : ℕ) → m ≡ 20 + 2 * (k + k % 2) → m ≡ length_of (index_in o a b z)
  index-size k e m h =
      let n = length (types_of (all_of o a b z)) in
      let s : m ≡ 20 + 2 * (n + n % 2) = h ∙ ap (λ (i : ℕ). 20 + 2 * (i + i % 2)) (e ∙ ap length all_types) in
      omega (arith, s, length_data o (types_of (all_of o a b z)))

  module _ (c : Cut o a b z) where
    first-kept : length (kept_of o a) ≡ ka
    first-kept = ap length (kept_whole o a c.first) ∙ sym sa.bytes

    last-kept : length (kept_of o z) ≡ kz
    last-kept = ap length (kept_whole o z c.last) ∙ sym sz.bytes

    pub broken-size : eb < length b → 4 + ka + kb + (length b - eb) ≡ length (result_of o a b z)
    broken-size h =
        let r = rest-size o b eb sb.behind in
        let t = tail_none o a b z (ne_eqb (length (rest_in o b)) 0 (λ y. omega (arith, r, y))) in
        omega (arith, first-kept, length-kept o b, sb.bytes, r, ap length t, length-result o a b z)

    pub whole-size : length b ≤ eb → (m : ℕ) → m ≡ length_of (index_in o a b z) → 4 + ka + kb + m + kz ≡ length (result_of o a b z)
    whole-size h m e =
        let r = rest_over o b eb sb.behind h in
        let t = tail-whole o a b z r in
        omega (
          arith,
          first-kept,
          last-kept,
          length-kept o b,
          sb.bytes,
          ap length r,
          ap length t,
          e,
          length-append (frame o (index_in o a b z)) (kept_of o z),
          length-frame o (index_in o a b z),
          length-result o a b z,
        )

-- ---- what is written, part behind part
-- y behind x
behind : (out x y : List ℕ) (p : ℕ) (m l : List ℕ) → m ≡ sets out 0 x → p ≡ length x → l ≡ sets m p y → l ≡ sets out 0 (x ++ y)
behind out x y p m l e h g =
    let q : p ≡ 0 + length x = omega (arith, h) in
    g ∙ ap₂ (λ (z : List ℕ) (k : ℕ). sets z k y) e q ∙ sym (sets_append x y out 0)

module _ (o : Bool) (a b z : List ℕ) (c : Cut o a b z) (d : rest_in o b ≡ []) where
  abbrev A : List ℕ
  A = kept_tuples o a

  abbrev B : List ℕ
  B = kept_tuples o b

  abbrev X : List ℕ
  X = frame o (index_in o a b z)

  abbrev Z : List ℕ
  Z = kept_tuples o z

  in_row : result_of o a b z ≡ (((mark o ++ A) ++ B) ++ X) ++ Z
  unfolding result_of
  in_row =
      (λ i. mark o ++ (kept_whole o a c.first i ++
      (kept_whole o b d i ++ (tail-whole o a b z d ∙ ap (λ (l : List ℕ). X ++ l) (kept_whole o z c.last)) i)))
      ∙ regroup (mark o) A B X Z
    where
      regroup : (m a b x z : List ℕ) → m ++ (a ++ (b ++ (x ++ z))) ≡ (((m ++ a) ++ b) ++ x) ++ z
      regroup m a b x z = simp append_assoc

  -- so many bytes in each
  pub rowed : length (result_of o a b z) ≡ 4 + length A + length B + length_of (index_in o a b z) + length Z
  rowed =
      ap length in_row ∙ length-append (((mark o ++ A) ++ B) ++ X) Z
      ∙ omega (
        arith,
        length-append ((mark o ++ A) ++ B) X,
        length-append (mark o ++ A) B,
        length-append (mark o) A,
        length-mark o,
        length-frame o (index_in o a b z),
      )

  pub stored : (out m p q x l : List ℕ) (i j k : ℕ) → m ≡ sets out 0 (mark o) → p ≡ sets m 4 A → i ≡ 4 + length A → q ≡ sets p i B
      → j ≡ i + length B
      → x ≡ sets q j X
      → k ≡ j + length_of (index_in o a b z)
      → l ≡ sets x k Z
      → l ≡ sets out 0 (result_of o a b z)
  stored out m p q x l i j k pm pp hi pq hj px hk pl =
      let l2 : i ≡ length (mark o ++ A) = omega (arith, hi, length-mark o, length-append (mark o) A) in
      let l3 : j ≡ length ((mark o ++ A) ++ B) = omega (arith, hj, l2, length-append (mark o ++ A) B) in
      let l4 : k ≡ length (((mark o ++ A) ++ B) ++ X) =
      omega (arith, hk, l3, length-append ((mark o ++ A) ++ B) X, length-frame o (index_in o a b z)) in
      let q2 = behind out (mark o) A 4 m p pm (sym (length-mark o)) pp in
      let q3 = behind out (mark o ++ A) B i p q q2 l2 pq in
      let q4 = behind out ((mark o ++ A) ++ B) X j q x q3 l3 px in
      behind out (((mark o ++ A) ++ B) ++ X) Z k x l q4 l4 pl ∙ ap (sets out 0) (sym in_row)
