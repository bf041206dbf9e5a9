-- What is handed back of a result, by what the check says of it. Assumes nothing.
use mathlib.Core.Path.{◌≡◌, refl, sym, ap, subst, ◌∙◌}
use mathlib.Core.Bool.{Bool, true, false}
use mathlib.Core.List.{List, [], ◌∷◌, ◌++◌, append-nil}
use Prim.Native.Nat.{ℕ, ◌≤◌, ◌<◌}
use native.Mathlib.Omega.{arith}
use borrow.Author.Tests.{lt-ltb, le-ltb}
use lib.Dec.{ltb, eqb}
use lib.ListN.{length, drop}
use lib.Seq.{sets, drop_at}
use Rattle.order.specs.Order.{Bytes}
use Rattle.order.proofs.Laws.{bytes_append, bytes_drop, bytes-lows, bytes-ordered}
use Rattle.rules.specs.Rules.{◌⇒◌}
use Rattle.rules.specs.Rules.First.{none, here, pass}
use Rattle.rules.proofs.Laws.{first_eq}
use Rattle.layout.specs.declared.Counts.{Counts}
use Rattle.layout.specs.Answer.{Answer}
use Rattle.layout.specs.Answer.{Accepted, Refused}
use Rattle.layout.specs.Answers.{tells}
use Rattle.layout.proofs.Lent.{left-refused, left-accepted}
use Rattle.frame.specs.Frames.{frames}
use Rattle.frame.specs.Files.{limit, mark, is_msb}
use Rattle.frame.specs.Tuples.{tuples_of}
use Rattle.frame.proofs.Files.{length-mark, msb-mark}
use Rattle.frame.proofs.Tuples.{bytes-frames}
use Rattle.index.specs.Index.{outside}
use Rattle.intake.specs.Check.{writing, check_file}
use Rattle.intake.proofs.Checks.{over-limit}
use Rattle.intake.proofs.Accepted
use Rattle.intake.proofs.Accepted.{all-framed}
use Rattle.edits.specs.Edits.{tuples_in, rest_in, behind_result, result_answer, Edited}
use Rattle.edits.specs.inner.Parts.{kept_tuples, kept_of, tail_of, result_of, Rewritten}
use Rattle.edits.proofs.Dividing.{divided, rest-front, rest_in_lem}
use Rattle.edits.proofs.Joining.{outside-framed, empty, kept_whole, rest-twice, tail_none, behind-mark}

-- ---- a promise kept by a refusal, and by an acceptance
pub edited_refused : (said : Answer) (g out : List ℕ) (c p : ℕ) → said ≡ Refused c p → Edited said g out (Refused c p) out
edited_refused said g out c p e = record { answer = tells (sym e); memory = left-refused said c p g out e }

pub edited_written : (said : Answer) (g out : List ℕ) (n : Counts) (left : List ℕ) → said ≡ Accepted n → length g ≤ length out
    → left ≡ sets out 0 g
    → Edited said g out (Accepted n) left
edited_written said g out n left e h w = record { answer = tells (sym e); memory = left-accepted said n g out left e h w }

-- the same promise, said otherwise
pub edited_same : {said also : Answer} {g h out : List ℕ} {r : Answer} {left : List ℕ} → Edited said g out r left → said ≡ also → g ≡ h
    → Edited also h out r left
edited_same {out = out} {r = r} {left = left} p e q = subst (λ (x : Answer × List ℕ). Edited x.0 x.1 out r left) (λ i. (e i, q i)) p

module _ (g : List ℕ) (n : Counts) (out : List ℕ) where
  pub result-refused : (c p : ℕ) → check_file g ≡ Refused c p → Rewritten g n out (Refused c p) out
  unfolding result_answer
  result-refused c p e = edited_refused (result_answer g (length out) n) g out c p (ap (behind_result g (length out) n) e)

  pub result-over : limit < length g → Rewritten g n out (Refused 1 0) out
  result-over h = result-refused 1 0 (sym (over-limit g h))

  module _ (m : Counts) (e : check_file g ≡ Accepted m) where
    pub result_no_room : length out < length g → Rewritten g n out (Refused 19 0) out
    unfolding result_answer
    result_no_room h =
        edited_refused (result_answer g (length out) n) g out 19 0
        (ap (behind_result g (length out) n) e
        ∙ sym (first_eq {rs = (ltb (length out) (length g) ⇒ Refused 19 0) ∷ []} {d = Accepted (writing n (length g))}
        (here (lt-ltb (length out) (length g) h))))

    pub result-written : (k : ℕ) → k ≡ length g → k ≤ length out → (left : List ℕ) → left ≡ sets out 0 g
        → Rewritten g n out (Accepted (writing n k)) left
    unfolding result_answer
    result-written k s h left w =
        subst (λ (i : ℕ). Rewritten g n out (Accepted (writing n i)) left) (sym s)
        (edited_written (result_answer g (length out) n) g out (writing n (length g)) left
        (ap (behind_result g (length out) n) e ∙ sym (first_eq (pass (le-ltb (length out) (length g) (omega arith)) none))) (omega arith) w)

-- ---- bytes
pub bytes-mark : (o : Bool) → Bytes (mark o)
unfolding mark
bytes-mark o = bytes-ordered o _ (bytes-lows 4 172)

bytes-kept : (o : Bool) (r : List ℕ) → Bytes r → Bytes (kept_of o r)
unfolding kept_of rest_in
bytes-kept o r b =
    bytes_append (kept_tuples o r) (rest_in o r)
    (bytes-frames o (outside (tuples_in o r)) (outside-framed (tuples_in o r) (divided o r b).framed))
    (bytes_drop (length (frames o (tuples_in o r))) r b)

-- ---- a result with bytes that don't divide is refused
module _ (o : Bool) (a b z : List ℕ) (ba : Bytes a) (bb : Bytes b) (wa : rest_in o a ≡ []) where
  abbrev G : List ℕ
  G = result_of o a b z

  -- what is left of it behind its tuples
  left_over : eqb (length (rest_in o b)) 0 ≡ false → rest_in o (drop 4 (result_of o a b z)) ≡ rest_in o b
  unfolding kept_of
  left_over e =
      ap (rest_in o)
      (behind-mark o a b z ∙ (λ i. kept_whole o a wa i ++ (kept_of o b ++ tail_none o a b z e i)))
      ∙ rest-front o (outside (tuples_in o a)) (kept_of o b ++ []) (outside-framed (tuples_in o a) (divided o a ba).framed)
      ∙ ap (rest_in o) (append-nil (kept_of o b))
      ∙ rest-front o (outside (tuples_in o b)) (rest_in o b) (outside-framed (tuples_in o b) (divided o b bb).framed)
      ∙ rest-twice o b bb

  bytes-broken : eqb (length (rest_in o b)) 0 ≡ false → Bytes (result_of o a b z)
  unfolding result_of
  bytes-broken e =
      bytes_append (mark o) (kept_of o a ++ (kept_of o b ++ tail_of o a b z)) (bytes-mark o)
      (bytes_append (kept_of o a) (kept_of o b ++ tail_of o a b z) (bytes-kept o a ba)
      (bytes_append (kept_of o b) (tail_of o a b z) (bytes-kept o b bb) (subst Bytes (sym (tail_none o a b z e)) tt)))

  in_order : is_msb (result_of o a b z) ≡ o
  unfolding result_of
  in_order = msb-mark o (kept_of o a ++ (kept_of o b ++ tail_of o a b z))

  none_over : (n : Counts) → check_file (result_of o a b z) ≡ Accepted n → Bytes (result_of o a b z) → rest_in o
      (drop 4 (result_of o a b z)) ≡ []
  none_over n h y =
      let d = Accepted.divided G y n h in
      let ts = tuples_of G in
      ap (rest_in o)
      (ap (drop 4) (d.whole ∙ ap (λ (p : Bool). mark p ++ frames p ts) in_order) ∙ drop_at (mark o) (frames o ts) 4 (length-mark o))
      ∙ rest_in_lem o ts (all-framed (is_msb G) ts d.sound)

  pub accepted-divides : (n : Counts) → check_file (result_of o a b z) ≡ Accepted n → rest_in o b ≡ []
  accepted-divides n h = by_test (eqb (length (rest_in o b)) 0) refl
    where
      by_test : (t : Bool) → eqb (length (rest_in o b)) 0 ≡ t → rest_in o b ≡ []
      by_test true e = empty (rest_in o b) e
      by_test false e = sym (left_over e) ∙ none_over n h (bytes-broken e)
