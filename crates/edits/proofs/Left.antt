-- The check over the bytes that are left, turn by turn, and that a file's check is it. Assumes nothing.
use mathlib.Core.Path.{◌≡◌, refl, sym, ap, ◌∙◌}
use mathlib.Core.Bool.{Bool}
use mathlib.Core.List.{List, [], ◌++◌}
use Prim.Native.Nat.{ℕ, zero, suc, ◌+◌, ◌≤◌, ◌<◌}
use native.Mathlib.Omega.{arith}
use lib.ListN.{length, drop, length-append}
use lib.Seq.{drop-drop, drop_at}
use Rattle.layout.specs.Answer.{Answer}
use Rattle.layout.specs.Answer.{Refused}
use Rattle.frame.specs.Frames.{len_at}
use Rattle.frame.specs.Files.{limit, mark}
use Rattle.frame.proofs.Files.{length-mark, msb-mark, marked-mark}
use Rattle.intake.specs.Check.{Course, begin, Turn, stop, go, turn_on, turn, check_from, check_file}
use Rattle.intake.proofs.Turns.{settle, from_suc}
use Rattle.intake.proofs.Parts.{turn-on-past}
use Rattle.intake.proofs.Runs.{turn-less}
use Rattle.intake.proofs.Checks.{whole-check}
use Rattle.edits.specs.inner.Left.{check_left, left}

-- ---- one turn
abbrev settled : ℕ → Bool → ℕ → List ℕ → Turn → Answer
settled k o n r (stop a) = a
settled k o n r (go v) = check_left k o n v (drop (len_at o r) r)

left-suc : (k : ℕ) (o : Bool) (n : ℕ) (w : Course) (r : List ℕ) (x : Turn) → turn_on o n w r ≡ x
    → check_left (suc k) o n w r ≡ settled k o n r x
unfolding check_left
left-suc k o n w r x e = by_turn (turn_on o n w r) ∙ ap (settled k o n r) e
  where
    by_turn : (y : Turn)
        → (elim y as (λ _. Answer) [ stop a ↦ a | go v ↦ check_left k o n v (drop (len_at o r) r) ]) ≡ settled k o n r y
    by_turn (stop a) = refl
    by_turn (go v) = refl

-- where nothing is left, 4
pub nothing_left : (o : Bool) (n : ℕ) (w : Course) → turn_on o n w [] ≡ stop (Refused 4 w.at)
unfolding turn_on
nothing_left o n w = ap (λ (p : ℕ). stop (Refused 4 p)) (omega arith)

-- ---- a turn that goes on leaves less, so that more turns than bytes are enough
same-turns : (j k : ℕ) (o : Bool) (n : ℕ) (w : Course) (r : List ℕ) → length r < j → length r < k
    → check_left j o n w r ≡ check_left k o n w r
same-turns zero k o n w r h g = absurd (omega arith)
same-turns (suc j) zero o n w r h g = absurd (omega arith)
same-turns (suc j) (suc k) o n w r h g = by_turn (turn_on o n w r) refl (λ v a b. same-turns j k o n v (drop (len_at o r) r) a b)
  where
    by_turn : (x : Turn) → turn_on o n w r ≡ x
        → ((v : Course) → length (drop (len_at o r) r) < j → length (drop (len_at o r) r) < k
        → check_left j o n v (drop (len_at o r) r) ≡ check_left k o n v (drop (len_at o r) r))
        → check_left (suc j) o n w r ≡ check_left (suc k) o n w r
    by_turn (stop a) e ih = left-suc j o n w r (stop a) e ∙ sym (left-suc k o n w r (stop a) e)
    by_turn (go v) e ih =
        let l = turn-less o n w v r e in
        left-suc j o n w r (go v) e ∙ ih v (omega arith) (omega arith) ∙ sym (left-suc k o n w r (go v) e)

pub left-stop : (o : Bool) (n : ℕ) (w : Course) (r : List ℕ) (a : Answer) → turn_on o n w r ≡ stop a → left o n w r ≡ a
unfolding left
left-stop o n w r a e = left-suc (length r) o n w r (stop a) e

pub left-go : (o : Bool) (n : ℕ) (w v : Course) (r s : List ℕ) → turn_on o n w r ≡ go v → drop (len_at o r) r ≡ s
    → left o n w r ≡ left o n v s
unfolding left
left-go o n w v r s e d =
    let t = drop (len_at o r) r in
    left-suc (length r) o n w r (go v) e
    ∙ same-turns (length r) (suc (length t)) o n v t (turn-less o n w v r e) (omega arith)
    ∙ ap (λ (x : List ℕ). check_left (suc (length x)) o n v x) d

-- ---- the check of a file
from-left : (k : ℕ) (o : Bool) (f : List ℕ) (w : Course) → check_from k o f w ≡ check_left k o (length f) w (drop w.at f)
unfolding check_from check_left turn
from-left zero o f w = refl
from-left (suc k) o f w =
    by_turn (turn_on o (length f) w (drop w.at f)) refl (λ v. from-left k o f v)
  where
    r : List ℕ
    r = drop w.at f

    by_turn : (x : Turn) → turn_on o (length f) w (drop w.at f) ≡ x
        → ((v : Course) → check_from k o f v ≡ check_left k o (length f) v (drop v.at f))
        → check_from (suc k) o f w ≡ check_left (suc k) o (length f) w (drop w.at f)
    by_turn (stop a) e ih =
        from_suc k o f w ∙ ap (settle k o f) e ∙ sym (left-suc k o (length f) w (drop w.at f) (stop a) e)
    by_turn (go v) e ih =
        let q = drop w.at f in
        let p = turn-on-past o (length f) w q v e in
        from_suc k o f w
        ∙ ap (settle k o f) e
        ∙ ih v
        ∙ ap (check_left k o (length f) v) (ap (λ (i : ℕ). drop i f) p.at ∙ sym (drop-drop (len_at o q) w.at f))
        ∙ sym (left-suc k o (length f) w q (go v) e)

pub file-left : (o : Bool) (r : List ℕ) → length (mark o ++ r) ≤ limit → check_file (mark o ++ r) ≡ left o (length (mark o ++ r)) begin r
unfolding left
file-left o r h =
    let f = mark o ++ r in
    let n : length f ≡ 4 + length r = length-append (mark o) r ∙ ap (λ (k : ℕ). k + length r) (length-mark o) in
    sym (whole-check f o h (marked-mark o r) (sym (msb-mark o r)))
    ∙ from-left (length f) o f begin
    ∙ ap (check_left (length f) o (length f) begin) (drop_at (mark o) r 4 (length-mark o))
    ∙ same-turns (length f) (suc (length r)) o (length f) begin r (omega arith) (omega arith)
