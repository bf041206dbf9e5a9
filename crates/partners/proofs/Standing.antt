-- A tuple that stands at a place of an accepted file: both steps find it there, its bytes are there, and readers read it. Assumes nothing.
use mathlib.Core.Path.{◌≡◌, refl, sym, ap, subst, ◌∙◌}
use mathlib.Core.Bool.{Bool, true, false, cond}
use mathlib.Core.List.{[], List, ◌∷◌, ◌++◌}
use Prim.Native.Nat.{ℕ, ◌+◌}
use lib.ListN.{length, take, drop}
use lib.Seq.{take_at, drop_at, drop-drop}
use Rattle.order.specs.Order.{Bytes}
use Rattle.layout.specs.declared.Counts.{Counts}
use Rattle.layout.specs.Answer.{Accepted, Refused}
use Rattle.layout.specs.Verdict.{Fine}
use Rattle.layout.specs.Answers.{accepting}
use Rattle.layout.proofs.Verdicts.{both-fine, judged_append}
use Rattle.frame.specs.Frames.{Tup, length_of, frame, frames, tup_at}
use Rattle.frame.specs.Files.{mark, is_msb}
use Rattle.frame.specs.Tuples.{tuples_of}
use Rattle.frame.specs.Step.{Tuple}
use Rattle.frame.specs.Steps.{step_forward, step_backward}
use Rattle.frame.proofs.Frames.{length-frame, tup_frame}
use Rattle.frame.proofs.Files.{length-mark}
use Rattle.frame.proofs.Walks.{forward-stands, forth_back}
use Rattle.content.specs.Items.{head_rules, inner_rules}
use Rattle.content.proofs.Fine.{Sound}
use Rattle.intake.specs.Check.{check_file}
use Rattle.intake.specs.inner.Tallies.{own_verdict}
use Rattle.intake.proofs.Accepted.{AllSound, divided}
use Rattle.tuples.specs.Readers.{tuple_there, read_answer}
use Rattle.tuples.proofs.Reading.{found-by, fine, unasked}
use Rattle.demands.specs.Walks.{Walked, stepped}
use Rattle.demands.proofs.Walked.{forward-walk}
use Rattle.partners.specs.Private.{PlacedAt, here, later}

-- ---- among tuples
sound-there : (o : Bool) {at p : ℕ} {t : Tup} {ts : List Tup} → AllSound o ts → PlacedAt at ts p t → Sound o t
sound-there o a here = a.0
sound-there o a (later s) = sound-there o a.1 s

-- its bytes stand there, and others behind it
left_there : (o : Bool) (f : List ℕ) {at p : ℕ} {t : Tup} (ts : List Tup) → drop at f ≡ frames o ts → PlacedAt at ts p t
    → (r : List ℕ) × (drop p f ≡ frame o t ++ r)
left_there o f [] e x'' = elim x'' [ ]
left_there o f (t ∷ ts) e here = (frames o ts, e)
left_there o f {at} (u ∷ ts) e (later s) =
    left_there o f {at = at + length_of u} ts
    (sym (drop-drop (length_of u) at f)
    ∙ ap (drop (length_of u)) e
    ∙ drop_at (frame o u) (frames o ts) (length_of u) (length-frame o u))
    s

-- a walk comes to it
walk-there : (f : List ℕ) {at p e : ℕ} {t : Tup} {ts : List Tup} → Walked f (step_forward f) at ts e → PlacedAt at ts p t
    → step_forward f p ≡ Tuple p (length_of t) t.kind (record { at = p + length_of t })
walk-there f {p = p} {t = t} (Rattle.demands.specs.Walks.ended {at = at} _) x6 = elim x6 [ ]
walk-there f {at} (stepped {w = w} {t = t} z h v) here =
    let a = forward-stands f z in
    let next : w.at ≡ at + length_of t = a.next ∙ ap (λ (n : ℕ). at + n) (sym h.length) in
    z ∙ (λ i. Tuple (a.place i) (sym h.length i) (sym h.kind i) (record { at = next i }))
walk-there f {at} {p} {e} {t} (stepped {w = w} {ts = ts} z h v) (later s) =
    let a = forward-stands f z in
    walk-there f v (subst (λ (q : ℕ). PlacedAt q ts p t) (sym (a.next ∙ ap (λ (n : ℕ). at + n) (sym h.length))) s)

-- ---- in an accepted file
module _ (f : List ℕ) (b : Bytes f) {n : Counts} (e : check_file f ≡ Accepted n) {p : ℕ} {t : Tup} (s : PlacedAt 4 (tuples_of f) p t) where
  pub there-forward : step_forward f p ≡ Tuple p (length_of t) t.kind (record { at = p + length_of t })
  there-forward = walk-there f (forward-walk f b n e) s

  pub there-backward : step_backward f (p + length_of t) ≡ Tuple p (length_of t) t.kind (record { at = p })
  there-backward = forth_back f p p (length_of t) t.kind (record { at = p + length_of t }) there-forward

  left : (r : List ℕ) × (drop p f ≡ frame (is_msb f) t ++ r)
  left =
      let d = divided f b n e in
      let o = is_msb f in
      left_there o f (tuples_of f)
      (ap (drop 4) d.whole ∙ drop_at (mark o) (frames o (tuples_of f)) 4 (length-mark o)) s

  sound : Sound (is_msb f) t
  sound = sound-there (is_msb f) (divided f b n e).sound s

  pub there-bytes : take (length_of t) (drop p f) ≡ frame (is_msb f) t
  there-bytes = ap (take (length_of t)) left.1 ∙ take_at (frame (is_msb f) t) left.0 (length_of t) (length-frame (is_msb f) t)

  pub there-tuple : tuple_there f p ≡ t
  there-tuple = ap (λ (r : List ℕ). tup_at (is_msb f) r) left.1 ∙ tup_frame (is_msb f) t sound.framed left.0

  -- a reader that asks for its type accepts it, and any other says 9
  pub there-answer : (asked : ℕ → Bool) → read_answer asked f p ≡ cond (asked t.kind) (accepting 1 0) (Refused 9 p)
  unfolding own_verdict
  there-answer asked = by (asked t.kind) refl
    where
      own : own_verdict (is_msb f) (tuple_there f p) ≡ Fine
      own =
          let o = is_msb f in
          ap (own_verdict o) there-tuple ∙ judged_append (head_rules o t) (inner_rules o t) ∙ both-fine sound.head sound.inner

      by : (a : Bool) → asked t.kind ≡ a → read_answer asked f p ≡ cond a (accepting 1 0) (Refused 9 p)
      by true a = sym (fine (found-by f p p (length_of t) t.kind _ there-forward) asked a own)
      by false a = sym (unasked (found-by f p p (length_of t) t.kind _ there-forward) asked a)
