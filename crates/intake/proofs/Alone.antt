-- A tuple judged by itself: the verdict by its two parts, and that those found fine are the sound tuples. Assumes nothing.
use mathlib.Core.Path.{◌≡◌, sym, ap, ◌∙◌}
use mathlib.Core.Bool.{Bool}
use mathlib.Core.List.{List, ◌++◌}
use Prim.Native.Nat.{ℕ}
use Rattle.order.specs.Order.{Bytes}
use Rattle.layout.specs.Verdict.{Fine}
use Rattle.layout.specs.Answers.{both, judged}
use Rattle.layout.proofs.Verdicts.{both_left, both_right, both-fine, judged_append}
use Rattle.frame.specs.Frames.{Tup, frame, tup_at, frame_rules, framing}
use Rattle.frame.proofs.Frames.{framed, tup_frame, framing-frame}
use Rattle.content.specs.Items.{head_rules, inner_rules}
use Rattle.content.proofs.Fine.{Sound}
use Rattle.intake.specs.Alone.{alone}
use Rattle.intake.specs.inner.Tallies.{own_verdict}

pub alone-parts : (o : Bool) (r : List ℕ) → alone o r ≡ both (framing o r) (own_verdict o (tup_at o r))
unfolding alone framing own_verdict
alone-parts o r = judged_append (frame_rules o r) (head_rules o (tup_at o r) ++ inner_rules o (tup_at o r))

-- ---- what is fine by itself
module _ (o : Bool) (r : List ℕ) (e : alone o r ≡ Fine) where
  pub alone-framed : framing o r ≡ Fine
  alone-framed = both_left (framing o r) (own_verdict o (tup_at o r)) (sym (alone-parts o r) ∙ e)

  pub alone-own : own_verdict o (tup_at o r) ≡ Fine
  alone-own = both_right (framing o r) (own_verdict o (tup_at o r)) (sym (alone-parts o r) ∙ e)

  pub alone-sound : Bytes r → Sound o (tup_at o r)
  unfolding own_verdict
  alone-sound b =
      let head = judged (head_rules o (tup_at o r)) in
      let inner = judged (inner_rules o (tup_at o r)) in
      let own : both head inner ≡ Fine = sym (judged_append (head_rules o (tup_at o r)) (inner_rules o (tup_at o r))) ∙ alone-own in
      record { framed = framed o r b alone-framed; head = both_left head inner own; inner = both_right head inner own }

-- a sound tuple is, whatever stands behind it
pub sound-alone : (o : Bool) (t : Tup) → Sound o t → (r : List ℕ) → alone o (frame o t ++ r) ≡ Fine
unfolding own_verdict
sound-alone o t s r =
    alone-parts o (frame o t ++ r)
    ∙ both-fine (framing-frame o t s.framed r)
    (ap (own_verdict o) (tup_frame o t s.framed r)
    ∙ judged_append (head_rules o t) (inner_rules o t)
    ∙ both-fine s.head s.inner)
