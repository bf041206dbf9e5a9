-- A sound tuple that stands in a file of its byte order is found there, read and accepted; and bytes behind a mark stand in a file.
-- Assumes nothing.
use mathlib.Core.Path.{◌≡◌, refl, sym, ap, ap₂, subst, ◌∙◌}
use Prim.Native.Nat.{ℕ, ◌+◌, ◌≤◌}
use mathlib.Core.Bool.{Bool, true}
use mathlib.Core.List.{List, [], ◌++◌, append-nil}
use native.Mathlib.Omega.{arith}
use lib.ListN.{length, drop}
use lib.Seq.{drop_at, drop-drop}
use Rattle.layout.specs.Verdict.{Fine}
use Rattle.layout.proofs.Verdicts.{both-fine, judged_append}
use Rattle.layout.specs.Answers.{accepting}
use Rattle.frame.specs.Files.{limit, mark, is_msb}
use Rattle.frame.specs.Frames.{Tup, kind_at, len_at, tup_at, frame, framing}
use Rattle.frame.proofs.Files.{length-mark, msb-mark, marked-mark}
use Rattle.frame.proofs.Frames.{framing-frame, kind-frame, tup_frame}
use Rattle.frame.proofs.Places.{framing-whole}
use Rattle.frame.proofs.Walks.{Stands, stands-forward}
use Rattle.content.specs.Items.{item_of, head_rules, inner_rules}
use Rattle.content.proofs.Fine.{Sound}
use Rattle.intake.specs.inner.Tallies.{own_verdict}
use Rattle.tuples.specs.Readers.{tuple_there, read_answer, read_item}
use Rattle.tuples.specs.inner.Opening.{Found}
use Rattle.tuples.proofs.Reading.{fine}
use Rattle.roundtrip.specs.Held.{Holds, file_with}

-- a sound tuple keeps its own rules
pub sound-own : {o : Bool} {t : Tup} → Sound o t → own_verdict o t ≡ Fine
unfolding own_verdict
sound-own {o} {t} g = judged_append (head_rules o t) (inner_rules o t) ∙ both-fine g.head g.inner

-- and those of the frame
pub sound-framing : {o : Bool} {t : Tup} → Sound o t → framing o (frame o t) ≡ Fine
sound-framing {o} {t} g = subst (λ (l : List ℕ). framing o l ≡ Fine) (append-nil (frame o t)) (framing-frame o t g.framed [])

module _ {f : List ℕ} {p : ℕ} {o : Bool} {t : Tup} (g : Sound o t) (h : Holds f p o (frame o t)) where
  pub read-tuple : tuple_there f p ≡ t
  read-tuple = ap₂ tup_at h.order h.there ∙ tup_frame o t g.framed h.rest

  framed-there : framing (is_msb f) (drop p f) ≡ Fine
  framed-there = ap₂ framing h.order h.there ∙ framing-frame o t g.framed h.rest

  kind-there : kind_at (is_msb f) (drop p f) ≡ t.kind
  kind-there = ap₂ kind_at h.order h.there ∙ kind-frame o t g.framed h.rest

  stands-there : Stands f p (len_at (is_msb f) (drop p f)) t.kind
  stands-there =
      record { small = h.small; mark = h.mark; from = h.from; whole = framing-whole (is_msb f) f p framed-there; kind = kind-there }

  found-there : Found f p (len_at (is_msb f) (drop p f)) t.kind
  found-there = record { walk = record { at = p + len_at (is_msb f) (drop p f) }; step = stands-forward f stands-there }

  -- a reader that asks for its type accepts it
  pub read_answer_lem : (asked : ℕ → Bool) → asked t.kind ≡ true → read_answer asked f p ≡ accepting 1 0
  read_answer_lem asked a = sym (fine found-there asked a (ap₂ own_verdict h.order read-tuple ∙ sound-own g))

  pub read-item : read_item f p ≡ item_of o t
  read-item = ap₂ item_of h.order read-tuple

-- ---- bytes behind a mark and behind other bytes stand in the file
pub held : (o : Bool) (before bytes rest : List ℕ) → length (file_with o before bytes rest) ≤ limit
    → Holds (file_with o before bytes rest) (4 + length before) o bytes
held o before bytes rest l =
    let tail = before ++ (bytes ++ rest) in
    record {
      small = l;
      mark = marked-mark o tail;
      order = msb-mark o tail;
      from = omega arith;
      rest = rest;
      there =
          sym (drop-drop (length before) 4 (mark o ++ tail))
          ∙ ap (drop (length before)) (drop_at (mark o) tail 4 (length-mark o))
          ∙ drop_at before (bytes ++ rest) (length before) refl;
    }
