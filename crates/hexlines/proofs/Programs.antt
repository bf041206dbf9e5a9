-- The two programs put together: how long what they print can be, and that printing what a normaliser leaves prints what its answer
-- says. Assumes nothing.
use mathlib.Core.Path.{◌≡◌, refl, sym, ap, subst, ◌∙◌}
use mathlib.Core.Bool.{false}
use mathlib.Core.List.{List, [], ◌∷◌, ◌++◌}
use Prim.Native.Nat.{ℕ, ◌+◌, ◌*◌, ◌≤◌}
use native.Mathlib.Nat.{zero-add}
use native.Mathlib.Omega.{arith}
use lib.ListN.{length, take, drop, length-append}
use lib.Seq.{sets, take_at}
use Rattle.order.specs.Order.{Bytes}
use Rattle.layout.specs.declared.Counts.{Counts}
use Rattle.layout.specs.Answer.{Answer}
use Rattle.layout.specs.Answer.{Accepted, Refused}
use Rattle.layout.specs.Answers.{left_by}
use Rattle.frame.specs.Frames.{Tup, length_of, frame, frames}
use Rattle.frame.specs.Files.{mark}
use Rattle.frame.specs.Tuples.{tuples_of, AllFramed}
use Rattle.frame.proofs.Frames.{allowed_16, length-frame}
use Rattle.frame.proofs.Files.{length-mark}
use Rattle.frame.proofs.Tuples.{tuples_of_lem}
use Rattle.normal.specs.Contents.{content_of, form_tuples, normal_of}
use Rattle.normal.specs.Normaliser.{normal_answer, Normalised}
use Rattle.normal.specs.Single.{single_tuples, single_form, single_answer, NormalisedTuple}
use Rattle.hexlines.specs.Lines.{room, hex, line, Input, bytes, input_of}
use Rattle.hexlines.specs.Programs.{tuple_lines, file_lines, printed, file_program, normal_file, tuple_program, normal_tuple}
use Rattle.hexlines.specs.Printing.{most_printed, Prints}
use Rattle.hexlines.specs.inner.Printing.{Put, Form, Ready, printed_by}
use Rattle.hexlines.proofs.Printing.{length-line, length-file_lines}
use Rattle.hexlines.proofs.Accepted.{Written, file-written, tuple-written}

-- ---- the longest that is printed
length-tuple_lines : (ts : List Tup) → length (tuple_lines ts) ≡ 2 * length (frames false ts) + length ts
length-tuple_lines [] = refl
length-tuple_lines (t ∷ ts) =
    omega (
      arith,
      length-append (line (hex (frame false t))) (tuple_lines ts),
      length-line (frame false t),
      length-append (frame false t) (frames false ts),
      length-tuple_lines ts,
    )

-- a tuple has at least 16 bytes
few : (ts : List Tup) → AllFramed ts → 16 * length ts ≤ length (frames false ts)
few [] f = omega arith
few (t ∷ ts) f =
    omega (
      arith,
      length-append (frame false t) (frames false ts),
      length-frame false t,
      allowed_16 (length_of t) f.0.allowed,
      few ts f.1,
    )

pub most : (form : List ℕ) (ts : List Tup) → Form form ts → length form ≤ room → length (file_lines ts) ≤ most_printed
most form ts f h =
    omega (
      arith,
      length-file_lines ts,
      length-tuple_lines ts,
      few ts f.framed,
      ap length f.whole,
      length-append (mark false) (frames false ts),
      length-mark false,
    )

-- ---- an answer a, and what it leaves of lent memory
pub record Answered (text : List ℕ) (a : Answer) (left : List ℕ) : Type 0 where
  pub ready : Ready a left
  pub says : printed_by a left ≡ text

answered : (form lent left : List ℕ) (ts : List Tup) (a : Answer) → length lent ≡ room
    → ((n : Counts) → a ≡ Accepted n → Written form ts room n.written)
    → left ≡ left_by a form lent → Answered (printed ts a) a left
answered form lent left ts (Refused c p) h w e = record { ready = tt; says = refl }
answered form lent left ts (Accepted n) h w e =
    let m = n.written in
    let g = w n refl in
    let front : take m left ≡ form = ap (take m) e ∙ take_at form (drop (length form) lent) m (sym g.bytes) in
    let tuples : tuples_of (take m left) ≡ ts = ap tuples_of (front ∙ g.whole.whole) ∙ tuples_of_lem false ts g.whole.framed in
    record {
      ready =
          record {
            long = omega (arith, g.bytes, ap length e, length-append form (drop (length form) lent));
            small = omega (arith, g.bytes, g.fits);
            form =
                record {
                  whole = front
                      ∙ g.whole.whole
                      ∙ ap (λ (us : List Tup). mark false ++ frames false us) (sym tuples);
                  framed = subst AllFramed (sym tuples) g.whole.framed;
                };
          };
      says = ap file_lines tuples;
    }

module _ (f lent left : List ℕ) (b : Bytes f) (h : length lent ≡ room) (r : Answer) where
  pub file-answered : Normalised f lent r left → Answered (file_program (bytes f)) r left
  file-answered n =
      let e : r ≡ normal_answer f room = n.answer.is ∙ ap (normal_answer f) h in
      subst (λ (a : Answer). Answered (printed (form_tuples (content_of f)) a) r left) e
      (answered (normal_of f) lent left (form_tuples (content_of f)) r h (λ n q. file-written f b room n (sym e ∙ q))
      (n.memory ∙ ap (λ (a : Answer). left_by a (normal_of f) lent) (sym n.answer.is)))

  pub tuple-answered : NormalisedTuple f lent r left → Answered (tuple_program (bytes f)) r left
  tuple-answered n =
      let e : r ≡ single_answer f room = n.answer.is ∙ ap (single_answer f) h in
      subst (λ (a : Answer). Answered (printed (single_tuples f) a) r left) e
      (answered (single_form f) lent left (single_tuples f) r h (λ n q. tuple-written f b room n (sym e ∙ q))
      (n.memory ∙ ap (λ (a : Answer). left_by a (single_form f) lent) (sym n.answer.is)))

-- ---- what is printed of the input is what is printed of the text
prints : {out says whole left : List ℕ} {r : ℕ} → says ≡ whole → Put out 0 says r left → Prints whole out r left
prints {out} e p = record { answer = p.behind ∙ zero-add _ ∙ ap length e; within = p.within; memory = p.memory ∙ ap (sets out 0) e }

module _ (text : List ℕ) (x : Input) (e : input_of text ≡ x) {out left : List ℕ} {r : ℕ} where
  pub prints-file : Put out 0 (file_program x) r left → Prints (normal_file text) out r left
  unfolding normal_file
  prints-file p = prints (ap file_program (sym e)) p

  pub prints-tuple : Put out 0 (tuple_program x) r left → Prints (normal_tuple text) out r left
  unfolding normal_tuple
  prints-tuple p = prints (ap tuple_program (sym e)) p
