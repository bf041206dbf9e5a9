-- The three calls by what the check says of the file handed in, and by the result. Assumes nothing.
use mathlib.Core.Path.{◌≡◌, refl, sym, ap, ◌∙◌}
use mathlib.Core.List.{List}
use mathlib.Core.Option.{Option, some}
use Prim.Native.Nat.{ℕ, ◌≤◌, ◌<◌}
use borrow.Author.Tests.{lt-ltb, le-ltb}
use lib.ListN.{length}
use Rattle.rules.specs.Rules.{first_of}
use Rattle.rules.specs.Rules.First.{none, here, pass}
use Rattle.rules.proofs.Laws.{first_eq}
use Rattle.layout.specs.declared.Counts.{Counts}
use Rattle.layout.specs.Answer.{Answer}
use Rattle.layout.specs.Answer.{Accepted, Refused}
use Rattle.frame.specs.Frames.{Tup}
use Rattle.frame.specs.Files.{limit, is_msb}
use Rattle.frame.specs.Tuples.{tuples_of}
use Rattle.intake.specs.Check.{check_file}
use Rattle.edits.specs.Edits.{indexed_file, appended_file, removed_file, removed_by, without, result_answer, behind_file, index_answer}
use Rattle.edits.specs.Edits.{append_rules, append_answer, remove_by, remove_answer, Indexed, Appended, Removed}
use Rattle.edits.specs.inner.Parts.{Rewritten}
use Rattle.edits.proofs.Results.{edited_refused, edited_same}

module _ (f out : List ℕ) where
  -- ---- the index written
  pub indexed-refused : (c p : ℕ) → check_file f ≡ Refused c p → Indexed f out (Refused c p) out
  unfolding index_answer
  indexed-refused c p e =
      edited_refused (index_answer f (length out)) (indexed_file f) out c p (ap (behind_file (result_answer (indexed_file f) (length out))) e)

  pub indexed-given : (n : Counts) → check_file f ≡ Accepted n → (g : List ℕ) → g ≡ indexed_file f → (r : Answer) (left : List ℕ)
      → Rewritten g n out r left
      → Indexed f out r left
  unfolding index_answer
  indexed-given n e g h r left w =
      edited_same w
      (ap (λ (x : List ℕ). result_answer x (length out) n) h ∙ sym (ap (behind_file (result_answer (indexed_file f) (length out))) e)) h

  -- ---- tuples appended
  module _ (bytes : List ℕ) where
    abbrev behind : Counts → Answer
    behind n = first_of (append_rules bytes) (result_answer (appended_file f bytes) (length out) n)

    pub appended-refused : (c p : ℕ) → check_file f ≡ Refused c p → Appended f bytes out (Refused c p) out
    unfolding append_answer
    appended-refused c p e =
        edited_refused (append_answer f bytes (length out)) (appended_file f bytes) out c p (ap (behind_file behind) e)

    module _ (n : Counts) (e : check_file f ≡ Accepted n) where
      pub appended-over : limit < length bytes → (r : Answer) → r ≡ Refused 1 0 → Appended f bytes out r out
      unfolding append_answer
      appended-over h r q =
          rw q
          (edited_refused (append_answer f bytes (length out)) (appended_file f bytes) out 1 0
          (ap (behind_file behind) e
          ∙ sym (first_eq {rs = append_rules bytes} {d = result_answer (appended_file f bytes) (length out) n}
          (here (lt-ltb limit (length bytes) h)))))

      pub appended-given : length bytes ≤ limit → (r : Answer) (left : List ℕ) → Rewritten (appended_file f bytes) n out r left
          → Appended f bytes out r left
      unfolding append_answer
      appended-given h r left w =
          edited_same w
          (sym (ap (behind_file behind) e
          ∙ sym (first_eq {rs = append_rules bytes} {d = result_answer (appended_file f bytes) (length out) n}
          (pass (le-ltb limit (length bytes) h) none)))) refl

  -- ---- a tuple removed
  module _ (p : ℕ) where
    abbrev left_out : Option (List Tup)
    left_out = without p 4 (tuples_of f)

    pub removed-refused : (c q : ℕ) → check_file f ≡ Refused c q → Removed f p out (Refused c q) out
    unfolding remove_answer
    removed-refused c q e =
        edited_refused (remove_answer f p (length out)) (removed_file f p) out c q (ap (behind_file (remove_by f p (length out) left_out)) e)

    module _ (n : Counts) (e : check_file f ≡ Accepted n) where
      pub removed-none : without p 4 (tuples_of f) ≡ Option.none → Removed f p out (Refused 3 p) out
      unfolding remove_answer
      removed-none h =
          edited_refused (remove_answer f p (length out)) (removed_file f p) out 3 p
          (ap (behind_file (remove_by f p (length out) left_out)) e ∙ ap (λ (x : Option (List Tup)). remove_by f p (length out) x n) h)

      pub removed-given : (ts : List Tup) → without p 4 (tuples_of f) ≡ some ts → (r : Answer) (left : List ℕ)
          → Rewritten (removed_file f p) n out r left
          → Removed f p out r left
      unfolding remove_answer removed_file
      removed-given ts h r left w =
          edited_same w
          (ap (λ (x : Option (List Tup)). result_answer (removed_by (is_msb f) x) (length out) n) h
          ∙ sym (ap (behind_file (remove_by f p (length out) left_out)) e ∙ ap
          (λ (x : Option (List Tup)). remove_by f p (length out) x n) h)) refl
