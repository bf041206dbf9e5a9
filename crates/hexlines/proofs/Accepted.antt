-- What either normaliser accepts leaves a form: a mark and frames, which are as many bytes as it answers, within its room. Assumes nothing.
use mathlib.Core.Path.{◌≡◌, refl, sym, ap, ap₂, subst, ◌∙◌}
use mathlib.Core.Bool.{Bool, true, false}
use mathlib.Core.List.{List, [], ◌∷◌, ◌++◌}
use mathlib.Core.Option.{Option, some, none}
use Prim.Native.Nat.{ℕ, ◌+◌, ◌≤◌}
use borrow.Author.Tests.{ltb-false}
use lib.ListN.{length, drop}
use Rattle.order.specs.Order.{Bytes}
use Rattle.order.proofs.Laws.{bytes_drop}
use Rattle.rules.specs.Rules.{Rule, ◌⇒◌, first_of, saying, AllPass}
use Rattle.rules.proofs.Laws.{clear}
use Rattle.layout.specs.declared.Counts.{Counts}
use Rattle.layout.specs.Answer.{Answer}
use Rattle.layout.specs.Answer.{Accepted, Refused}
use Rattle.layout.specs.Answers.{Breach, refused_at, accepting, is_accepted}
use Rattle.layout.proofs.Verdicts.{passed}
use Rattle.frame.specs.Frames.{Tup, frames, tup_at}
use Rattle.frame.specs.Files.{is_msb, file_rules}
use Rattle.frame.proofs.Files.{msb-mark}
use Rattle.frame.proofs.Tuples.{tuples_of_lem}
use Rattle.frame.specs.Tuples.{AllFramed}
use Rattle.content.specs.Items.{Item, item_of}
use Rattle.content.specs.Forms.{forms_of}
use Rattle.content.proofs.Fine.{Sound}
use Rattle.content.proofs.Kept.{kept}
use Rattle.intake.specs.Alone.{alone_rules, alone}
use Rattle.intake.specs.Check.{check_file}
use Rattle.intake.proofs.Alone.{alone-sound}
use Rattle.intake.proofs.Accepted.{refusal, Division, all-framed, accepted-file}
use Rattle.index.specs.Index.{with_index}
use Rattle.index.proofs.Laws.{indexed-sound}
use Rattle.normal.specs.Contents.{items, content_of, normal_tuples, form_tuples, formed, normal_of}
use Rattle.normal.specs.Normaliser.{normal_rules, normal_counts, behind_check, normal_answer}
use Rattle.normal.specs.Single.{single_tuples, single_form, behind_rules, single_answer}
use Rattle.normal.proofs.Carried.{carried}
use Rattle.hexlines.specs.inner.Printing.{Form}

pub record Written (form : List ℕ) (ts : List Tup) (room m : ℕ) : Type 0 where
  pub bytes : m ≡ length form
  pub fits : length form ≤ room
  pub whole : Form form ts

-- ---- a file
-- the normal tuples of a file that passes the check
all-normal : (f : List ℕ) → Division f → AllFramed (form_tuples (content_of f))
unfolding content_of
all-normal f a =
    let g = all-framed a.msb a.tuples a.sound in
    let content : content_of f ≡ items a.msb a.tuples = ap content_of a.whole
    ∙ ap₂ items (msb-mark a.msb (frames a.msb a.tuples)) (tuples_of_lem a.msb a.tuples g) in
    let ns = normal_tuples (items a.msb a.tuples) in
    subst (λ (c : List Item). AllFramed (form_tuples c)) (sym content)
    (all-framed false (with_index false ns) (indexed-sound false ns (carried a.msb a.tuples a.sound).sound))

pub file-written : (f : List ℕ) → Bytes f → (room : ℕ) (n : Counts) → normal_answer f room ≡ Accepted n
    → Written (normal_of f) (form_tuples (content_of f)) room n.written
unfolding normal_answer
file-written f b room n e = by_answer (check_file f) refl e
  where
    by_answer : (a : Answer) → check_file f ≡ a → behind_check f room a ≡ Accepted n
        → Written (normal_of f) (form_tuples (content_of f)) room n.written
    by_answer (Refused c p) h q = refusal c p n q
    by_answer (Accepted i) h q =
        let c = clear is_accepted (normal_rules f room) (Accepted (normal_counts f i)) (Accepted n) (refl, (refl, (refl, tt))) q refl in
        record {
          bytes = sym (cc c.1);
          fits = ltb-false room (length (normal_of f)) c.0.1.1.0;
          whole = record { whole = unfold normal_of formed in refl; framed = all-normal f (accepted-file f b i h).0 };
        }

-- ---- a mark and one tuple
-- what is accepted behind refusals passes them
through : (p : ℕ) (rs : List (Rule Breach)) (behind : List (Rule Answer)) (d : Answer) (n : Counts)
    → first_of (saying (refused_at p) rs ++ behind) d ≡ Accepted n → AllPass rs × (first_of behind d ≡ Accepted n)
through p [] behind d n e = (tt, e)
through p ((true ⇒ b) ∷ rs) behind d n e = refusal b.code (p + b.offset) n e
through p ((false ⇒ b) ∷ rs) behind d n e = let r = through p rs behind d n e in ((refl, r.0), r.1)

-- the normal tuple of a sound one
one-normal : (o : Bool) (t : Tup) → Sound o t → AllFramed (forms_of (item_of o t))
one-normal o t s = by-item (item_of o t) refl
  where
    by-item : (x : Option Item) → item_of o t ≡ x → AllFramed (forms_of x)
    by-item none e = tt
    by-item (some i) e = ((kept o t s i e).sound.framed, tt)

pub tuple-written : (f : List ℕ) → Bytes f → (room : ℕ) (n : Counts) → single_answer f room ≡ Accepted n
    → Written (single_form f) (single_tuples f) room n.written
unfolding single_answer alone
tuple-written f b room n e =
    let o = is_msb f in
    let r = drop 4 f in
    let t = tup_at o r in
    let own = alone_rules o r in
    let d = accepting 1 (length (single_form f)) in
    let filed = through 0 (file_rules f) (saying (refused_at 4) own ++ behind_rules f room) d n e in
    let judged = through 4 own (behind_rules f room) d n filed.1 in
    let sound = alone-sound o r (passed own judged.0) (bytes_drop 4 f b) in
    let behind = clear is_accepted (behind_rules f room) d (Accepted n) (refl, (refl, (refl, tt))) judged.1 refl in
    record {
      bytes = sym (cc behind.1);
      fits = ltb-false room (length (single_form f)) behind.0.1.1.0;
      whole = record { whole = unfold single_form in refl; framed = one-normal o t sound };
    }
