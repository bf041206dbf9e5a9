-- What the promise of the salvage tells of a call, whatever it answers (`Salvages`, specs/Calls.antt). Assumes nothing.
use mathlib.Core.Path.{◌≡◌, refl, sym, ap, subst, subst₂, ◌∙◌}
use mathlib.Core.Bool.{true}
use mathlib.Core.List.{List, [], ◌∷◌, ◌++◌}
use Prim.Native.Nat.{ℕ, zero, suc, ◌*◌, ◌≤◌}
use native.Mathlib.Omega.{arith}
use borrow.Author.Tests.{ltb-false, not-false}
use lib.ListN.{length, take, drop}
use lib.Seq.{take_at, drop_at}
use Rattle.order.specs.Order.{Bytes}
use Rattle.rules.specs.Rules.{saying}
use Rattle.rules.proofs.Laws.{clear}
use Rattle.layout.specs.declared.Counts.{Counts}
use Rattle.layout.specs.Answer.{Answer}
use Rattle.layout.specs.Answer.{Accepted}
use Rattle.layout.specs.Answer as answer
use Rattle.layout.specs.Answers.{refused_at, left_by, accepting, is_accepted}
use Rattle.frame.specs.Frames.{Tup}
use Rattle.frame.specs.Files.{limit, mark, is_msb, marked}
use Rattle.frame.specs.Tuples.{tuples_of}
use Rattle.frame.proofs.Files.{marked_4}
use Rattle.links.proofs.Linked.{linked-some}
use Rattle.intake.specs.Check.{check_file}
use Rattle.intake.proofs.Accepted.{digests, divided}
use Rattle.salvage.specs.Outcome.{Outcome}
use Rattle.salvage.specs.Outcome.{Saved}
use Rattle.salvage.specs.Pieces.{pieces_of, ranges, tuples_kept}
use Rattle.salvage.specs.Salvage.{output_of, rows_of, report_of, salvage_rules, salvage_answer, outcome_by, Salvaged}
use Rattle.salvage.specs.Report.{Reported}
use Rattle.salvage.specs.Whole.{all_kept, saved_all, KeepsAll}
use Rattle.salvage.specs.Calls.{Call, Tried, Salvages}
use Rattle.salvage.proofs.Outcomes.{length-report}
use Rattle.salvage.proofs.Reports.{report-covers, report-bytes, report_alternates, tried-most, tried-fours}
use Rattle.salvage.proofs.Divisions.{report-divides, report-kept}
use Rattle.salvage.proofs.Wholes.{accepted-kept, output-kept}

-- ---- a call that answers Saved
record Kept (f out table : List ℕ) (k t : ℕ) (n : Counts) (left told : List ℕ) : Type 0 where
  pub small : length f ≤ limit
  pub marked : marked f ≡ true
  pub tuples : n.tuples ≡ tuples_kept (pieces_of f)
  pub written : n.written ≡ length (output_of f)
  pub ranges : k ≡ length (ranges (pieces_of f))
  pub tried : t ≡ length (pieces_of f)
  pub memory : left ≡ output_of f ++ drop (length (output_of f)) out
  pub report : told ≡ report_of f ++ drop (length (report_of f)) table

kept : {f out table : List ℕ} {k t : ℕ} {n : Counts} {left told : List ℕ} → Salvaged f out table (Saved k t n) left told
    → Kept f out table k t n left told
unfolding salvage_answer
kept {f} {out} {table} {k} {t} {n} {left} {told} s =
    by_answer (salvage_answer f (length table) (length out)) refl s.answer.is s.memory s.report
  where
    by_answer : (a : Answer) → salvage_answer f (length table) (length out) ≡ a → Saved k t n ≡ outcome_by f a
        → left ≡ left_by a (output_of f) out → told ≡ left_by a (report_of f) table
        → Kept f out table k t n left told
    by_answer (answer.Refused c p) e h l q = absurd (let z : ◌≡◌ {A = ℕ} 0 1 = cc in omega arith)
    by_answer (Accepted m) e h l q =
        let rules = saying (refused_at 0) (salvage_rules f (length table) (length out)) in
        let last = accepting (tuples_kept (pieces_of f)) (length (output_of f)) in
        let c = clear is_accepted rules last (Accepted m) (refl, (refl, (refl, (refl, tt)))) e refl in
        let same : n ≡ m = cc (h) in
        record {
          small = ltb-false limit (length f) c.0.0;
          marked = not-false (marked f) c.0.1.0;
          tuples = ap (λ (x : Counts). x.tuples) same ∙ cc c.1;
          written = ap (λ (x : Counts). x.written) same ∙ cc c.1;
          ranges = cc (h);
          tried = cc (h);
          memory = l;
          report = q;
        }

-- what stands in front of lent memory, and behind
in-front : {left : List ℕ} (written lent : List ℕ) (n : ℕ) → left ≡ written ++ drop (length written) lent → n ≡ length written
    → (take n left ≡ written) × (drop n left ≡ drop n lent)
in-front written lent n e h = (
  ap (take n) e ∙ take_at written (drop (length written) lent) n (sym h),
  ap (drop n) e ∙ drop_at written (drop (length written) lent) n (sym h) ∙ ap (λ (i : ℕ). drop i lent) (sym h),
)

-- ---- a call that hands over w and t
module _ {f w t : List ℕ} (c : Call f w t) where
  said : Kept f c.out c.table c.ranges c.tried c.counts c.left c.told
  said = kept c.promise

  low : 4 ≤ length f
  low = marked_4 f said.marked

  entries : 3 * c.ranges ≡ length (report_of f)
  entries = omega (arith, said.ranges, length-report f)

  output : w ≡ output_of f
  output = c.written ∙ (in-front (output_of f) c.out c.counts.written said.memory said.written).0

  report : t ≡ report_of f
  report = c.report ∙ (in-front (report_of f) c.table (3 * c.ranges) said.report entries).0

  reported : Reported f w t c.ranges
  unfolding report_of output_of
  reported =
      record {
        ranges = ranges (pieces_of f);
        rows = report;
        count = sym said.ranges;
        covers = report-covers f low;
        bytes = report-bytes f low;
        alternate = report_alternates f;
        divide = report-divides f c.bytes low;
        output = output ∙ ap (λ (bs : List ℕ). mark (is_msb f) ++ bs) (sym (report-kept f low));
      }

  tried : Tried f c.tried
  tried = record { count = said.tried; fours = tried-fours f low; most = omega (arith, said.tried, tried-most f low) }

  stays : (drop (length w) c.left ≡ drop (length w) c.out) × (drop (length t) c.told ≡ drop (length t) c.table)
  stays = (
    (in-front (output_of f) c.out (length w) said.memory (ap length output)).1,
    (in-front (report_of f) c.table (length t) said.report (ap length report)).1,
  )

-- ---- a file that is kept whole, given room
module _ {f : List ℕ} {n : ℕ} (a : KeepsAll f n) {out table left told : List ℕ} {r : Outcome} (s : Salvaged f out table r left told)
    (room : length f ≤ length out) (rows : 3 ≤ length table) where
  all_saved : r ≡ saved_all (length f) n
  all_saved = s.answer.is ∙ a.saved (length table) (length out) (by_count n) room
    where
      by_count : (i : ℕ) → length (rows_of (all_kept (length f) i)) ≤ length table
      by_count zero = omega arith
      by_count (suc i) = omega arith

  whole : (r ≡ saved_all (length f) n) × (take (length f) left ≡ f)
      × (take (length (rows_of (all_kept (length f) n))) told ≡ rows_of (all_kept (length f) n))
  unfolding report_of
  whole =
      let g = kept (subst (λ (x : Outcome). Salvaged f out table x left told) all_saved s) in
      let one : report_of f ≡ rows_of (all_kept (length f) n) = ap rows_of a.ranges in (
        all_saved,
        (in-front (output_of f) out (length f) g.memory (sym (ap length a.output))).0 ∙ a.output,
        (in-front (report_of f) table (length (rows_of (all_kept (length f) n))) g.report (sym (ap length one))).0 ∙ one,
      )

-- an accepted file has a tuple
some-tuple : (f : List ℕ) → Bytes f → (n : Counts) → check_file f ≡ Accepted n → n.tuples ≡ 0 → ⊥
some-tuple f b n e z =
    let d = divided f b n e in
    linked-some d.linked (by-tuples (tuples_of f) (sym (ap (λ (x : Counts). x.tuples) d.count) ∙ z))
  where
    by-tuples : (ts : List Tup) → length ts ≡ 0 → digests (is_msb f) ts ≡ []
    by-tuples [] h = refl
    by-tuples (t ∷ ts) h = absurd (omega (arith, h))

accepted : {f : List ℕ} → Bytes f → {n : Counts} → check_file f ≡ Accepted n → {out table left told : List ℕ} {r : Outcome}
    → Salvaged f out table r left told → length f ≤ length out → 3 ≤ length table
    → (r ≡ saved_all (length f) n.tuples) × (take (length f) left ≡ f) × (take 3 told ≡ 1 ∷ 4 ∷ length f ∷ [])
accepted {f} b {n} e {out} {table} {left} {told} {r} s room rows =
    by_count n.tuples (accepted-kept f b n e) (some-tuple f b n e)
  where
    by_count : (i : ℕ) → KeepsAll f i → (i ≡ 0 → ⊥)
        → (r ≡ saved_all (length f) i) × (take (length f) left ≡ f) × (take 3 told ≡ 1 ∷ 4 ∷ length f ∷ [])
    by_count zero a h = absurd (h refl)
    by_count (suc i) a h = whole a s room rows

-- the output of a call
module _ {f w t : List ℕ} (c : Call f w t) where
  output-whole : KeepsAll w c.counts.tuples
  output-whole =
      subst₂ KeepsAll (sym (output c)) (sym (said c).tuples) (output-kept f c.bytes (low c) (said c).small)

pub salvages : Salvages
salvages =
    record {
      reported = λ c. reported c;
      tried = λ c. tried c;
      tuples = λ c. (said c).tuples;
      written = λ c. (said c).written ∙ sym (ap length (output c));
      stays = λ c. stays c;
      accepted = λ b e s room rows. accepted b e s room rows;
      again = λ c s room rows. whole (output-whole c) s room rows;
    }
