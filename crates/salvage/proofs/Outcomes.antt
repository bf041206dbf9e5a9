-- The outcomes of the salvage by what is measured, and the memory that they leave. Assumes nothing.
use mathlib.Core.Path.{◌≡◌, sym, ap, ◌∙◌}
use mathlib.Core.Bool.{true, false, not}
use mathlib.Core.List.{List}
use Prim.Native.Nat.{ℕ, ◌*◌, ◌/◌, ◌≤◌, ◌<◌}
use native.Mathlib.Omega.{arith}
use borrow.Author.Tests.{lt-ltb, le-ltb}
use lib.ListN.{length, drop}
use lib.Seq.{sets}
use Rattle.rules.specs.Rules.{First, saying}
use Rattle.rules.specs.Rules.First.{none, here, pass}
use Rattle.rules.proofs.Laws.{first_eq}
use Rattle.layout.specs.Answer.{Answer}
use Rattle.layout.specs.Answer as answer
use Rattle.layout.specs.Answers.{tells, refused_at, counts, accepting}
use Rattle.layout.proofs.Lent.{left-refused, left-accepted}
use Rattle.frame.specs.Files.{limit, marked}
use Rattle.frame.proofs.Files.{marked_4}
use Rattle.salvage.specs.Outcome.{Saved, Refused}
use Rattle.salvage.specs.declared.Sums.{Sums}
use Rattle.salvage.specs.Pieces.{pieces_of, ranges, tuples_kept}
use Rattle.salvage.specs.Salvage.{output_of, report_of, salvage_rules, salvage_answer, outcome_by, Salvaged}
use Rattle.salvage.specs.inner.Passes.{sums_of, Roomy}
use Rattle.salvage.proofs.Writes.{length-rows}

pub length-report : (f : List ℕ) → length (report_of f) ≡ 3 * length (ranges (pieces_of f))
unfolding report_of
length-report f = length-rows (ranges (pieces_of f))

-- what is told where nothing is refused
abbrev saving : List ℕ → Answer
saving f = accepting (tuples_kept (pieces_of f)) (length (output_of f))

-- ---- rule by rule
module _ (f : List ℕ) (entries room : ℕ) where
  by-rule : {x : Answer} → First (saying (refused_at 0) (salvage_rules f entries room)) (saving f) x → salvage_answer f entries room ≡ x
  unfolding salvage_answer
  by-rule p = sym (first_eq p)

  -- behind 1 and 2
  behind : {x : Answer} → length f ≤ limit → marked f ≡ true
      → First (drop 2 (saying (refused_at 0) (salvage_rules f entries room))) (saving f) x
      → salvage_answer f entries room ≡ x
  behind small m p = by-rule (pass (le-ltb limit (length f) small) (pass (ap not m) p))

  pub saves : length f ≤ limit → marked f ≡ true → length (report_of f) ≤ entries → length (output_of f) ≤ room
      → salvage_answer f entries room ≡ accepting (tuples_kept (pieces_of f)) (length (output_of f))
  saves small m h r = behind small m (pass (le-ltb entries (length (report_of f)) h) (pass (le-ltb room (length (output_of f)) r) none))

module _ (f out table : List ℕ) where
  refusing : (c : ℕ) → salvage_answer f (length table) (length out) ≡ answer.Refused c 0 → Salvaged f out table (Refused c 0) out table
  refusing c e =
      record {
        answer = tells (sym (ap (outcome_by f) e));
        memory = left-refused _ c 0 (output_of f) out e;
        report = left-refused _ c 0 (report_of f) table e;
      }

  pub over-limit : limit < length f → Salvaged f out table (Refused 1 0) out table
  over-limit h = refusing 1 (by-rule f (length table) (length out) (here (lt-ltb limit (length f) h)))

  module _ (small : length f ≤ limit) where
    pub no_mark : marked f ≡ false → Salvaged f out table (Refused 2 0) out table
    no_mark e = refusing 2 (by-rule f (length table) (length out) (pass (le-ltb limit (length f) small) (here (ap not e))))

    -- a file with its mark, and what is measured of it
    module _ (m : marked f ≡ true) (s : Sums) (g : s ≡ sums_of f) where
      rows : 3 * s.ranges ≡ length (report_of f)
      rows = omega (arith, ap (λ (x : Sums). x.ranges) g, length-report f)

      bytes : s.written ≡ length (output_of f)
      bytes = ap (λ (x : Sums). x.written) g

      pub short-table : length table / 3 < s.ranges → Salvaged f out table (Refused 27 0) out table
      short-table h =
          let short : length table < length (report_of f) = omega (arith, rows) in
          refusing 27 (behind f (length table) (length out) small m (here (lt-ltb (length table) (length (report_of f)) short)))

      module _ (h : s.ranges ≤ length table / 3) where
        long : length (report_of f) ≤ length table
        long = omega (arith, rows)

        pub no_room : length out < s.written → Salvaged f out table (Refused 19 0) out table
        no_room r =
            refusing 19 (behind f (length table) (length out) small m
            (pass (le-ltb (length table) (length (report_of f)) long)
            (here (lt-ltb (length out) (length (output_of f)) (omega (arith, bytes))))))

        module _ (r : s.written ≤ length out) where
          pub roomy : Roomy f (length out) (length table)
          roomy = record { marked = marked_4 f m; output = omega (arith, bytes); report = long }

          pub saved : (left told : List ℕ) → left ≡ sets out 0 (output_of f) → told ≡ sets table 0 (report_of f)
              → Salvaged f out table (Saved s.ranges s.tried (counts s.tuples s.written)) left told
          saved left told a b =
              let z = saves f (length table) (length out) small m long (omega (arith, bytes)) in
              record {
                answer =
                    tells (ap (λ (x : Sums). Saved x.ranges x.tried (counts x.tuples x.written)) g
                    ∙ sym (ap (outcome_by f) z));
                memory = left-accepted _ _ (output_of f) out left z (omega (arith, bytes)) a;
                report = left-accepted _ _ (report_of f) table told z long b;
              }
