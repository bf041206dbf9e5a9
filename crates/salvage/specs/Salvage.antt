-- The salvage of a file: its answer, its output and its report. Assumes nothing.
use Rattle.std.specs.Prelude.{◌≡◌, ℕ, cond, List, [], ◌∷◌, ◌++◌, ltb, length}
use Rattle.std.proofs.Common.{sym, ◌∙◌}
use Rattle.rules.specs.Rules.{Rule, ◌⇒◌, first_of, saying}
use Rattle.layout.specs.Answer.{Answer}
use Rattle.layout.specs.Answer.{Accepted}
use Rattle.layout.specs.Answers.{Numbers, acceptance, refusal, Tells, left_by, Breach, ◌byte◌, refused_at, accepting}
use Rattle.frame.specs.Files.{mark, is_msb, file_rules}
use Rattle.salvage.specs.declared.Piece.{Piece}
use Rattle.salvage.specs.Outcome.{Outcome}
use Rattle.salvage.specs.Outcome.{Saved, Refused}
use Rattle.salvage.specs.Pieces.{pieces_of, ranges, tuples_kept, bytes_kept}

-- the output: the mark and the kept tuples
unfoldable pub output_of : List ℕ → List ℕ
output_of f = mark (is_msb f) ++ bytes_kept f (pieces_of f)

-- the report: for each range 1 for kept or 0 for dropped, the place of its first byte, and the place behind its last
abbrev pub row_of : Piece → List ℕ
row_of p = cond p.kept 1 0 ∷ p.from ∷ p.to ∷ []

abbrev pub rows_of : List Piece → List ℕ
rows_of [] = []
rows_of (p ∷ ps) = row_of p ++ rows_of ps

unfoldable pub report_of : List ℕ → List ℕ
report_of f = rows_of (ranges (pieces_of f))

-- ---- 1, 2; 27 where the table has too few entries; 19 where the output has too little room: each at 0
abbrev pub salvage_rules : List ℕ → ℕ → ℕ → List (Rule Breach)
salvage_rules f entries room =
    file_rules f ++ ((ltb entries (length (report_of f)) ⇒ 27 byte 0) ∷ (ltb room (length (output_of f)) ⇒ 19 byte 0) ∷ [])

-- acceptance with the tuples kept and the bytes written
unfoldable pub salvage_answer : List ℕ → ℕ → ℕ → Answer
salvage_answer f entries room =
    first_of (saying (refused_at 0) (salvage_rules f entries room)) (accepting (tuples_kept (pieces_of f)) (length (output_of f)))

-- and with the ranges and the offsets tried
abbrev pub outcome_by : List ℕ → Answer → Outcome
outcome_by f (Accepted n) = Saved (length (ranges (pieces_of f))) (length (pieces_of f)) n
outcome_by f (Answer.Refused c p) = Refused c p

abbrev pub salvage_outcome : List ℕ → ℕ → ℕ → Outcome
salvage_outcome f entries room = outcome_by f (salvage_answer f entries room)

-- ---- the answer's numbers, and what it hands over as numbers: the ranges, the offsets tried
abbrev pub salvage_numbers : Outcome → Numbers
salvage_numbers (Saved k t n) = acceptance n
salvage_numbers (Refused c p) = refusal c p

abbrev pub salvage_fields : Outcome → List ℕ
salvage_fields (Saved k t n) = k ∷ t ∷ []
salvage_fields (Refused c p) = []

-- ---- the promise of the salvage, and that it settles the outcome and both memories
pub record Salvaged (f out table : List ℕ) (r : Outcome) (left told : List ℕ) : Type 0 where
  pub answer : Tells salvage_numbers r (salvage_outcome f (length table) (length out))
  pub memory : left ≡ left_by (salvage_answer f (length table) (length out)) (output_of f) out
  pub report : told ≡ left_by (salvage_answer f (length table) (length out)) (report_of f) table

pub salvaged-settled : {f out table : List ℕ} {r s : Outcome} {left kept told said : List ℕ} → Salvaged f out table r left told
    → Salvaged f out table s kept said
    → (r ≡ s) × (left ≡ kept) × (told ≡ said)
salvaged-settled p q = (p.answer.is ∙ sym q.answer.is, p.memory ∙ sym q.memory, p.report ∙ sym q.report)
