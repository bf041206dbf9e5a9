-- A salvage that keeps everything: the output is the file, and the report one kept range behind the mark, or none where nothing
-- stands there. Assumes nothing.
use Rattle.std.specs.Prelude.{◌≡◌, ℕ, zero, suc, ◌≤◌, true, List, [], ◌∷◌, length}
use Rattle.layout.specs.Answers.{counts}
use Rattle.salvage.specs.declared.Piece.{Piece}
use Rattle.salvage.specs.Outcome.{Outcome}
use Rattle.salvage.specs.Outcome.{Saved}
use Rattle.salvage.specs.Pieces.{pieces_of, ranges, tuples_kept}
use Rattle.salvage.specs.Salvage.{output_of, rows_of, salvage_outcome}

-- n tuples are one range, kept, from behind the mark to a place; none are no range
abbrev pub all_kept : ℕ → ℕ → List Piece
all_kept end zero = []
all_kept end (suc n) = record { kept = true; from = 4; to = end } ∷ []

abbrev pub saved_all : ℕ → ℕ → Outcome
saved_all end n = Saved (length (all_kept end n)) n (counts n end)

-- n tuples are kept, each at the one offset where it was looked for, and no byte is dropped
pub record KeepsAll (f : List ℕ) (n : ℕ) : Type 0 where
  pub output : output_of f ≡ f
  pub tuples : tuples_kept (pieces_of f) ≡ n
  pub tried : length (pieces_of f) ≡ n
  pub ranges : ranges (pieces_of f) ≡ all_kept (length f) n
  pub saved : (entries room : ℕ) → length (rows_of (all_kept (length f) n)) ≤ entries → length f ≤ room
      → salvage_outcome f entries room ≡ saved_all (length f) n
