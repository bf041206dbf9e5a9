-- What the two passes over a file carry: the range that stands open, and what is counted so far. Assumes nothing.
use Rattle.std.specs.Prelude.{ℕ, ◌+◌, ◌-◌, ◌≤◌, ◌<◌, ◌≡◌, Bool, true, cond, List, [], ◌∷◌, length}
use Rattle.std.specs.Bool.{beq}
use Rattle.frame.specs.Files.{limit}
use Rattle.weights.specs.inner.Rows.{Summed}
use Rattle.salvage.specs.declared.Piece.{Piece}
use Rattle.salvage.specs.declared.Sums.{Sums}
use Rattle.salvage.specs.Pieces.{joined, pieces_of, ranges, tuples_kept}
use Rattle.salvage.specs.Salvage.{output_of, report_of}

-- the range that stands open behind a piece
abbrev pub growing : Piece → Piece → Piece
growing p q = cond (beq q.kept p.kept) (joined p q) q

-- the range that a piece closes: the open one, where it is of the other kind
abbrev pub closed : Piece → Piece → List Piece
closed p q = cond (beq q.kept p.kept) [] (p ∷ [])

-- the bytes of a piece that are kept
abbrev pub size_kept : Piece → ℕ
size_kept p = cond p.kept (p.to - p.from) 0

-- ---- what is counted: of the first piece; past a piece; of the whole file
abbrev pub sums_first : Piece → Sums
sums_first p = record { tuples = cond p.kept 1 0; written = 4 + size_kept p; ranges = 1; tried = 1 }

abbrev pub sums_past : Sums → Piece → Piece → Sums
sums_past s p q =
    record {
      tuples = s.tuples + cond q.kept 1 0;
      written = s.written + size_kept q;
      ranges = s.ranges + cond (beq q.kept p.kept) 0 1;
      tried = s.tried + 1;
    }

abbrev pub sums_of : List ℕ → Sums
sums_of f =
    let ps = pieces_of f in
    record { tuples = tuples_kept ps; written = length (output_of f); ranges = length (ranges ps); tried = length ps }

-- few of each before a place
pub record Few (s : Sums) (at : ℕ) : Type 0 where
  pub tuples : s.tuples ≤ at
  pub written : s.written ≤ at
  pub ranges : s.ranges ≤ at
  pub tried : s.tried ≤ at

-- a piece with a byte, which ends at a place or before it
pub record Within (p : Piece) (n : ℕ) : Type 0 where
  pub some : p.from < p.to
  pub within : p.to ≤ n

-- ---- what the writing wants: a file with its mark, room for the output, and entries for the report
pub record Roomy (f : List ℕ) (room entries : ℕ) : Type 0 where
  pub marked : 4 ≤ length f
  pub output : length (output_of f) ≤ room
  pub report : length (report_of f) ≤ entries

-- ---- how tuples are judged: by sums, where it is said that they are there, of a file within its limit
abbrev pub Ready : Bool → Bool → List ℕ → List ℕ → Type 0
Ready dear o f t = dear ≡ true → Summed o f t × (length f ≤ limit)
