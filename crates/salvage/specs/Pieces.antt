-- What is kept of a file, and what is dropped. From behind the mark a tuple is looked for at one offset after the other: behind a tuple
-- that is kept, and 4 bytes further on where none is. Assumes nothing.
use Rattle.std.specs.Prelude.{ℕ, zero, suc, ◌+◌, ◌-◌, Bool, true, false, cond, List, [], ◌∷◌, ◌++◌, ltb, length, take, drop}
use Rattle.std.specs.Bool.{beq}
use Rattle.layout.specs.Verdict.{Verdict}
use Rattle.layout.specs.Verdict.{Fine, Fault}
use Rattle.frame.specs.Frames.{len_at}
use Rattle.frame.specs.Files.{is_msb}
use Rattle.intake.specs.Alone.{alone}
use Rattle.salvage.specs.declared.Piece.{Piece}

-- ---- at one offset: the whole tuple, where the rules that it keeps alone hold (`alone_rules`: 3, 5, 3, 6; 9, 8, 11, and 23 or 24, 25);
-- else the bytes to the next offset, or to the file's end
abbrev pub piece_by : Verdict → ℕ → ℕ → ℕ → Piece
piece_by Fine at n end = record { kept = true; from = at; to = at + n }
piece_by (Fault c p) at n end = record { kept = false; from = at; to = cond (ltb (at + 4) end) (at + 4) end }

unfoldable pub piece_at : Bool → List ℕ → ℕ → Piece
piece_at o f at = piece_by (alone o (drop at f)) at (len_at o (drop at f)) (length f)

-- ---- from a place to the file's end, one for each offset tried; at most k of them
unfoldable pub pieces_from : ℕ → Bool → List ℕ → ℕ → List Piece
pieces_from zero o f at = []
pieces_from (suc k) o f at = elim (ltb at (length f)) [ true ↦ piece_at o f at ∷ pieces_from k o f (piece_at o f at).to | false ↦ [] ]

-- every piece has a byte, so the file's length is enough
unfoldable pub pieces_of : List ℕ → List Piece
pieces_of f = pieces_from (length f) (is_msb f) f 4

-- ---- the ranges: neighbours of one kind joined
abbrev pub joined : Piece → Piece → Piece
joined p q = record { kept = p.kept; from = p.from; to = q.to }

-- p is the range that stands open in front of pieces
unfoldable pub grown : Piece → List Piece → List Piece
grown p [] = p ∷ []
grown p (q ∷ qs) = elim (beq q.kept p.kept) [ true ↦ grown (joined p q) qs | false ↦ p ∷ grown q qs ]

abbrev pub ranges : List Piece → List Piece
ranges [] = []
ranges (p ∷ ps) = grown p ps

-- ---- what is kept: how many tuples, and their bytes as they stand
abbrev pub tuples_kept : List Piece → ℕ
tuples_kept [] = 0
tuples_kept (p ∷ ps) = cond p.kept 1 0 + tuples_kept ps

abbrev pub bytes_in : List ℕ → Piece → List ℕ
bytes_in f p = take (p.to - p.from) (drop p.from f)

abbrev pub kept_in : List ℕ → Piece → List ℕ
kept_in f p = cond p.kept (bytes_in f p) []

abbrev pub bytes_kept : List ℕ → List Piece → List ℕ
bytes_kept f [] = []
bytes_kept f (p ∷ ps) = kept_in f p ++ bytes_kept f ps
