-- How the text is read line by line, and what is left in memory. Assumes nothing.
use Rattle.std.specs.Prelude.{◌≡◌, ℕ, ◌+◌, ◌/◌, true, false, List, [], ◌∷◌, ◌++◌, eqb, length}
use Rattle.std.proofs.lemmas.List.Edits.{sets}
use Rattle.std.specs.Prelude.{Result, Ok, Err}
use Rattle.hexlines.specs.Lines.{line_feed, lines_of, bytes_in, is_bad, Input, bad, bytes, input_of}

-- the characters in front of the first line feed; all where there is none
unfoldable pub line_length : List ℕ → ℕ
line_length [] = 0
line_length (c ∷ cs) = elim (eqb c line_feed) [ true ↦ 0 | false ↦ line_length cs + 1 ]

-- the bytes of the lines in front of the first bad one, n bytes being decoded before them
unfoldable pub bytes_before : ℕ → List (List ℕ) → List ℕ
bytes_before n [] = []
bytes_before n (l ∷ ls) = elim (is_bad n l) [ true ↦ [] | false ↦ bytes_in l ++ bytes_before (n + length l / 2) ls ]

-- what is answered of the input, n bytes being decoded before it
abbrev pub counted : ℕ → Input → Result ℕ ℕ
counted n (bad i) = Err i
counted n (bytes bs) = Ok (n + length bs)

-- ---- the promise of the reader: its answer, and what it leaves in the lent bytes
pub record Read (text bytes₀ : List ℕ) (r : Result ℕ ℕ) (left : List ℕ) : Type 0 where
  pub answer : r ≡ counted 0 (input_of text)
  pub memory : left ≡ sets bytes₀ 0 (bytes_before 0 (lines_of text))
