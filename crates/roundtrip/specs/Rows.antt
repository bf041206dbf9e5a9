-- A record handed over as the numbers of its row, and read back: what is asked of it, and what then holds. Assumes nothing.
use Rattle.std.specs.Prelude.{◌≡◌, List, ◌++◌, ℕ, ◌≤◌, ◌<◌, length, take, drop}
use Rattle.std.specs.Prelude.{Result, Ok}
use Rattle.order.specs.Order.{Bytes}
use Rattle.layout.specs.declared.Refusal.{Refusal}
use Rattle.turning.specs.Rows.{Fit}
use Rattle.tuples.specs.Readers.{row_of}
use Rattle.tuples.specs.declared.Part.{Part}
use Rattle.rows.specs.Readers.{count_of, row_numbers, row_text, characters_at, RowAt}
use Rattle.rows.specs.Writers.{row_values, row_length}
use Rattle.rows.specs.RowRead.{RowRead}
use Rattle.rows.specs.RowRead.{Read}
use Rattle.rows.specs.Views.{as_row}

-- a type code of the program, numbers that fit the widths of the row, characters that are bytes
pub record RowSound (k : ℕ) (ns t : List ℕ) : Type 0 where
  pub code : k < 65536
  pub values : Fit (row_of k (row_length k t)) (row_values k ns t)
  pub characters : Bytes t

-- the record read at a place of a file: every outcome that the reader's promise allows, where enough numbers are lent, has the numbers
-- handed over, and those behind them stay; where its characters are said to stand stand those handed over
pub record RowBack (k : ℕ) (ns t : List ℕ) (f : List ℕ) (p : ℕ) : Type 0 where
  pub numbers : row_numbers f p ≡ take (count_of k) ns
  pub read : (lent left : List ℕ) (r : RowRead) → count_of k ≤ length lent → RowAt k f p lent r left
      → (r ≡ Read (row_text k f p)) × (left ≡ take (count_of k) ns ++ drop (count_of k) lent)
  pub characters : characters_at f (row_text k f p) ≡ t

-- the same of what the code hands back
abbrev pub RowGiven : ℕ → List ℕ → List ℕ → ℕ → Type 0
RowGiven k ns f p =
    (lent left : List ℕ) (r : Result Part Refusal) → count_of k ≤ length lent → RowAt k f p lent (as_row r) left
    → (r ≡ Ok (row_text k f p)) × (left ≡ take (count_of k) ns ++ drop (count_of k) lent)
