-- What a writer of records answers, and what it leaves in lent memory. Assumes nothing.
use Rattle.std.specs.Prelude.{Bool, not, List, [], ◌∷◌, ℕ, ◌+◌, ltb, length}
use Rattle.rules.specs.Rules.{Rule, ◌⇒◌}
use Rattle.layout.specs.Answer.{Answer}
use Rattle.layout.specs.Answer.{Refused}
use Rattle.layout.specs.Fields.{bare_size}
use Rattle.layout.specs.Types.{fitting, lengths_of, shape_of}
use Rattle.turning.specs.Rows.{Value, woven}
use Rattle.tuples.specs.Readers.{is_record, row_of}
use Rattle.tuples.specs.Writers.{Written, plain_bytes}
use Rattle.rows.specs.Readers.{count_of, fields_by}

-- the values of a record: its numbers in the row's order, the attribute last, each by the lower bytes of its width; its characters
abbrev pub row_values : ℕ → List ℕ → List ℕ → List Value
row_values k ns t = woven (row_of k 0) ns t

-- the length of its tuple
abbrev pub row_length : ℕ → List ℕ → ℕ
row_length k t = bare_size (fields_by (shape_of k)) + length t + 14

-- 9 at 0 where the type is no record's, for fewer numbers than the record has, and for characters that it can't hold; then 11 at 0
abbrev pub row_rules : ℕ → List ℕ → List ℕ → List (Rule Answer)
row_rules k ns t =
    (not (is_record k) ⇒ Refused 9 0)
    ∷ (ltb (length ns) (count_of k) ⇒ Refused 9 0)
    ∷ (not (fitting (lengths_of k) (row_length k t)) ⇒ Refused 9 0)
    ∷ (ltb 262144 (row_length k t) ⇒ Refused 11 0)
    ∷ []

-- the promise, which settles answer and memory (`written-settled`)
abbrev pub RowWritten : ℕ → List ℕ → List ℕ → Bool → List ℕ → Answer → List ℕ → Type 0
RowWritten k ns t o out r left = Written (row_rules k ns t) (plain_bytes o k (row_values k ns t)) out r left
