-- What a reader of records answers, and what it leaves in the numbers lent. Assumes nothing.
use Rattle.std.specs.Prelude.{◌≡◌, Bool, true, false, List, [], ◌∷◌, ℕ, ◌+◌, ltb, length, take, drop}
use Rattle.std.proofs.Common.{sym, ◌∙◌}
use Rattle.layout.specs.Answer.{Answer}
use Rattle.layout.specs.Answer.{Accepted}
use Rattle.layout.specs.Answer as answer
use Rattle.layout.specs.Answers.{Numbers, numbers, Tells, accepting, left_by}
use Rattle.layout.specs.Fields.{Field, many, before_text}
use Rattle.layout.specs.Types.{Shape, indexed, row, uncompressed, compressed, unlisted, shape_of}
use Rattle.turning.specs.Rows.{numbers_in, text_in}
use Rattle.tuples.specs.Readers.{records_of, read_answer, read_values, row_of}
use Rattle.tuples.specs.declared.Part.{Part}
use Rattle.rows.specs.RowRead.{RowRead}
use Rattle.rows.specs.RowRead.{Read, Refused}

-- how many numbers a record of a type has, its attribute the last
abbrev pub count_of : ℕ → ℕ
count_of k = many (row_of k 0)

-- a field reader's answer; 19 at 0, last, where fewer numbers are lent than the record has
abbrev pub lent_by : Bool → Answer → Answer
lent_by short (answer.Refused c p) = answer.Refused c p
lent_by true (Accepted n) = answer.Refused 19 0
lent_by false (Accepted n) = Accepted n

unfoldable pub row_answer : ℕ → List ℕ → ℕ → ℕ → Answer
row_answer k f p room = lent_by (ltb room (count_of k)) (read_answer (records_of k) f p)

-- the numbers of the record there, in the row's order, a signed one as its pattern
abbrev pub row_numbers : List ℕ → ℕ → List ℕ
row_numbers f p = numbers_in (read_values f p)

-- the fields of a record's row, before the characters behind them and its attribute
abbrev pub fields_by : Shape → List Field
fields_by indexed = []
fields_by (row fs x) = fs
fields_by (uncompressed f) = []
fields_by (compressed f) = []
fields_by unlisted = []

-- where its characters stand in the file; of a record without characters none, where its attribute stands
abbrev pub row_text : ℕ → List ℕ → ℕ → Part
row_text k f p = record { place = p + 6 + before_text (fields_by (shape_of k)); length = length (text_in (read_values f p)) }

-- the characters at a part of a file
abbrev pub characters_at : List ℕ → Part → List ℕ
characters_at f t = take t.length (drop t.place f)

-- ---- 01's answer in each case, and the promise, which settles outcome and memory
abbrev pub answer_of : RowRead → Answer
answer_of (Read t) = accepting 1 0
answer_of (Refused c p) = answer.Refused c p

abbrev pub answer_numbers : RowRead → Numbers
answer_numbers r = numbers (answer_of r)

-- what it hands over, as numbers: where the characters stand, and how many they are
abbrev pub row_fields : RowRead → List ℕ
row_fields (Read t) = t.place ∷ t.length ∷ []
row_fields (Refused c p) = []

abbrev pub answered : Answer → Part → RowRead
answered (Accepted n) t = Read t
answered (answer.Refused c p) t = Refused c p

pub record RowAt (k : ℕ) (f : List ℕ) (p : ℕ) (lent : List ℕ) (r : RowRead) (left : List ℕ) : Type 0 where
  pub answer : Tells numbers (answer_of r) (row_answer k f p (length lent))
  pub outcome : r ≡ answered (row_answer k f p (length lent)) (row_text k f p)
  pub memory : left ≡ left_by (row_answer k f p (length lent)) (row_numbers f p) lent

pub row_settled : {k : ℕ} {f : List ℕ} {p : ℕ} {lent : List ℕ} {r s : RowRead} {left kept : List ℕ}
    → RowAt k f p lent r left → RowAt k f p lent s kept → (r ≡ s) × (left ≡ kept)
row_settled a b = (a.outcome ∙ sym b.outcome, a.memory ∙ sym b.memory)
