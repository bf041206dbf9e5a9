-- Made from views/records.txt by views/make.
-- FileEnd, type 65534: TR Table 17. Its possible data, 2 bytes or 6, 10, 14 and so on, stand beside it when it is read. It is
-- written with 2 bytes of them, all 0. Assumes nothing.
use Rattle.std.specs.Prelude.{◌≡◌, refl, Bool, List, [], ◌∷◌, ℕ, ℤ, pos, Result, Ok, Err}
use Rattle.std.proofs.Common.{sym, ◌∙◌}
use Rattle.layout.specs.declared.Refusal.{Refusal}
use Rattle.layout.specs.Code.{number}
use Rattle.layout.specs.Answer.{Answer, Accepted}
use Rattle.layout.specs.Answer as answer
use Rattle.layout.specs.Answers.{numbers, Tells, accepting}
use Rattle.tuples.specs.Readers.{only, read_answer, row_of}
use Rattle.tuples.specs.Writers.{Written, plain_bytes}
use Rattle.tuples.specs.declared.Part.{Part}
use Rattle.rows.specs.Readers.{row_text}
use Rattle.rows.specs.Writers.{row_values}
use Rattle.rows.specs.Integers.{signed_at, unsigned_at, patterns, row_integers, Typed}
use Rattle.file_end.specs.declared.FileEnd.{FileEnd}
use Rattle.file_end.specs.FileEndRead.{FileEndRead, Read, Refused}

-- the integers of the row under the fields' names
abbrev pub file_end_of : List ℤ → FileEnd
file_end_of zs =
    record {
      time_fraction = unsigned_at zs 0;
      time_cpu = unsigned_at zs 1;
      closing_mode = unsigned_at zs 2;
      tuple_attribute = signed_at zs 3;
    }

-- and the fields as the integers of the row
abbrev pub file_end_integers : FileEnd → List ℤ
file_end_integers r =
    pos r.time_fraction
    ∷ pos r.time_cpu
    ∷ pos r.closing_mode
    ∷ r.tuple_attribute
    ∷ []

-- the fields of these integers are those that they were taken from
pub file-end_inverse : (r : FileEnd) → file_end_of (file_end_integers r) ≡ r
file-end_inverse r = refl

-- each field is in the range of its width and sign, as the fields of every value of the struct are
abbrev pub FileEndTyped : FileEnd → Type 0
FileEndTyped r = Typed (row_of 65534 0) (file_end_integers r)

-- ---- reading: what the code gives, in these words
abbrev pub as_read : Result (FileEnd × Part) Refusal → FileEndRead
as_read (Ok r) = Read r.0 r.1
as_read (Err r) = Refused (number r.code) r.place

-- 01's answer in each case
abbrev pub answer_of : FileEndRead → Answer
answer_of (Read r t) = accepting 1 0
answer_of (Refused c p) = answer.Refused c p

-- what is given for an answer: the record and the place of its data, or the refusal
abbrev pub answered : Answer → FileEnd → Part → FileEndRead
answered (Accepted n) r t = Read r t
answered (answer.Refused c p) r t = Refused c p

-- the promise: 01's answer, and what is given for it
pub record FileEndAt (f : List ℕ) (p : ℕ) (r : FileEndRead) : Type 0 where
  pub answer : Tells numbers (answer_of r) (read_answer (only 65534) f p)
  pub outcome : r ≡ answered (read_answer (only 65534) f p) (file_end_of (row_integers 65534 f p)) (row_text 65534 f p)

-- which settles what is given
pub file-end-settled : {f : List ℕ} {p : ℕ} {r t : FileEndRead} → FileEndAt f p r → FileEndAt f p t → r ≡ t
file-end-settled a b = a.outcome ∙ sym b.outcome

-- ---- writing: no rule but for room, and the row of the fields, with zeros behind them
abbrev pub FileEndWritten : Bool → FileEnd → List ℕ → Answer → List ℕ → Type 0
FileEndWritten o r out a left =
    Written [] (plain_bytes o 65534 (row_values 65534 (patterns (row_of 65534 0) (file_end_integers r)) (0 ∷ 0 ∷ []))) out a left
