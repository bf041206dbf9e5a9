-- Made from views/records.txt by views/make.
-- RunEnd, type 65517: TR Table 16. Assumes nothing.
use Rattle.std.specs.Prelude.{◌≡◌, refl, Bool, List, [], ◌∷◌, ℕ, ℤ, pos, Result, Ok, Err}
use Rattle.std.proofs.Common.{sym, ◌∙◌}
use Rattle.layout.specs.declared.Refusal.{Refusal}
use Rattle.layout.specs.Code.{number}
use Rattle.layout.specs.Answer.{Answer, Accepted}
use Rattle.layout.specs.Answer as answer
use Rattle.layout.specs.Answers.{numbers, Tells, accepting}
use Rattle.tuples.specs.Readers.{only, read_answer, row_of}
use Rattle.tuples.specs.Writers.{Written, plain_bytes}
use Rattle.rows.specs.Writers.{row_values}
use Rattle.rows.specs.Integers.{signed_at, unsigned_at, patterns, row_integers, Typed}
use Rattle.run_end.specs.declared.RunEnd.{RunEnd}
use Rattle.run_end.specs.RunEndRead.{RunEndRead, Read, Refused}

-- the integers of the row under the fields' names
abbrev pub run_end_of : List ℤ → RunEnd
run_end_of zs =
    record {
      time_fraction = unsigned_at zs 0;
      time_cpu = unsigned_at zs 1;
      tuple_attribute = signed_at zs 2;
    }

-- and the fields as the integers of the row
abbrev pub run_end_integers : RunEnd → List ℤ
run_end_integers r =
    pos r.time_fraction
    ∷ pos r.time_cpu
    ∷ r.tuple_attribute
    ∷ []

-- the fields of these integers are those that they were taken from
pub run-end_inverse : (r : RunEnd) → run_end_of (run_end_integers r) ≡ r
run-end_inverse r = refl

-- each field is in the range of its width and sign, as the fields of every value of the struct are
abbrev pub RunEndTyped : RunEnd → Type 0
RunEndTyped r = Typed (row_of 65517 0) (run_end_integers r)

-- ---- reading: what the code gives, in these words
abbrev pub as_read : Result RunEnd Refusal → RunEndRead
as_read (Ok r) = Read r
as_read (Err r) = Refused (number r.code) r.place

-- 01's answer in each case
abbrev pub answer_of : RunEndRead → Answer
answer_of (Read r) = accepting 1 0
answer_of (Refused c p) = answer.Refused c p

-- what is given for an answer: the record, or the refusal
abbrev pub answered : Answer → RunEnd → RunEndRead
answered (Accepted n) r = Read r
answered (answer.Refused c p) r = Refused c p

-- the promise: 01's answer, and what is given for it
pub record RunEndAt (f : List ℕ) (p : ℕ) (r : RunEndRead) : Type 0 where
  pub answer : Tells numbers (answer_of r) (read_answer (only 65517) f p)
  pub outcome : r ≡ answered (read_answer (only 65517) f p) (run_end_of (row_integers 65517 f p))

-- which settles what is given
pub run-end-settled : {f : List ℕ} {p : ℕ} {r t : RunEndRead} → RunEndAt f p r → RunEndAt f p t → r ≡ t
run-end-settled a b = a.outcome ∙ sym b.outcome

-- ---- writing: no rule but for room, and the row of the fields
abbrev pub RunEndWritten : Bool → RunEnd → List ℕ → Answer → List ℕ → Type 0
RunEndWritten o r out a left =
    Written [] (plain_bytes o 65517 (row_values 65517 (patterns (row_of 65517 0) (run_end_integers r)) [])) out a left
