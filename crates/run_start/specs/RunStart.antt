-- Made from views/records.txt by views/make.
-- RunStart, type 65516: TR Table 15. Assumes nothing.
use Rattle.std.specs.Prelude.{◌≡◌, refl, Bool, List, [], ◌∷◌, ℕ, ℤ, pos, Result, Ok, Err}
use Rattle.std.proofs.Common.{sym, ◌∙◌}
use Rattle.layout.specs.declared.Refusal.{Refusal}
use Rattle.layout.specs.Code.{number}
use Rattle.layout.specs.Answer.{Answer, Accepted}
use Rattle.layout.specs.Answer as answer
use Rattle.layout.specs.Answers.{numbers, Tells, accepting}
use Rattle.tuples.specs.Readers.{only, read_answer, row_of}
use Rattle.tuples.specs.Writers.{Written, plain_bytes}
use Rattle.rows.specs.Writers.{row_values}
use Rattle.rows.specs.Integers.{signed_at, unsigned_at, patterns, row_integers, Typed}
use Rattle.run_start.specs.declared.RunStart.{RunStart}
use Rattle.run_start.specs.RunStartRead.{RunStartRead, Read, Refused}

-- the integers of the row under the fields' names
abbrev pub run_start_of : List ℤ → RunStart
run_start_of zs =
    record {
      time_fraction = unsigned_at zs 0;
      time_cpu = unsigned_at zs 1;
      tuple_attribute = signed_at zs 2;
    }

-- and the fields as the integers of the row
abbrev pub run_start_integers : RunStart → List ℤ
run_start_integers r =
    pos r.time_fraction
    ∷ pos r.time_cpu
    ∷ r.tuple_attribute
    ∷ []

-- the fields of these integers are those that they were taken from
pub run-start_inverse : (r : RunStart) → run_start_of (run_start_integers r) ≡ r
run-start_inverse r = refl

-- each field is in the range of its width and sign, as the fields of every value of the struct are
abbrev pub RunStartTyped : RunStart → Type 0
RunStartTyped r = Typed (row_of 65516 0) (run_start_integers r)

-- ---- reading: what the code gives, in these words
abbrev pub as_read : Result RunStart Refusal → RunStartRead
as_read (Ok r) = Read r
as_read (Err r) = Refused (number r.code) r.place

-- 01's answer in each case
abbrev pub answer_of : RunStartRead → Answer
answer_of (Read r) = accepting 1 0
answer_of (Refused c p) = answer.Refused c p

-- what is given for an answer: the record, or the refusal
abbrev pub answered : Answer → RunStart → RunStartRead
answered (Accepted n) r = Read r
answered (answer.Refused c p) r = Refused c p

-- the promise: 01's answer, and what is given for it
pub record RunStartAt (f : List ℕ) (p : ℕ) (r : RunStartRead) : Type 0 where
  pub answer : Tells numbers (answer_of r) (read_answer (only 65516) f p)
  pub outcome : r ≡ answered (read_answer (only 65516) f p) (run_start_of (row_integers 65516 f p))

-- which settles what is given
pub run-start-settled : {f : List ℕ} {p : ℕ} {r t : RunStartRead} → RunStartAt f p r → RunStartAt f p t → r ≡ t
run-start-settled a b = a.outcome ∙ sym b.outcome

-- ---- writing: no rule but for room, and the row of the fields
abbrev pub RunStartWritten : Bool → RunStart → List ℕ → Answer → List ℕ → Type 0
RunStartWritten o r out a left =
    Written [] (plain_bytes o 65516 (row_values 65516 (patterns (row_of 65516 0) (run_start_integers r)) [])) out a left
