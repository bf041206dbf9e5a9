-- Made from views/records.txt by views/make.
-- Position, type 20: TR Table 7. Its time fraction is signed, here alone. Assumes nothing.
use Rattle.std.specs.Prelude.{◌≡◌, refl, Bool, List, [], ◌∷◌, ℕ, ℤ, pos, Result, Ok, Err}
use Rattle.std.proofs.Common.{sym, ◌∙◌}
use Rattle.layout.specs.declared.Refusal.{Refusal}
use Rattle.layout.specs.Code.{number}
use Rattle.layout.specs.Answer.{Answer, Accepted}
use Rattle.layout.specs.Answer as answer
use Rattle.layout.specs.Answers.{numbers, Tells, accepting}
use Rattle.tuples.specs.Readers.{only, read_answer, row_of}
use Rattle.tuples.specs.Writers.{Written, plain_bytes}
use Rattle.rows.specs.Writers.{row_values}
use Rattle.rows.specs.Integers.{signed_at, unsigned_at, patterns, row_integers, Typed}
use Rattle.position.specs.declared.Position.{Position}
use Rattle.position.specs.PositionRead.{PositionRead, Read, Refused}

-- the integers of the row under the fields' names
abbrev pub position_of : List ℤ → Position
position_of zs =
    record {
      time_fraction = signed_at zs 0;
      time_cpu = unsigned_at zs 1;
      gps_time = unsigned_at zs 2;
      positioning_system = unsigned_at zs 3;
      latitude = signed_at zs 4;
      longitude = signed_at zs 5;
      tuple_attribute = signed_at zs 6;
    }

-- and the fields as the integers of the row
abbrev pub position_integers : Position → List ℤ
position_integers r =
    r.time_fraction
    ∷ pos r.time_cpu
    ∷ pos r.gps_time
    ∷ pos r.positioning_system
    ∷ r.latitude
    ∷ r.longitude
    ∷ r.tuple_attribute
    ∷ []

-- the fields of these integers are those that they were taken from
pub position_inverse : (r : Position) → position_of (position_integers r) ≡ r
position_inverse r = refl

-- each field is in the range of its width and sign, as the fields of every value of the struct are
abbrev pub PositionTyped : Position → Type 0
PositionTyped r = Typed (row_of 20 0) (position_integers r)

-- ---- reading: what the code gives, in these words
abbrev pub as_read : Result Position Refusal → PositionRead
as_read (Ok r) = Read r
as_read (Err r) = Refused (number r.code) r.place

-- 01's answer in each case
abbrev pub answer_of : PositionRead → Answer
answer_of (Read r) = accepting 1 0
answer_of (Refused c p) = answer.Refused c p

-- what is given for an answer: the record, or the refusal
abbrev pub answered : Answer → Position → PositionRead
answered (Accepted n) r = Read r
answered (answer.Refused c p) r = Refused c p

-- the promise: 01's answer, and what is given for it
pub record PositionAt (f : List ℕ) (p : ℕ) (r : PositionRead) : Type 0 where
  pub answer : Tells numbers (answer_of r) (read_answer (only 20) f p)
  pub outcome : r ≡ answered (read_answer (only 20) f p) (position_of (row_integers 20 f p))

-- which settles what is given
pub position-settled : {f : List ℕ} {p : ℕ} {r t : PositionRead} → PositionAt f p r → PositionAt f p t → r ≡ t
position-settled a b = a.outcome ∙ sym b.outcome

-- ---- writing: no rule but for room, and the row of the fields
abbrev pub PositionWritten : Bool → Position → List ℕ → Answer → List ℕ → Type 0
PositionWritten o r out a left =
    Written [] (plain_bytes o 20 (row_values 20 (patterns (row_of 20 0) (position_integers r)) [])) out a left
