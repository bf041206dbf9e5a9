-- Made from views/records.txt by views/make.
-- Attitude, type 40: TR Table 10. A platform's. Software channel 65535 means all channels, here alone. Assumes nothing.
use Rattle.std.specs.Prelude.{◌≡◌, refl, Bool, List, [], ◌∷◌, ℕ, ℤ, pos, Result, Ok, Err}
use Rattle.std.proofs.Common.{sym, ◌∙◌}
use Rattle.layout.specs.declared.Refusal.{Refusal}
use Rattle.layout.specs.Code.{number}
use Rattle.layout.specs.Answer.{Answer, Accepted}
use Rattle.layout.specs.Answer as answer
use Rattle.layout.specs.Answers.{numbers, Tells, accepting}
use Rattle.tuples.specs.Readers.{only, read_answer, row_of}
use Rattle.tuples.specs.Writers.{Written, plain_bytes}
use Rattle.rows.specs.Writers.{row_values}
use Rattle.rows.specs.Integers.{signed_at, unsigned_at, patterns, row_integers, Typed}
use Rattle.attitude.specs.declared.Attitude.{Attitude}
use Rattle.attitude.specs.AttitudeRead.{AttitudeRead, Read, Refused}

-- the integers of the row under the fields' names
abbrev pub attitude_of : List ℤ → Attitude
attitude_of zs =
    record {
      time_fraction = unsigned_at zs 0;
      time_cpu = unsigned_at zs 1;
      software_channel_identifier = record { 0 = unsigned_at zs 2 };
      platform_referred_to = unsigned_at zs 3;
      alongship_offset = signed_at zs 4;
      athwartship_offset = signed_at zs 5;
      pitch = signed_at zs 6;
      roll = signed_at zs 7;
      heave = signed_at zs 8;
      tuple_attribute = signed_at zs 9;
    }

-- and the fields as the integers of the row
abbrev pub attitude_integers : Attitude → List ℤ
attitude_integers r =
    pos r.time_fraction
    ∷ pos r.time_cpu
    ∷ pos r.software_channel_identifier.0
    ∷ pos r.platform_referred_to
    ∷ r.alongship_offset
    ∷ r.athwartship_offset
    ∷ r.pitch
    ∷ r.roll
    ∷ r.heave
    ∷ r.tuple_attribute
    ∷ []

-- the fields of these integers are those that they were taken from
pub attitude_inverse : (r : Attitude) → attitude_of (attitude_integers r) ≡ r
attitude_inverse r = refl

-- each field is in the range of its width and sign, as the fields of every value of the struct are
abbrev pub AttitudeTyped : Attitude → Type 0
AttitudeTyped r = Typed (row_of 40 0) (attitude_integers r)

-- ---- reading: what the code gives, in these words
abbrev pub as_read : Result Attitude Refusal → AttitudeRead
as_read (Ok r) = Read r
as_read (Err r) = Refused (number r.code) r.place

-- 01's answer in each case
abbrev pub answer_of : AttitudeRead → Answer
answer_of (Read r) = accepting 1 0
answer_of (Refused c p) = answer.Refused c p

-- what is given for an answer: the record, or the refusal
abbrev pub answered : Answer → Attitude → AttitudeRead
answered (Accepted n) r = Read r
answered (answer.Refused c p) r = Refused c p

-- the promise: 01's answer, and what is given for it
pub record AttitudeAt (f : List ℕ) (p : ℕ) (r : AttitudeRead) : Type 0 where
  pub answer : Tells numbers (answer_of r) (read_answer (only 40) f p)
  pub outcome : r ≡ answered (read_answer (only 40) f p) (attitude_of (row_integers 40 f p))

-- which settles what is given
pub attitude-settled : {f : List ℕ} {p : ℕ} {r t : AttitudeRead} → AttitudeAt f p r → AttitudeAt f p t → r ≡ t
attitude-settled a b = a.outcome ∙ sym b.outcome

-- ---- writing: no rule but for room, and the row of the fields
abbrev pub AttitudeWritten : Bool → Attitude → List ℕ → Answer → List ℕ → Type 0
AttitudeWritten o r out a left =
    Written [] (plain_bytes o 40 (row_values 40 (patterns (row_of 40 0) (attitude_integers r)) [])) out a left
