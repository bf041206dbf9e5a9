-- Made from views/records.txt by views/make.
-- Threshold, type 10100: TR Table 8. Assumes nothing.
use Rattle.std.specs.Prelude.{◌≡◌, refl, Bool, List, [], ◌∷◌, ℕ, ℤ, pos, Result, Ok, Err}
use Rattle.std.proofs.Common.{sym, ◌∙◌}
use Rattle.layout.specs.declared.Refusal.{Refusal}
use Rattle.layout.specs.Code.{number}
use Rattle.layout.specs.Answer.{Answer, Accepted}
use Rattle.layout.specs.Answer as answer
use Rattle.layout.specs.Answers.{numbers, Tells, accepting}
use Rattle.tuples.specs.Readers.{only, read_answer, row_of}
use Rattle.tuples.specs.Writers.{Written, plain_bytes}
use Rattle.rows.specs.Writers.{row_values}
use Rattle.rows.specs.Integers.{signed_at, unsigned_at, patterns, row_integers, Typed}
use Rattle.threshold.specs.declared.Threshold.{Threshold}
use Rattle.threshold.specs.ThresholdRead.{ThresholdRead, Read, Refused}

-- the integers of the row under the fields' names
abbrev pub threshold_of : List ℤ → Threshold
threshold_of zs =
    record {
      time_fraction = unsigned_at zs 0;
      time_cpu = unsigned_at zs 1;
      software_channel_identifier = record { 0 = unsigned_at zs 2 };
      tvg_max_range = unsigned_at zs 3;
      tvg_min_range = unsigned_at zs 4;
      tvt_evaluation_mode = unsigned_at zs 5;
      tvt_evaluation_interval = unsigned_at zs 6;
      tvt_evaluation_no_of_pings = unsigned_at zs 7;
      tvt_evaluation_starting_tvt_ping_number = unsigned_at zs 8;
      tvt_offset_parameter_or_constant_threshold = unsigned_at zs 9;
      tvt_amplification_parameter = unsigned_at zs 10;
      tuple_attribute = signed_at zs 11;
    }

-- and the fields as the integers of the row
abbrev pub threshold_integers : Threshold → List ℤ
threshold_integers r =
    pos r.time_fraction
    ∷ pos r.time_cpu
    ∷ pos r.software_channel_identifier.0
    ∷ pos r.tvg_max_range
    ∷ pos r.tvg_min_range
    ∷ pos r.tvt_evaluation_mode
    ∷ pos r.tvt_evaluation_interval
    ∷ pos r.tvt_evaluation_no_of_pings
    ∷ pos r.tvt_evaluation_starting_tvt_ping_number
    ∷ pos r.tvt_offset_parameter_or_constant_threshold
    ∷ pos r.tvt_amplification_parameter
    ∷ r.tuple_attribute
    ∷ []

-- the fields of these integers are those that they were taken from
pub threshold_inverse : (r : Threshold) → threshold_of (threshold_integers r) ≡ r
threshold_inverse r = refl

-- each field is in the range of its width and sign, as the fields of every value of the struct are
abbrev pub ThresholdTyped : Threshold → Type 0
ThresholdTyped r = Typed (row_of 10100 0) (threshold_integers r)

-- ---- reading: what the code gives, in these words
abbrev pub as_read : Result Threshold Refusal → ThresholdRead
as_read (Ok r) = Read r
as_read (Err r) = Refused (number r.code) r.place

-- 01's answer in each case
abbrev pub answer_of : ThresholdRead → Answer
answer_of (Read r) = accepting 1 0
answer_of (Refused c p) = answer.Refused c p

-- what is given for an answer: the record, or the refusal
abbrev pub answered : Answer → Threshold → ThresholdRead
answered (Accepted n) r = Read r
answered (answer.Refused c p) r = Refused c p

-- the promise: 01's answer, and what is given for it
pub record ThresholdAt (f : List ℕ) (p : ℕ) (r : ThresholdRead) : Type 0 where
  pub answer : Tells numbers (answer_of r) (read_answer (only 10100) f p)
  pub outcome : r ≡ answered (read_answer (only 10100) f p) (threshold_of (row_integers 10100 f p))

-- which settles what is given
pub threshold-settled : {f : List ℕ} {p : ℕ} {r t : ThresholdRead} → ThresholdAt f p r → ThresholdAt f p t → r ≡ t
threshold-settled a b = a.outcome ∙ sym b.outcome

-- ---- writing: no rule but for room, and the row of the fields
abbrev pub ThresholdWritten : Bool → Threshold → List ℕ → Answer → List ℕ → Type 0
ThresholdWritten o r out a left =
    Written [] (plain_bytes o 10100 (row_values 10100 (patterns (row_of 10100 0) (threshold_integers r)) [])) out a left
