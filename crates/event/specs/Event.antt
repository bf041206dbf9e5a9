-- Made from views/records.txt by views/make.
-- Event, type 10110: TR Table 11. An event marker. Its text, a multiple of four characters and not none, stands beside it; to
-- write another is refused by 9 at 0, one that makes the tuple too long by 11 at 0. Assumes nothing.
use Rattle.std.specs.Prelude.{◌≡◌, refl, Bool, List, [], ◌∷◌, ℕ, ℤ, pos, Result, Ok, Err}
use Rattle.std.proofs.Common.{sym, ◌∙◌}
use Rattle.layout.specs.declared.Refusal.{Refusal}
use Rattle.layout.specs.Code.{number}
use Rattle.layout.specs.Answer.{Answer, Accepted}
use Rattle.layout.specs.Answer as answer
use Rattle.layout.specs.Answers.{numbers, Tells, accepting}
use Rattle.tuples.specs.Readers.{only, read_answer, row_of}
use Rattle.tuples.specs.declared.Part.{Part}
use Rattle.rows.specs.Readers.{row_text}
use Rattle.rows.specs.Writers.{RowWritten}
use Rattle.rows.specs.Integers.{signed_at, unsigned_at, patterns, row_integers, Typed}
use Rattle.event.specs.declared.Event.{Event}
use Rattle.event.specs.EventRead.{EventRead, Read, Refused}

-- the integers of the row under the fields' names
abbrev pub event_of : List ℤ → Event
event_of zs =
    record {
      time_fraction = unsigned_at zs 0;
      time_cpu = unsigned_at zs 1;
      tuple_attribute = signed_at zs 2;
    }

-- and the fields as the integers of the row
abbrev pub event_integers : Event → List ℤ
event_integers r =
    pos r.time_fraction
    ∷ pos r.time_cpu
    ∷ r.tuple_attribute
    ∷ []

-- the fields of these integers are those that they were taken from
pub event_inverse : (r : Event) → event_of (event_integers r) ≡ r
event_inverse r = refl

-- each field is in the range of its width and sign, as the fields of every value of the struct are
abbrev pub EventTyped : Event → Type 0
EventTyped r = Typed (row_of 10110 0) (event_integers r)

-- ---- reading: what the code gives, in these words
abbrev pub as_read : Result (Event × Part) Refusal → EventRead
as_read (Ok r) = Read r.0 r.1
as_read (Err r) = Refused (number r.code) r.place

-- 01's answer in each case
abbrev pub answer_of : EventRead → Answer
answer_of (Read r t) = accepting 1 0
answer_of (Refused c p) = answer.Refused c p

-- what is given for an answer: the record and the place of its text, or the refusal
abbrev pub answered : Answer → Event → Part → EventRead
answered (Accepted n) r t = Read r t
answered (answer.Refused c p) r t = Refused c p

-- the promise: 01's answer, and what is given for it
pub record EventAt (f : List ℕ) (p : ℕ) (r : EventRead) : Type 0 where
  pub answer : Tells numbers (answer_of r) (read_answer (only 10110) f p)
  pub outcome : r ≡ answered (read_answer (only 10110) f p) (event_of (row_integers 10110 f p)) (row_text 10110 f p)

-- which settles what is given
pub event_settled : {f : List ℕ} {p : ℕ} {r t : EventRead} → EventAt f p r → EventAt f p t → r ≡ t
event_settled a b = a.outcome ∙ sym b.outcome

-- ---- writing: the row of the fields and the characters t, by the rules of rows
abbrev pub EventWritten : Bool → Event → List ℕ → List ℕ → Answer → List ℕ → Type 0
EventWritten o r t out a left = RowWritten 10110 (patterns (row_of 10110 0) (event_integers r)) t o out a left
