-- Made from views/records.txt by views/make.
-- Navigation, type 30: TR Table 9. Assumes nothing.
use Rattle.std.specs.Prelude.{◌≡◌, refl, Bool, List, [], ◌∷◌, ℕ, ℤ, pos, Result, Ok, Err}
use Rattle.std.proofs.Common.{sym, ◌∙◌}
use Rattle.layout.specs.declared.Refusal.{Refusal}
use Rattle.layout.specs.Code.{number}
use Rattle.layout.specs.Answer.{Answer, Accepted}
use Rattle.layout.specs.Answer as answer
use Rattle.layout.specs.Answers.{numbers, Tells, accepting}
use Rattle.tuples.specs.Readers.{only, read_answer, row_of}
use Rattle.tuples.specs.Writers.{Written, plain_bytes}
use Rattle.rows.specs.Writers.{row_values}
use Rattle.rows.specs.Integers.{signed_at, unsigned_at, patterns, row_integers, Typed}
use Rattle.navigation.specs.declared.Navigation.{Navigation}
use Rattle.navigation.specs.NavigationRead.{NavigationRead, Read, Refused}

-- the integers of the row under the fields' names
abbrev pub navigation_of : List ℤ → Navigation
navigation_of zs =
    record {
      time_fraction = unsigned_at zs 0;
      time_cpu = unsigned_at zs 1;
      navigation_system = unsigned_at zs 2;
      heading = signed_at zs 3;
      navigation_speed = unsigned_at zs 4;
      tuple_attribute = signed_at zs 5;
    }

-- and the fields as the integers of the row
abbrev pub navigation_integers : Navigation → List ℤ
navigation_integers r =
    pos r.time_fraction
    ∷ pos r.time_cpu
    ∷ pos r.navigation_system
    ∷ r.heading
    ∷ pos r.navigation_speed
    ∷ r.tuple_attribute
    ∷ []

-- the fields of these integers are those that they were taken from
pub navigation_inverse : (r : Navigation) → navigation_of (navigation_integers r) ≡ r
navigation_inverse r = refl

-- each field is in the range of its width and sign, as the fields of every value of the struct are
abbrev pub NavigationTyped : Navigation → Type 0
NavigationTyped r = Typed (row_of 30 0) (navigation_integers r)

-- ---- reading: what the code gives, in these words
abbrev pub as_read : Result Navigation Refusal → NavigationRead
as_read (Ok r) = Read r
as_read (Err r) = Refused (number r.code) r.place

-- 01's answer in each case
abbrev pub answer_of : NavigationRead → Answer
answer_of (Read r) = accepting 1 0
answer_of (Refused c p) = answer.Refused c p

-- what is given for an answer: the record, or the refusal
abbrev pub answered : Answer → Navigation → NavigationRead
answered (Accepted n) r = Read r
answered (answer.Refused c p) r = Refused c p

-- the promise: 01's answer, and what is given for it
pub record NavigationAt (f : List ℕ) (p : ℕ) (r : NavigationRead) : Type 0 where
  pub answer : Tells numbers (answer_of r) (read_answer (only 30) f p)
  pub outcome : r ≡ answered (read_answer (only 30) f p) (navigation_of (row_integers 30 f p))

-- which settles what is given
pub navigation_settled : {f : List ℕ} {p : ℕ} {r t : NavigationRead} → NavigationAt f p r → NavigationAt f p t → r ≡ t
navigation_settled a b = a.outcome ∙ sym b.outcome

-- ---- writing: no rule but for room, and the row of the fields
abbrev pub NavigationWritten : Bool → Navigation → List ℕ → Answer → List ℕ → Type 0
NavigationWritten o r out a left =
    Written [] (plain_bytes o 30 (row_values 30 (patterns (row_of 30 0) (navigation_integers r)) [])) out a left
