-- Made from views/records.txt by views/make.
-- Sounder, type 100: TR Table 2. An echosounder, of Biosonics. Its remarks, 30 characters, stand beside it; to write others is
-- refused by 9 at 0. Assumes nothing.
use Rattle.std.specs.Prelude.{◌≡◌, refl, Bool, List, [], ◌∷◌, ℕ, ℤ, pos, Result, Ok, Err}
use Rattle.std.proofs.Common.{sym, ◌∙◌}
use Rattle.layout.specs.declared.Refusal.{Refusal}
use Rattle.layout.specs.Code.{number}
use Rattle.layout.specs.Answer.{Answer, Accepted}
use Rattle.layout.specs.Answer as answer
use Rattle.layout.specs.Answers.{numbers, Tells, accepting}
use Rattle.tuples.specs.Readers.{only, read_answer, row_of}
use Rattle.tuples.specs.declared.Part.{Part}
use Rattle.rows.specs.Readers.{row_text}
use Rattle.rows.specs.Writers.{RowWritten}
use Rattle.rows.specs.Integers.{signed_at, unsigned_at, patterns, row_integers, Typed}
use Rattle.sounder.specs.declared.Sounder.{Sounder}
use Rattle.sounder.specs.SounderRead.{SounderRead, Read, Refused}

-- the integers of the row under the fields' names
abbrev pub sounder_of : List ℤ → Sounder
sounder_of zs =
    record {
      number_of_software_channels = unsigned_at zs 0;
      echosounder_document_identifier = record { 0 = unsigned_at zs 1 };
      sound_speed = unsigned_at zs 2;
      ping_interval = unsigned_at zs 3;
      transmitter_attenuation_setting = signed_at zs 4;
      multiplexing_mode = unsigned_at zs 5;
      blanking_at_tvg_max_range = signed_at zs 6;
      tvg_max_range = unsigned_at zs 7;
      blanking_up_to_range = unsigned_at zs 8;
      calibrator_signal = signed_at zs 9;
      calibrator_mode = unsigned_at zs 10;
      calibrator_separator = unsigned_at zs 11;
      tuple_attribute = signed_at zs 12;
    }

-- and the fields as the integers of the row
abbrev pub sounder_integers : Sounder → List ℤ
sounder_integers r =
    pos r.number_of_software_channels
    ∷ pos r.echosounder_document_identifier.0
    ∷ pos r.sound_speed
    ∷ pos r.ping_interval
    ∷ r.transmitter_attenuation_setting
    ∷ pos r.multiplexing_mode
    ∷ r.blanking_at_tvg_max_range
    ∷ pos r.tvg_max_range
    ∷ pos r.blanking_up_to_range
    ∷ r.calibrator_signal
    ∷ pos r.calibrator_mode
    ∷ pos r.calibrator_separator
    ∷ r.tuple_attribute
    ∷ []

-- the fields of these integers are those that they were taken from
pub sounder_inverse : (r : Sounder) → sounder_of (sounder_integers r) ≡ r
sounder_inverse r = refl

-- each field is in the range of its width and sign, as the fields of every value of the struct are
abbrev pub SounderTyped : Sounder → Type 0
SounderTyped r = Typed (row_of 100 0) (sounder_integers r)

-- ---- reading: what the code gives, in these words
abbrev pub as_read : Result (Sounder × Part) Refusal → SounderRead
as_read (Ok r) = Read r.0 r.1
as_read (Err r) = Refused (number r.code) r.place

-- 01's answer in each case
abbrev pub answer_of : SounderRead → Answer
answer_of (Read r t) = accepting 1 0
answer_of (Refused c p) = answer.Refused c p

-- what is given for an answer: the record and the place of its remarks, or the refusal
abbrev pub answered : Answer → Sounder → Part → SounderRead
answered (Accepted n) r t = Read r t
answered (answer.Refused c p) r t = Refused c p

-- the promise: 01's answer, and what is given for it
pub record SounderAt (f : List ℕ) (p : ℕ) (r : SounderRead) : Type 0 where
  pub answer : Tells numbers (answer_of r) (read_answer (only 100) f p)
  pub outcome : r ≡ answered (read_answer (only 100) f p) (sounder_of (row_integers 100 f p)) (row_text 100 f p)

-- which settles what is given
pub sounder-settled : {f : List ℕ} {p : ℕ} {r t : SounderRead} → SounderAt f p r → SounderAt f p t → r ≡ t
sounder-settled a b = a.outcome ∙ sym b.outcome

-- ---- writing: the row of the fields and the characters t, by the rules of rows
abbrev pub SounderWritten : Bool → Sounder → List ℕ → List ℕ → Answer → List ℕ → Type 0
SounderWritten o r t out a left = RowWritten 100 (patterns (row_of 100 0) (sounder_integers r)) t o out a left
