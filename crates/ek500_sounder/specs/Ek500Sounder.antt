-- Made from views/records.txt by views/make.
-- Ek500Sounder, type 200: TR Table 3. An echosounder of the other maker, the EK-500 of Simrad. The start of its super layer is
-- one signed number of four bytes at 30: nothing is aligned. Its remarks, 30 characters, stand beside it; to write others is
-- refused by 9 at 0. Assumes nothing.
use Rattle.std.specs.Prelude.{◌≡◌, refl, Bool, List, [], ◌∷◌, ℕ, ℤ, pos, Result, Ok, Err}
use Rattle.std.proofs.Common.{sym, ◌∙◌}
use Rattle.layout.specs.declared.Refusal.{Refusal}
use Rattle.layout.specs.Code.{number}
use Rattle.layout.specs.Answer.{Answer, Accepted}
use Rattle.layout.specs.Answer as answer
use Rattle.layout.specs.Answers.{numbers, Tells, accepting}
use Rattle.tuples.specs.Readers.{only, read_answer, row_of}
use Rattle.tuples.specs.declared.Part.{Part}
use Rattle.rows.specs.Readers.{row_text}
use Rattle.rows.specs.Writers.{RowWritten}
use Rattle.rows.specs.Integers.{signed_at, unsigned_at, patterns, row_integers, Typed}
use Rattle.ek500_sounder.specs.declared.Ek500Sounder.{Ek500Sounder}
use Rattle.ek500_sounder.specs.Ek500SounderRead.{Ek500SounderRead, Read, Refused}

-- the integers of the row under the fields' names
abbrev pub ek500_sounder_of : List ℤ → Ek500Sounder
ek500_sounder_of zs =
    record {
      number_of_software_channels = unsigned_at zs 0;
      echosounder_document_identifier = record { 0 = unsigned_at zs 1 };
      sound_speed = unsigned_at zs 2;
      ping_mode = unsigned_at zs 3;
      ping_interval = unsigned_at zs 4;
      transmit_power = unsigned_at zs 5;
      noise_margin = unsigned_at zs 6;
      sample_range = unsigned_at zs 7;
      super_layer_type = unsigned_at zs 8;
      super_layer_number = unsigned_at zs 9;
      super_layer_range = unsigned_at zs 10;
      super_layer_start = signed_at zs 11;
      super_layer_margin = unsigned_at zs 12;
      super_layer_sv_threshold = signed_at zs 13;
      ek_500_version = unsigned_at zs 14;
      tuple_attribute = signed_at zs 15;
    }

-- and the fields as the integers of the row
abbrev pub ek500_sounder_integers : Ek500Sounder → List ℤ
ek500_sounder_integers r =
    pos r.number_of_software_channels
    ∷ pos r.echosounder_document_identifier.0
    ∷ pos r.sound_speed
    ∷ pos r.ping_mode
    ∷ pos r.ping_interval
    ∷ pos r.transmit_power
    ∷ pos r.noise_margin
    ∷ pos r.sample_range
    ∷ pos r.super_layer_type
    ∷ pos r.super_layer_number
    ∷ pos r.super_layer_range
    ∷ r.super_layer_start
    ∷ pos r.super_layer_margin
    ∷ r.super_layer_sv_threshold
    ∷ pos r.ek_500_version
    ∷ r.tuple_attribute
    ∷ []

-- the fields of these integers are those that they were taken from
pub ek500_sounder_inverse : (r : Ek500Sounder) → ek500_sounder_of (ek500_sounder_integers r) ≡ r
ek500_sounder_inverse r = refl

-- each field is in the range of its width and sign, as the fields of every value of the struct are
abbrev pub Ek500SounderTyped : Ek500Sounder → Type 0
Ek500SounderTyped r = Typed (row_of 200 0) (ek500_sounder_integers r)

-- ---- reading: what the code gives, in these words
abbrev pub as_read : Result (Ek500Sounder × Part) Refusal → Ek500SounderRead
as_read (Ok r) = Read r.0 r.1
as_read (Err r) = Refused (number r.code) r.place

-- 01's answer in each case
abbrev pub answer_of : Ek500SounderRead → Answer
answer_of (Read r t) = accepting 1 0
answer_of (Refused c p) = answer.Refused c p

-- what is given for an answer: the record and the place of its remarks, or the refusal
abbrev pub answered : Answer → Ek500Sounder → Part → Ek500SounderRead
answered (Accepted n) r t = Read r t
answered (answer.Refused c p) r t = Refused c p

-- the promise: 01's answer, and what is given for it
pub record Ek500SounderAt (f : List ℕ) (p : ℕ) (r : Ek500SounderRead) : Type 0 where
  pub answer : Tells numbers (answer_of r) (read_answer (only 200) f p)
  pub outcome : r ≡ answered (read_answer (only 200) f p) (ek500_sounder_of (row_integers 200 f p)) (row_text 200 f p)

-- which settles what is given
pub ek500_sounder-settled : {f : List ℕ} {p : ℕ} {r t : Ek500SounderRead} → Ek500SounderAt f p r → Ek500SounderAt f p t → r ≡ t
ek500_sounder-settled a b = a.outcome ∙ sym b.outcome

-- ---- writing: the row of the fields and the characters t, by the rules of rows
abbrev pub Ek500SounderWritten : Bool → Ek500Sounder → List ℕ → List ℕ → Answer → List ℕ → Type 0
Ek500SounderWritten o r t out a left = RowWritten 200 (patterns (row_of 200 0) (ek500_sounder_integers r)) t o out a left
