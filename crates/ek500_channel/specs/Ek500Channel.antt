-- Made from views/records.txt by views/make.
-- Ek500Channel, type 2000: TR Table 5. A channel of an EK-500, which names an echosounder of that maker. Its remarks, 30
-- characters, stand beside it; to write others is refused by 9 at 0. Assumes nothing.
use Rattle.std.specs.Prelude.{◌≡◌, refl, Bool, List, [], ◌∷◌, ℕ, ℤ, pos, Result, Ok, Err}
use Rattle.std.proofs.Common.{sym, ◌∙◌}
use Rattle.layout.specs.declared.Refusal.{Refusal}
use Rattle.layout.specs.Code.{number}
use Rattle.layout.specs.Answer.{Answer, Accepted}
use Rattle.layout.specs.Answer as answer
use Rattle.layout.specs.Answers.{numbers, Tells, accepting}
use Rattle.tuples.specs.Readers.{only, read_answer, row_of}
use Rattle.tuples.specs.declared.Part.{Part}
use Rattle.rows.specs.Readers.{row_text}
use Rattle.rows.specs.Writers.{RowWritten}
use Rattle.rows.specs.Integers.{signed_at, unsigned_at, patterns, row_integers, Typed}
use Rattle.ek500_channel.specs.declared.Ek500Channel.{Ek500Channel}
use Rattle.ek500_channel.specs.Ek500ChannelRead.{Ek500ChannelRead, Read, Refused}

-- the integers of the row under the fields' names
abbrev pub ek500_channel_of : List ℤ → Ek500Channel
ek500_channel_of zs =
    record {
      software_channel_identifier = record { 0 = unsigned_at zs 0 };
      echosounder_document_identifier = record { 0 = unsigned_at zs 1 };
      sampling_rate = unsigned_at zs 2;
      type_of_data_sample = unsigned_at zs 3;
      transceiver_channel_number = record { 0 = unsigned_at zs 4 };
      acoustic_frequency = unsigned_at zs 5;
      installation_depth_of_transducer = unsigned_at zs 6;
      alongship_angle_offset_of_the_transducer_face = signed_at zs 7;
      athwartship_angle_offset_of_the_transducer_face = signed_at zs 8;
      alongship_angle_offset_of_the_main_axis_of_the_acoustic_beam = signed_at zs 9;
      athwartship_angle_offset_of_the_main_axis_of_the_acoustic_beam = signed_at zs 10;
      absorption_of_sound = unsigned_at zs 11;
      pulse_length_mode = unsigned_at zs 12;
      bandwidth_mode = unsigned_at zs 13;
      max_power = unsigned_at zs 14;
      alongship_angle_sensitivity = unsigned_at zs 15;
      athwartship_angle_sensitivity = unsigned_at zs 16;
      alongship_3_db_beamwidth_of_the_transducer = unsigned_at zs 17;
      athwartship_3_db_beamwidth_of_the_transducer = unsigned_at zs 18;
      two_way_beam_angle = signed_at zs 19;
      calibration_transducer_gain = unsigned_at zs 20;
      bottom_detection_minimum_level = signed_at zs 21;
      bottom_window_min_depth = unsigned_at zs 22;
      bottom_window_max_depth = unsigned_at zs 23;
      tuple_attribute = signed_at zs 24;
    }

-- and the fields as the integers of the row
abbrev pub ek500_channel_integers : Ek500Channel → List ℤ
ek500_channel_integers r =
    pos r.software_channel_identifier.0
    ∷ pos r.echosounder_document_identifier.0
    ∷ pos r.sampling_rate
    ∷ pos r.type_of_data_sample
    ∷ pos r.transceiver_channel_number.0
    ∷ pos r.acoustic_frequency
    ∷ pos r.installation_depth_of_transducer
    ∷ r.alongship_angle_offset_of_the_transducer_face
    ∷ r.athwartship_angle_offset_of_the_transducer_face
    ∷ r.alongship_angle_offset_of_the_main_axis_of_the_acoustic_beam
    ∷ r.athwartship_angle_offset_of_the_main_axis_of_the_acoustic_beam
    ∷ pos r.absorption_of_sound
    ∷ pos r.pulse_length_mode
    ∷ pos r.bandwidth_mode
    ∷ pos r.max_power
    ∷ pos r.alongship_angle_sensitivity
    ∷ pos r.athwartship_angle_sensitivity
    ∷ pos r.alongship_3_db_beamwidth_of_the_transducer
    ∷ pos r.athwartship_3_db_beamwidth_of_the_transducer
    ∷ r.two_way_beam_angle
    ∷ pos r.calibration_transducer_gain
    ∷ r.bottom_detection_minimum_level
    ∷ pos r.bottom_window_min_depth
    ∷ pos r.bottom_window_max_depth
    ∷ r.tuple_attribute
    ∷ []

-- the fields of these integers are those that they were taken from
pub ek500_channel_inverse : (r : Ek500Channel) → ek500_channel_of (ek500_channel_integers r) ≡ r
ek500_channel_inverse r = refl

-- each field is in the range of its width and sign, as the fields of every value of the struct are
abbrev pub Ek500ChannelTyped : Ek500Channel → Type 0
Ek500ChannelTyped r = Typed (row_of 2000 0) (ek500_channel_integers r)

-- ---- reading: what the code gives, in these words
abbrev pub as_read : Result (Ek500Channel × Part) Refusal → Ek500ChannelRead
as_read (Ok r) = Read r.0 r.1
as_read (Err r) = Refused (number r.code) r.place

-- 01's answer in each case
abbrev pub answer_of : Ek500ChannelRead → Answer
answer_of (Read r t) = accepting 1 0
answer_of (Refused c p) = answer.Refused c p

-- what is given for an answer: the record and the place of its remarks, or the refusal
abbrev pub answered : Answer → Ek500Channel → Part → Ek500ChannelRead
answered (Accepted n) r t = Read r t
answered (answer.Refused c p) r t = Refused c p

-- the promise: 01's answer, and what is given for it
pub record Ek500ChannelAt (f : List ℕ) (p : ℕ) (r : Ek500ChannelRead) : Type 0 where
  pub answer : Tells numbers (answer_of r) (read_answer (only 2000) f p)
  pub outcome : r ≡ answered (read_answer (only 2000) f p) (ek500_channel_of (row_integers 2000 f p)) (row_text 2000 f p)

-- which settles what is given
pub ek500_channel-settled : {f : List ℕ} {p : ℕ} {r t : Ek500ChannelRead} → Ek500ChannelAt f p r → Ek500ChannelAt f p t → r ≡ t
ek500_channel-settled a b = a.outcome ∙ sym b.outcome

-- ---- writing: the row of the fields and the characters t, by the rules of rows
abbrev pub Ek500ChannelWritten : Bool → Ek500Channel → List ℕ → List ℕ → Answer → List ℕ → Type 0
Ek500ChannelWritten o r t out a left = RowWritten 2000 (patterns (row_of 2000 0) (ek500_channel_integers r)) t o out a left
