-- Made from views/records.txt by views/make.
-- Channel, type 1000: TR Table 4. A channel of a Biosonics echosounder, which names one of that maker. Its remarks, 30
-- characters, stand beside it; to write others is refused by 9 at 0. Assumes nothing.
use Rattle.std.specs.Prelude.{◌≡◌, refl, Bool, List, [], ◌∷◌, ℕ, ℤ, pos, Result, Ok, Err}
use Rattle.std.proofs.Common.{sym, ◌∙◌}
use Rattle.layout.specs.declared.Refusal.{Refusal}
use Rattle.layout.specs.Code.{number}
use Rattle.layout.specs.Answer.{Answer, Accepted}
use Rattle.layout.specs.Answer as answer
use Rattle.layout.specs.Answers.{numbers, Tells, accepting}
use Rattle.tuples.specs.Readers.{only, read_answer, row_of}
use Rattle.tuples.specs.declared.Part.{Part}
use Rattle.rows.specs.Readers.{row_text}
use Rattle.rows.specs.Writers.{RowWritten}
use Rattle.rows.specs.Integers.{signed_at, unsigned_at, patterns, row_integers, Typed}
use Rattle.channel.specs.declared.Channel.{Channel}
use Rattle.channel.specs.ChannelRead.{ChannelRead, Read, Refused}

-- the integers of the row under the fields' names
abbrev pub channel_of : List ℤ → Channel
channel_of zs =
    record {
      software_channel_identifier = record { 0 = unsigned_at zs 0 };
      echosounder_document_identifier = record { 0 = unsigned_at zs 1 };
      sampling_rate = unsigned_at zs 2;
      type_of_data_sample = unsigned_at zs 3;
      time_varied_gain_mode = unsigned_at zs 4;
      transceiver_channel_number = record { 0 = unsigned_at zs 5 };
      acoustic_frequency = unsigned_at zs 6;
      installation_depth_of_transducer = unsigned_at zs 7;
      alongship_angle_offset_of_the_transducer_face = signed_at zs 8;
      athwartship_angle_offset_of_the_transducer_face = signed_at zs 9;
      alongship_angle_offset_of_the_main_axis_of_the_acoustic_beam = signed_at zs 10;
      athwartship_angle_offset_of_the_main_axis_of_the_acoustic_beam = signed_at zs 11;
      absorption_of_sound = unsigned_at zs 12;
      pulse_length = unsigned_at zs 13;
      bandwidth = unsigned_at zs 14;
      calibration_source_level = unsigned_at zs 15;
      beamwidth_3_db_of_the_transducer_beam = unsigned_at zs 16;
      beam_pattern = unsigned_at zs 17;
      wide_beam_drop_off = unsigned_at zs 18;
      calibration_receiving_sensitivity = signed_at zs 19;
      receiver_gain = signed_at zs 20;
      bottom_detection_minimum_level = signed_at zs 21;
      bottom_window_min = unsigned_at zs 22;
      bottom_window_max = unsigned_at zs 23;
      tuple_attribute = signed_at zs 24;
    }

-- and the fields as the integers of the row
abbrev pub channel_integers : Channel → List ℤ
channel_integers r =
    pos r.software_channel_identifier.0
    ∷ pos r.echosounder_document_identifier.0
    ∷ pos r.sampling_rate
    ∷ pos r.type_of_data_sample
    ∷ pos r.time_varied_gain_mode
    ∷ pos r.transceiver_channel_number.0
    ∷ pos r.acoustic_frequency
    ∷ pos r.installation_depth_of_transducer
    ∷ r.alongship_angle_offset_of_the_transducer_face
    ∷ r.athwartship_angle_offset_of_the_transducer_face
    ∷ r.alongship_angle_offset_of_the_main_axis_of_the_acoustic_beam
    ∷ r.athwartship_angle_offset_of_the_main_axis_of_the_acoustic_beam
    ∷ pos r.absorption_of_sound
    ∷ pos r.pulse_length
    ∷ pos r.bandwidth
    ∷ pos r.calibration_source_level
    ∷ pos r.beamwidth_3_db_of_the_transducer_beam
    ∷ pos r.beam_pattern
    ∷ pos r.wide_beam_drop_off
    ∷ r.calibration_receiving_sensitivity
    ∷ r.receiver_gain
    ∷ r.bottom_detection_minimum_level
    ∷ pos r.bottom_window_min
    ∷ pos r.bottom_window_max
    ∷ r.tuple_attribute
    ∷ []

-- the fields of these integers are those that they were taken from
pub channel_inverse : (r : Channel) → channel_of (channel_integers r) ≡ r
channel_inverse r = refl

-- each field is in the range of its width and sign, as the fields of every value of the struct are
abbrev pub ChannelTyped : Channel → Type 0
ChannelTyped r = Typed (row_of 1000 0) (channel_integers r)

-- ---- reading: what the code gives, in these words
abbrev pub as_read : Result (Channel × Part) Refusal → ChannelRead
as_read (Ok r) = Read r.0 r.1
as_read (Err r) = Refused (number r.code) r.place

-- 01's answer in each case
abbrev pub answer_of : ChannelRead → Answer
answer_of (Read r t) = accepting 1 0
answer_of (Refused c p) = answer.Refused c p

-- what is given for an answer: the record and the place of its remarks, or the refusal
abbrev pub answered : Answer → Channel → Part → ChannelRead
answered (Accepted n) r t = Read r t
answered (answer.Refused c p) r t = Refused c p

-- the promise: 01's answer, and what is given for it
pub record ChannelAt (f : List ℕ) (p : ℕ) (r : ChannelRead) : Type 0 where
  pub answer : Tells numbers (answer_of r) (read_answer (only 1000) f p)
  pub outcome : r ≡ answered (read_answer (only 1000) f p) (channel_of (row_integers 1000 f p)) (row_text 1000 f p)

-- which settles what is given
pub channel-settled : {f : List ℕ} {p : ℕ} {r t : ChannelRead} → ChannelAt f p r → ChannelAt f p t → r ≡ t
channel-settled a b = a.outcome ∙ sym b.outcome

-- ---- writing: the row of the fields and the characters t, by the rules of rows
abbrev pub ChannelWritten : Bool → Channel → List ℕ → List ℕ → Answer → List ℕ → Type 0
ChannelWritten o r t out a left = RowWritten 1000 (patterns (row_of 1000 0) (channel_integers r)) t o out a left
