-- What a ping's field reader answers and hands over. Assumes nothing.
use Rattle.std.specs.Prelude.{◌≡◌, ℕ, List, [], ◌∷◌, ◌++◌, length}
use Rattle.std.proofs.Common.{sym, ◌∙◌}
use Rattle.std.proofs.Math.Option.{Option, some, none}
use Rattle.order.specs.Order.{signed_of, pattern_of}
use Rattle.layout.specs.Answer.{Answer}
use Rattle.layout.specs.Answer.{Accepted}
use Rattle.layout.specs.Answer as answer
use Rattle.layout.specs.Answers.{Numbers, numbers, Tells, accepting}
use Rattle.turning.specs.Rows.{Value, numbers_in}
use Rattle.content.specs.Pings.{Ping}
use Rattle.content.specs.Items.{Item, plain, ping, raw, number_at}
use Rattle.layout.specs.Families.{Family, wide, narrow, encoded, wide_angles, narrow_angles}
use Rattle.layout.specs.Types.{Shape, indexed, row, uncompressed, compressed, unlisted, shape_of, is_ping}
use Rattle.tuples.specs.Readers.{tuple_there, read_answer, read_item}
use Rattle.pings.specs.Headers.{head_of, told_length}
use Rattle.pings.specs.PingLength.{PingLength}
use Rattle.std.specs.Prelude.{Some, None}
use Rattle.pings.specs.declared.PingHeader.{PingHeader}
use Rattle.pings.specs.declared.PingKind.{PingKind}
use Rattle.pings.specs.declared.PingKind.TheVariants.{U32, C32, U32Angles, U16, U16Angles, C16, CE16}
use Rattle.pings.specs.PingRead.{PingRead}
use Rattle.pings.specs.PingRead.{Read, Refused}

-- the values of the header's row under the fields' names
abbrev pub header_of : List Value → PingHeader
header_of vs =
    record {
      time_fraction = number_at vs 0;
      time_cpu = number_at vs 1;
      software_channel_identifier = record { 0 = number_at vs 2 };
      transmitter_mode = number_at vs 3;
      ping_number = number_at vs 4;
      detected_bottom_range = signed_of 4 (number_at vs 5);
    }

-- the ping there
abbrev pub ping_by : Option Item → Ping
ping_by none = record { family = wide; head = []; samples = []; length = none; attr = 0 }
ping_by (some (plain k vs)) = record { family = wide; head = []; samples = []; length = none; attr = 0 }
ping_by (some (ping q)) = q
ping_by (some (raw k d)) = record { family = wide; head = []; samples = []; length = none; attr = 0 }

-- its kind, by its type: uncompressed and compressed ones of each family
abbrev pub kind_u : Family → PingKind
kind_u wide = U32
kind_u narrow = U16
kind_u encoded = CE16
kind_u wide_angles = U32Angles
kind_u narrow_angles = U16Angles

abbrev pub kind_c : Family → PingKind
kind_c wide = C32
kind_c narrow = C16
kind_c encoded = CE16
kind_c wide_angles = U32Angles
kind_c narrow_angles = U16Angles

abbrev pub kind_by : Shape → PingKind
kind_by indexed = U32
kind_by (row fs x) = U32
kind_by (uncompressed f) = kind_u f
kind_by (compressed f) = kind_c f
kind_by unlisted = U32

abbrev pub kind_of_ping : ℕ → PingKind
kind_of_ping k = kind_by (shape_of k)

-- its fields: header, attribute, kind, number of values and length
abbrev pub fields_by : Ping → ℕ → PingRead
fields_by q k = Read (header_of q.head) (signed_of 4 q.attr) (kind_of_ping k) (length q.samples) (told_length q.length)

unfoldable pub ping_fields : List ℕ → ℕ → PingRead
ping_fields f p = fields_by (ping_by (read_item f p)) (tuple_there f p).kind

-- ---- 01's answer in each case, and the promise, which settles the outcome
abbrev pub answer_of : PingRead → Answer
answer_of (Read h a k n l) = accepting 1 0
answer_of (Refused c p) = answer.Refused c p

abbrev pub ping_numbers : PingRead → Numbers
ping_numbers r = numbers (answer_of r)

-- what it hands over, as numbers: the header's fields, the attribute, the kind, the number of values; whether it has a length, and which
abbrev pub kind_number : PingKind → ℕ
kind_number U32 = 0
kind_number C32 = 1
kind_number U32Angles = 2
kind_number U16 = 3
kind_number U16Angles = 4
kind_number C16 = 5
kind_number CE16 = 6

abbrev pub length_numbers : PingLength → List ℕ
length_numbers None = 0 ∷ 0 ∷ []
length_numbers (Some n) = 1 ∷ n ∷ []

abbrev pub read_fields : PingRead → List ℕ
read_fields (Read h a k n l) = numbers_in (head_of h) ++ (pattern_of 4 a ∷ kind_number k ∷ []) ++ (n ∷ length_numbers l)
read_fields (Refused c p) = []

abbrev pub answered : Answer → PingRead → PingRead
answered (Accepted n) r = r
answered (answer.Refused c p) r = Refused c p

pub record PingAt (f : List ℕ) (p : ℕ) (r : PingRead) : Type 0 where
  pub answer : Tells numbers (answer_of r) (read_answer is_ping f p)
  pub outcome : r ≡ answered (read_answer is_ping f p) (ping_fields f p)

pub ping-settled : {f : List ℕ} {p : ℕ} {r t : PingRead} → PingAt f p r → PingAt f p t → r ≡ t
ping-settled a b = a.outcome ∙ sym b.outcome
