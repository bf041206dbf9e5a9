-- A ping: its content, and its data as an uncompressed and as a compressed one, in either byte order. Assumes nothing.
use Rattle.std.specs.Prelude.{ℕ, ◌+◌, ◌-◌, Bool, List, ◌++◌, length, take, drop}
use Rattle.std.proofs.Math.Option.{Option, none}
use Rattle.order.specs.Order.{num_of, bytes_of}
use Rattle.layout.specs.Fields.{size}
use Rattle.layout.specs.Families.{Family, value_bytes, radix_of}
use Rattle.layout.specs.Types.{ping_row}
use Rattle.turning.specs.Rows.{Value, values_of, encode}
use Rattle.samples.specs.Words.{Sample, all_words, unwords, all_samples, unsampled, spaced}
use Rattle.samples.specs.Runs.{ping_length}
use Rattle.samples.specs.Values.{samples_in, held_words}

-- the content of a ping is its family, its header fields, a list of (sample number, value), its length where it ends in a run, and its
-- attribute
pub record Ping : Type 0 where
  pub family : Family
  pub head : List Value
  pub samples : List Sample
  pub length : Option ℕ
  pub attr : ℕ

-- ---- the parts of a ping's data d: a header of a bytes, samples or words with the space behind them, four bytes of attribute
abbrev pub head_u : ℕ
head_u = size ping_row

-- behind the header of a compressed ping stands its number of samples
abbrev pub head_c : ℕ
head_c = size ping_row + 4

unfoldable pub part_in : ℕ → List ℕ → List ℕ
part_in a d = take (length d - (a + 4)) (drop a d)

unfoldable pub attribute_in : Bool → List ℕ → ℕ
attribute_in o d = num_of o (drop (length d - 4) d)

unfoldable pub count_in : Bool → List ℕ → ℕ
count_in o d = num_of o (take 4 (drop head_u d))

-- the words of a compressed ping: a space behind them is none
unfoldable pub words_in : Family → Bool → List ℕ → List ℕ
words_in f o d = held_words f (count_in o d) (all_words (value_bytes f) o (part_in head_c d))

-- ---- content
-- uncompressed: samples as stored, and no length
unfoldable pub content_u : Family → Bool → List ℕ → Ping
content_u f o d =
    record {
      family = f;
      head = values_of o ping_row d;
      samples = all_samples f o (part_in head_u d);
      length = none;
      attr = attribute_in o d;
    }

-- compressed: runs count, the number of samples is no content
unfoldable pub content_c : Family → Bool → List ℕ → Ping
content_c f o d =
    record {
      family = f;
      head = values_of o ping_row d;
      samples = samples_in f (words_in f o d);
      length = ping_length (radix_of f) (words_in f o d);
      attr = attribute_in o d;
    }

-- ---- data
unfoldable pub data_u : Bool → Ping → List ℕ
data_u o c = encode o ping_row c.head ++ (spaced (unsampled c.family o c.samples) ++ bytes_of o 4 c.attr)

-- by these words, which say the ping's samples
unfoldable pub data_c : Bool → Ping → List ℕ → List ℕ
data_c o c ws =
    encode o ping_row c.head
    ++ (bytes_of o 4 (length c.samples) ++ (spaced (unwords (value_bytes c.family) o ws) ++ bytes_of o 4 c.attr))
