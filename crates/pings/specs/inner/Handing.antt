-- What a ping's part, between its header and its attribute, says by the shape of its type; and what handing its samples or its angles
-- over leaves. Assumes nothing.
use Rattle.std.specs.Prelude.{◌≡◌, ℕ, ◌-◌, ◌%◌, ◌≤◌, Bool, true, List, [], ℤ, length, take, drop}
use Rattle.std.proofs.Math.Option.{Option, none}
use Rattle.order.specs.Order.{num_of}
use Rattle.layout.specs.Answer.{Answer}
use Rattle.layout.specs.Answers.{left_by}
use Rattle.layout.specs.Families.{Family, wide, value_bytes, radix_of}
use Rattle.layout.specs.Types.{Shape, indexed, row, uncompressed, compressed, unlisted, shape_of, is_ping}
use Rattle.samples.specs.Words.{Sample, all_words, all_samples}
use Rattle.samples.specs.Lists.{handed_bytes, numbers_of, values_of, alongship_of, athwartship_of}
use Rattle.samples.specs.Runs.{ping_length}
use Rattle.samples.specs.Values.{samples_in, held_words}
use Rattle.pings.specs.Readers.{hand_answer, hand_angles}

-- ---- by the part
-- the words of a compressed ping, behind its number of samples
abbrev pub part_words : Family → Bool → List ℕ → List ℕ
part_words f o part = held_words f (num_of o (take 4 part)) (all_words (value_bytes f) o (take (length part - 4) (drop 4 part)))

abbrev pub part_samples : Shape → Bool → List ℕ → List Sample
part_samples indexed o part = []
part_samples (row fs x) o part = []
part_samples (uncompressed f) o part = all_samples f o part
part_samples (compressed f) o part = samples_in f (part_words f o part)
part_samples unlisted o part = []

abbrev pub part_length : Shape → Bool → List ℕ → Option ℕ
part_length indexed o part = none
part_length (row fs x) o part = none
part_length (uncompressed f) o part = none
part_length (compressed f) o part = ping_length (radix_of f) (part_words f o part)
part_length unlisted o part = none

-- the bytes of a value as it is handed over
abbrev pub part_width : Shape → ℕ
part_width indexed = handed_bytes wide
part_width (row fs x) = handed_bytes wide
part_width (uncompressed f) = handed_bytes f
part_width (compressed f) = handed_bytes f
part_width unlisted = handed_bytes wide

-- a compressed ping's part: a word at least, and as many samples as it counts
pub record SoundWords (f : Family) (o : Bool) (part : List ℕ) : Type 0 where
  pub long : 8 ≤ length part
  pub counted : num_of o (take 4 part) ≡ length (samples_in f (part_words f o part))

-- the part of a listed ping of type k that keeps its own rules
pub record SoundPart (k : ℕ) (o : Bool) (part : List ℕ) : Type 0 where
  pub listed : is_ping k ≡ true
  pub whole : length part % 4 ≡ 0
  pub few : length part ≤ 262112
  pub words : (f : Family) → shape_of k ≡ compressed f → SoundWords f o part

-- ---- handed over: the answer, and what the slices hold then
-- samples, with values of w bytes
pub record Handed (w : ℕ) (s : List Sample) (numbers : List ℕ) (values : List ℤ) (r : Answer) (ns : List ℕ) (vs : List ℤ) : Type 0 where
  pub answer : r ≡ hand_answer (length s) (length numbers) (length values)
  pub numbers_left : ns ≡ left_by (hand_answer (length s) (length numbers) (length values)) (numbers_of s) numbers
  pub values_left : vs ≡ left_by (hand_answer (length s) (length numbers) (length values)) (values_of w s) values

-- angles
pub record HandedAngles (s : List Sample) (numbers : List ℕ) (alongship athwartship : List ℤ) (r : Answer) (ns : List ℕ)
    (xs ys : List ℤ) : Type 0 where
  pub answer : r ≡ hand_angles (length s) (length numbers) (length alongship) (length athwartship)
  pub numbers_left : ns
      ≡ left_by (hand_angles (length s) (length numbers) (length alongship) (length athwartship)) (numbers_of s) numbers
  pub alongship_left : xs
      ≡ left_by (hand_angles (length s) (length numbers) (length alongship) (length athwartship)) (alongship_of s) alongship
  pub athwartship_left : ys
      ≡ left_by (hand_angles (length s) (length numbers) (length alongship) (length athwartship)) (athwartship_of s) athwartship
