-- Pings that the writers take, by the program's types and by the rules; and a ping that is read back. Over the family. Assumes nothing.
use Rattle.std.specs.Prelude.{◌≡◌, ℕ, ◌+◌, ◌*◌, ◌^◌, ◌≤◌, false, not, ◌&&◌, List, [], ◌∷◌, ◌++◌, eqb, ℤ, length, drop}
use Rattle.std.proofs.Math.Option.{Option, none}
use Rattle.std.specs.Prelude.{Result, Ok}
use Rattle.layout.specs.declared.Counts.{Counts}
use Rattle.layout.specs.declared.Refusal.{Refusal}
use Rattle.layout.specs.Answer.{Answer}
use Rattle.layout.specs.Answers.{accepting, counts}
use Rattle.layout.specs.Views.{as_answer}
use Rattle.layout.specs.Families.{Family, number_bytes, value_bytes}
use Rattle.samples.specs.Words.{Below}
use Rattle.samples.specs.Lists.{handed_bytes, paired, angled}
use Rattle.samples.specs.Values.{words_for}
use Rattle.samples.specs.Judging.{most, first_drop, first_wordless, too_short}
use Rattle.content.specs.Forms.{has_length}
use Rattle.pings.specs.declared.Ping.{Ping}
use Rattle.pings.specs.declared.PingHeader.{PingHeader}
use Rattle.pings.specs.declared.PingKind.{PingKind}
use Rattle.pings.specs.PingRead.{PingRead}
use Rattle.pings.specs.PingRead.{Read}
use Rattle.pings.specs.Headers.{told_length}
use Rattle.pings.specs.Readers.{samples_at, SamplesRead, AnglesRead}
use Rattle.pings.specs.Fields.{PingAt}
use Rattle.pings.specs.Views.{as_ping}
use Rattle.roundtrip.specs.Held.{InRange, U16, U32, I32}

-- ---- what the program's types give
-- a header of the program
abbrev pub HeaderTyped : PingHeader → Type 0
HeaderTyped h =
    U16 h.time_fraction × U32 h.time_cpu × U16 h.software_channel_identifier.0 × U16 h.transmitter_mode
    × U32 h.ping_number × I32 h.detected_bottom_range

-- signed numbers of w bytes
abbrev pub EachInt : ℕ → List ℤ → Type 0
EachInt w [] = Unit {0}
EachInt w (z ∷ zs) = InRange w z × EachInt w zs

-- header, attribute, sample numbers of k bytes and a family's values: an uncompressed kind's numbers are as wide as they are stored, a
-- compressed one's are u32
pub record PingTyped (f : Family) (k : ℕ) (h : PingHeader) (a : ℤ) (ns : List ℕ) (vs : List ℤ) : Type 0 where
  pub header : HeaderTyped h
  pub attribute : I32 a
  pub numbers : Below (256 ^ k) ns
  pub values : EachInt (handed_bytes f) vs

-- the same with two angles in the place of a value
pub record AnglesTyped (f : Family) (h : PingHeader) (a : ℤ) (ns : List ℕ) (xs ys : List ℤ) : Type 0 where
  pub header : HeaderTyped h
  pub attribute : I32 a
  pub numbers : Below (256 ^ number_bytes f) ns
  pub alongship : EachInt 2 xs
  pub athwartship : EachInt 2 ys

-- ---- what the rules ask
-- as many numbers as values, not too many, numbers that rise
pub record Listed (f : Family) (ns : List ℕ) (vs : List ℤ) : Type 0 where
  pub equal : length vs ≡ length ns
  pub few : length ns ≤ most
  pub rising : first_drop 0 (paired (handed_bytes f) ns vs) ≡ length ns

-- as many numbers as angles of either kind, not too many, numbers that rise
pub record AnglesListed (ns : List ℕ) (xs ys : List ℤ) : Type 0 where
  pub alongship : length xs ≡ length ns
  pub athwartship : length ys ≡ length ns
  pub few : length ns ≤ most
  pub rising : first_drop 0 (angled ns xs ys) ≡ length ns

-- every value has a word, a length ends in a quiet sample behind the last, there are samples or a length, and the words fit a tuple
pub record Worded (f : Family) (ns : List ℕ) (vs : List ℤ) (l : Option ℕ) : Type 0 where
  pub worded : first_wordless f (paired (handed_bytes f) ns vs) ≡ length ns
  pub long : too_short (paired (handed_bytes f) ns vs) l ≡ false
  pub some : eqb (length ns) 0 && not (has_length l) ≡ false
  pub short : 36 + value_bytes f * length (words_for f (paired (handed_bytes f) ns vs) l) ≤ 262144

-- ---- a place of a file, read by two readers
-- every outcome that the field reader's promise allows has this header, attribute, kind, number of values and length; every outcome that
-- the sample reader's promise allows has these samples, where the slices have room
pub record PingBack (f : Family) (h : PingHeader) (a : ℤ) (ns : List ℕ) (vs : List ℤ) (l : Option ℕ) (kind : PingKind) (file : List ℕ)
    (p : ℕ) : Type 0 where
  pub fields : (out : PingRead) → PingAt file p out → out ≡ Read h a kind (length ns) (told_length l)
  pub samples : samples_at file p ≡ paired (handed_bytes f) ns vs
  pub handed : (numbers ms : List ℕ) (values us : List ℤ) (r : Answer) → length ns ≤ length numbers → length ns ≤ length values
      → SamplesRead file p numbers values r ms us
      → (r ≡ accepting 1 (length ns)) × (ms ≡ ns ++ drop (length ns) numbers) × (us ≡ vs ++ drop (length ns) values)

-- the same of the angle reader's promise, and no length
pub record AnglesBack (h : PingHeader) (a : ℤ) (ns : List ℕ) (xs ys : List ℤ) (kind : PingKind) (file : List ℕ) (p : ℕ) : Type 0 where
  pub fields : (out : PingRead) → PingAt file p out → out ≡ Read h a kind (length ns) (told_length none)
  pub samples : samples_at file p ≡ angled ns xs ys
  pub handed : (numbers ms : List ℕ) (alongship athwartship us ws : List ℤ) (r : Answer) → length ns ≤ length numbers
      → length ns ≤ length alongship → length ns ≤ length athwartship → AnglesRead file p numbers alongship athwartship r ms us ws
      → (r ≡ accepting 1 (length ns)) × (ms ≡ ns ++ drop (length ns) numbers) × (us ≡ xs ++ drop (length ns) alongship)
      × (ws ≡ ys ++ drop (length ns) athwartship)

-- ---- the same of what the code hands back
abbrev pub Given : PingHeader → ℤ → PingKind → ℕ → Option ℕ → List ℕ → ℕ → Type 0
Given h a kind n l file p =
    (out : Result Ping Refusal) → PingAt file p (as_ping out)
    → out ≡ Ok (record { header = h; attribute = a; kind = kind; values = n; length = told_length l })

pub record PingGiven (h : PingHeader) (a : ℤ) (ns : List ℕ) (vs : List ℤ) (l : Option ℕ) (kind : PingKind) (file : List ℕ) (p : ℕ)
    : Type 0 where
  pub fields : Given h a kind (length ns) l file p
  pub handed : (numbers ms : List ℕ) (values us : List ℤ) (r : Result Counts Refusal) → length ns ≤ length numbers
      → length ns ≤ length values → SamplesRead file p numbers values (as_answer r) ms us
      → (r ≡ Ok (counts 1 (length ns))) × (ms ≡ ns ++ drop (length ns) numbers) × (us ≡ vs ++ drop (length ns) values)

pub record AnglesGiven (h : PingHeader) (a : ℤ) (ns : List ℕ) (xs ys : List ℤ) (kind : PingKind) (file : List ℕ) (p : ℕ) : Type 0 where
  pub fields : Given h a kind (length ns) none file p
  pub handed : (numbers ms : List ℕ) (alongship athwartship us ws : List ℤ) (r : Result Counts Refusal) → length ns ≤ length numbers
      → length ns ≤ length alongship → length ns ≤ length athwartship
      → AnglesRead file p numbers alongship athwartship (as_answer r) ms us ws
      → (r ≡ Ok (counts 1 (length ns))) × (ms ≡ ns ++ drop (length ns) numbers) × (us ≡ xs ++ drop (length ns) alongship)
      × (ws ≡ ys ++ drop (length ns) athwartship)
