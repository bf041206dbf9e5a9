-- The families of pings, and what differs between them. A ping is never turned into one of another family. Assumes nothing.
use Rattle.std.specs.Prelude.{ℕ, ◌+◌, ◌*◌, Bool, not, ◌&&◌, eqb, leb}

-- 32-bit pings; 16-bit pings; compressed and encoded ones; phase angles with sample numbers of four bytes, and of two
pub data Family : Type 0 where
  wide : Family
  narrow : Family
  encoded : Family
  wide_angles : Family
  narrow_angles : Family

-- ---- the type codes of a family's uncompressed and compressed kind; 0 where it has none
abbrev pub type_u : Family → ℕ
type_u wide = 10000
type_u narrow = 10030
type_u encoded = 0
type_u wide_angles = 10001
type_u narrow_angles = 10031

abbrev pub type_c : Family → ℕ
type_c wide = 10010
type_c narrow = 10040
type_c encoded = 10050
type_c wide_angles = 0
type_c narrow_angles = 0

abbrev pub has_u : Family → Bool
has_u f = not (eqb (type_u f) 0)

abbrev pub has_c : Family → Bool
has_c f = not (eqb (type_c f) 0)

-- ---- what differs between the families
-- an uncompressed kind's sample: the bytes of its number and of each of its values, and how many values it has; a compressed kind's
-- word: a value's bytes, two halves of this radix, the upper all ones in a run; the patterns outside the limits of a value, from the
-- first to the last
pub record Measures : Type 0 where
  pub number : ℕ
  pub value : ℕ
  pub values : ℕ
  pub radix : ℕ
  pub first : ℕ
  pub last : ℕ

abbrev measures : ℕ → ℕ → ℕ → ℕ → ℕ → ℕ → Measures
measures n v k r a b = record { number = n; value = v; values = k; radix = r; first = a; last = b }

-- one row for each family. C-32 holds -2147418112 to 2147418111, C-16 -32511 to 32511, CE-16 counts up to 507840. CE-16 has no
-- uncompressed kind and angles have no words, so that nothing asks for those entries of theirs
abbrev pub measures_of : Family → Measures
measures_of wide = measures 4 4 1 65536 0x7fff0000 0x8000ffff
measures_of narrow = measures 2 2 1 256 0x7f00 0x8100
measures_of encoded = measures 2 2 1 256 0x7f00 0x7fff
measures_of wide_angles = measures 4 2 2 256 0x7f00 0x7fff
measures_of narrow_angles = measures 2 2 2 256 0x7f00 0x7fff

abbrev pub number_bytes : Family → ℕ
number_bytes f = (measures_of f).number

abbrev pub value_bytes : Family → ℕ
value_bytes f = (measures_of f).value

abbrev pub value_count : Family → ℕ
value_count f = (measures_of f).values

abbrev pub sample_bytes : Family → ℕ
sample_bytes f = number_bytes f + value_count f * value_bytes f

abbrev pub radix_of : Family → ℕ
radix_of f = (measures_of f).radix

-- a pattern outside the limits of its family's values
unfoldable pub is_bad : Family → ℕ → Bool
is_bad f w = leb (measures_of f).first w && leb w (measures_of f).last
