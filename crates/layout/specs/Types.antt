-- The type codes: classes; the listed types, with their lengths, their rows and what they say to other tuples. Assumes nothing.
use Rattle.std.specs.Prelude.{ℕ, ◌+◌, ◌-◌, ◌*◌, ◌%◌, Bool, true, false, cond, ◌&&◌, ◌||◌, List, [], ◌∷◌, leb, eqb, get_or}
use Rattle.std.proofs.Math.Option.{Option, some, none}
use Rattle.layout.specs.Fields.{Field, u, s, c, z, ident, size}
use Rattle.layout.specs.Families.{Family, wide, narrow, encoded, wide_angles, narrow_angles, sample_bytes}
use Rattle.layout.specs.declared.Maker.{Maker}
use Rattle.layout.specs.declared.Maker.TheVariants.{Biosonics, Simrad}
use Rattle.layout.specs.declared.Says.{Says}
use Rattle.layout.specs.declared.Says.TheVariants.{Nothing, Sounder, Channel, Names, NamesOrAll}

-- ---- classes by type code: position, sounder, channel, ping, index
unfoldable pub classes : List (List ℕ)
classes = (20 ∷ 29 ∷ []) ∷ (100 ∷ 999 ∷ []) ∷ (1000 ∷ 9999 ∷ []) ∷ (10000 ∷ 10099 ∷ []) ∷ (65406 ∷ 65515 ∷ []) ∷ []

abbrev pub position : ℕ
position = 0

abbrev pub sounder : ℕ
sounder = 1

abbrev pub channel : ℕ
channel = 2

abbrev pub ping : ℕ
ping = 3

abbrev pub index : ℕ
index = 4

-- a type code is of a class: it lies within the bounds
unfoldable pub in_class : ℕ → ℕ → Bool
in_class class k = let bounds = get_or classes class [] in leb (get_or bounds 0 0) k && leb k (get_or bounds 1 0)

-- ---- lengths
-- one length; the least length, and by what step it may be longer, or with some bytes more; any length
pub data Length : Type 0 where
  exactly : ℕ → Length
  upward : ℕ → ℕ → Length
  upward_or : ℕ → ℕ → ℕ → Length
  free : Length

abbrev pub fitting : Length → ℕ → Bool
fitting (exactly n) m = eqb m n
fitting (upward least step) m = leb least m && eqb ((m - least) % step) 0
fitting (upward_or least step more) m = leb least m && (eqb ((m - least) % step) 0 || eqb ((m - least) % step) more)
fitting free m = true

-- ---- shapes
-- what the data of a type hold before the attribute: fields, then characters where `some` says how many at least; the header and the
-- samples of a family's uncompressed ping; the header, number of samples and words of its compressed one
pub data Shape : Type 0 where
  indexed : Shape
  row : List Field → Option ℕ → Shape
  uncompressed : Family → Shape
  compressed : Family → Shape
  unlisted : Shape

-- the header of every ping
abbrev pub ping_row : List Field
ping_row = u 2 ∷ u 4 ∷ u 2 ∷ u 2 ∷ u 4 ∷ s 4 ∷ []

-- ---- makers: of echosounder 100 and channel 1000 Biosonics, of 200 and 2000 Simrad
abbrev pub same_maker : Maker → Maker → Bool
same_maker Biosonics Biosonics = true
same_maker Biosonics Simrad = false
same_maker Simrad Biosonics = false
same_maker Simrad Simrad = true

-- ---- listed types
-- what is listed of a type: its lengths, its shape, and what its tuples say to the others
pub record Listing : Type 0 where
  pub length : Length
  pub shape : Shape
  pub says : Says

abbrev pub listing : Length → Shape → Says → Listing
listing n h a = record { length = n; shape = h; says = a }

-- an entry of the list: a type's code, and what is listed of it
pub record Entry : Type 0 where
  pub code : ℕ
  pub listing : Listing

abbrev pub entry : ℕ → Length → Shape → Says → Entry
entry k n h a = record { code = k; listing = listing n h a }

-- the one list: signature, both makers' echosounders and channels, position, navigation, attitude, threshold, event marker, the 32-bit
-- pings, start and end of run, end of file; the other pings. One row for each type, each row the widths in order
unfoldable pub listings : List Entry
listings =
    entry 65535 (exactly 24) (row (ident ∷ u 2 ∷ u 2 ∷ u 4 ∷ []) none) Nothing
    ∷ entry 100 (exactly 72)
    (row (u 2 ∷ u 4 ∷ u 2 ∷ u 2 ∷ s 2 ∷ u 2 ∷ s 2 ∷ u 2 ∷ u 2 ∷ s 2 ∷ u 2 ∷ u 2 ∷ c 30 ∷ z 2 ∷ []) none) (Sounder Biosonics)
    ∷ entry 200 (exactly 80)
    (row (u 2 ∷ u 4 ∷ u 2 ∷ u 2 ∷ u 2 ∷ u 2 ∷ u 2 ∷ u 2 ∷ u 2 ∷ u 2 ∷ u 2 ∷ s 4 ∷ u 2 ∷ s 2 ∷ u 4 ∷ c 30 ∷ []) none) (Sounder Simrad)
    ∷ entry 1000 (exactly 108)
    (row
    (u 2 ∷ u 4 ∷ u 4 ∷ u 2 ∷ u 2 ∷ u 2 ∷ z 2 ∷ u 4 ∷ u 4 ∷ s 2 ∷ s 2 ∷ s 2 ∷ s 2 ∷ u 2 ∷ u 2 ∷ u 2 ∷ u 2 ∷ u 2 ∷ u 2 ∷ u 2 ∷ s 2 ∷ s 2 ∷ s 2
    ∷ u 4 ∷ u 4 ∷ c 30 ∷ z 2 ∷ [])
    none) (Channel Biosonics)
    ∷ entry 2000 (exactly 108)
    (row
    (u 2 ∷ u 4 ∷ u 4 ∷ u 2 ∷ u 2 ∷ u 4 ∷ u 4 ∷ s 2 ∷ s 2 ∷ s 2 ∷ s 2 ∷ u 2 ∷ u 2 ∷ u 2 ∷ u 2 ∷ u 2 ∷ u 2 ∷ u 2 ∷ u 2 ∷ s 2 ∷ u 2 ∷ s 2 ∷ z 2
    ∷ u 4 ∷ u 4 ∷ c 30 ∷ z 2 ∷ [])
    none) (Channel Simrad)
    ∷ entry 20 (exactly 36) (row (s 2 ∷ u 4 ∷ u 4 ∷ u 2 ∷ z 2 ∷ s 4 ∷ s 4 ∷ []) none) Nothing
    ∷ entry 30 (exactly 28) (row (u 2 ∷ u 4 ∷ u 2 ∷ s 2 ∷ u 2 ∷ z 2 ∷ []) none) Nothing
    ∷ entry 40 (exactly 36) (row (u 2 ∷ u 4 ∷ u 2 ∷ u 2 ∷ s 2 ∷ s 2 ∷ s 2 ∷ s 2 ∷ s 2 ∷ z 2 ∷ []) none) NamesOrAll
    ∷ entry 10100 (exactly 44) (row (u 2 ∷ u 4 ∷ u 2 ∷ u 2 ∷ u 2 ∷ u 2 ∷ u 2 ∷ u 2 ∷ u 4 ∷ u 4 ∷ u 4 ∷ []) none) Names
    ∷ entry 10110 (upward 24 4) (row (u 2 ∷ u 4 ∷ []) (some 4)) Nothing
    ∷ entry 10000 (upward 40 8) (uncompressed wide) Names
    ∷ entry 10010 (upward 40 4) (compressed wide) Names
    ∷ entry 65516 (exactly 20) (row (u 2 ∷ u 4 ∷ []) none) Nothing
    ∷ entry 65517 (exactly 20) (row (u 2 ∷ u 4 ∷ []) none) Nothing
    ∷ entry 65534 (upward 24 4) (row (u 2 ∷ u 4 ∷ u 2 ∷ []) (some 2)) Nothing
    ∷ entry 10001 (upward 40 8) (uncompressed wide_angles) Names
    ∷ entry 10030 (upward 36 4) (uncompressed narrow) Names
    ∷ entry 10031 (upward_or 40 12 4) (uncompressed narrow_angles) Names
    ∷ entry 10040 (upward 40 4) (compressed narrow) Names
    ∷ entry 10050 (upward 40 4) (compressed encoded) Names
    ∷ []

-- how many they are
abbrev pub listed : ℕ
listed = 20

-- the others, of the index class and not
abbrev pub not_listed : Bool → Listing
not_listed true = listing free indexed Nothing
not_listed false = listing free unlisted Nothing

-- what some types say of a code; d where none has it
unfoldable pub among : ℕ → List Entry → Listing → Listing
among k [] d = d
among k (l ∷ ls) d = cond (eqb k l.code) l.listing (among k ls d)

-- what a type code stands for
unfoldable pub listing_of : ℕ → Listing
listing_of k = among k listings (not_listed (in_class index k))

-- its own parts
abbrev pub shape_of : ℕ → Shape
shape_of k = (listing_of k).shape

abbrev pub lengths_of : ℕ → Length
lengths_of k = (listing_of k).length

abbrev pub says_of : ℕ → Says
says_of k = (listing_of k).says

-- a listed ping is of a type that has samples
abbrev pub has_samples : Shape → Bool
has_samples indexed = false
has_samples (row fs x) = false
has_samples (uncompressed f) = true
has_samples (compressed f) = true
has_samples unlisted = false

unfoldable pub is_ping : ℕ → Bool
is_ping k = has_samples (shape_of k)

-- ---- lengths by shapes
-- the lengths of an uncompressed ping: one sample at least; where samples leave no multiple of 4, an odd number of them has a space of two
-- bytes behind it
abbrev pub lengths_u : Family → Length
lengths_u f =
    let b = sample_bytes f in
    let frame = size ping_row + 14 in
    cond (eqb (b % 4) 0) (upward (frame + b) b) (upward_or (frame + b + 2) (2 * b) (b - 2))

-- the lengths of a shape: size, type, fields, attribute and backlink; and the characters, the samples or the words, one at least
abbrev pub length_from : Shape → Length
length_from indexed = free
length_from (row fs none) = exactly (size fs + 14)
length_from (row fs (some n)) = upward (size fs + 14 + n) 4
length_from (uncompressed f) = lengths_u f
length_from (compressed f) = upward (size ping_row + 4 + 14 + 4) 4
length_from unlisted = free

-- the least length, and by what step it may be longer: 0 for a type of one length; and how many bytes more it may be, 0 where none
abbrev pub least_of : Length → ℕ
least_of (exactly n) = n
least_of (upward n step) = n
least_of (upward_or n step more) = n
least_of free = 0

abbrev pub step_of : Length → ℕ
step_of (exactly n) = 0
step_of (upward n step) = step
step_of (upward_or n step more) = step
step_of free = 0

abbrev pub more_of : Length → ℕ
more_of (exactly n) = 0
more_of (upward n step) = 0
more_of (upward_or n step more) = more
more_of free = 0
