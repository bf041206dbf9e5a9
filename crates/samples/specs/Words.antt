-- The words of a compressed ping and the samples of an uncompressed one, in either byte order. Assumes nothing.
use Rattle.std.specs.Prelude.{ℕ, zero, suc, ◌+◌, ◌*◌, ◌/◌, ◌%◌, ◌^◌, ◌<◌, Bool, List, [], ◌∷◌, ◌++◌, length, take, drop, replicate}
use Rattle.order.specs.Order.{num_of, bytes_of}
use Rattle.layout.specs.Families.{Family, number_bytes, value_bytes, value_count, sample_bytes}

-- a sample: its number, and its value as an unsigned pattern; of an angle ping the pattern of both angles, alongship the lower
abbrev pub Sample : Type 0
Sample = ℕ × ℕ

-- ---- words
-- n words of k bytes
unfoldable pub words : ℕ → Bool → ℕ → List ℕ → List ℕ
words k o zero bs = []
words k o (suc n) bs = num_of o (take k bs) ∷ words k o n (drop k bs)

-- as many words of k bytes as there are
unfoldable pub all_words : ℕ → Bool → List ℕ → List ℕ
all_words k o bs = words k o (length bs / k) bs

-- the bytes of words
unfoldable pub unwords : ℕ → Bool → List ℕ → List ℕ
unwords k o [] = []
unwords k o (w ∷ ws) = bytes_of o k w ++ unwords k o ws

-- every one of these is below b
abbrev pub Below : ℕ → List ℕ → Type 0
Below b [] = Unit {0}
Below b (w ∷ ws) = (w < b) × Below b ws

-- ---- samples
-- k values of w bytes one behind another, as one pattern: the first is the lowest; and back
unfoldable pub joined : ℕ → ℕ → Bool → List ℕ → ℕ
joined w zero o bs = 0
joined w (suc k) o bs = num_of o (take w bs) + 256 ^ w * joined w k o (drop w bs)

unfoldable pub parted : ℕ → ℕ → Bool → ℕ → List ℕ
parted w zero o v = []
parted w (suc k) o v = bytes_of o w (v % 256 ^ w) ++ parted w k o (v / 256 ^ w)

-- a family's sample at the front of bytes, n of them, and as many as there are
abbrev pub sample_of : Family → Bool → List ℕ → Sample
sample_of f o bs = (num_of o (take (number_bytes f) bs), joined (value_bytes f) (value_count f) o (drop (number_bytes f) bs))

unfoldable pub samples : Family → Bool → ℕ → List ℕ → List Sample
samples f o zero bs = []
samples f o (suc n) bs = sample_of f o bs ∷ samples f o n (drop (sample_bytes f) bs)

unfoldable pub all_samples : Family → Bool → List ℕ → List Sample
all_samples f o bs = samples f o (length bs / sample_bytes f) bs

-- the bytes of samples
abbrev pub sample_back : Family → Bool → Sample → List ℕ
sample_back f o x = bytes_of o (number_bytes f) x.0 ++ parted (value_bytes f) (value_count f) o x.1

unfoldable pub unsampled : Family → Bool → List Sample → List ℕ
unsampled f o [] = []
unsampled f o (x ∷ s) = sample_back f o x ++ unsampled f o s

-- ---- a space of two bytes, 0, where the next field would not stand at a multiple of 4
unfoldable pub spaced : List ℕ → List ℕ
spaced bs = bs ++ replicate (length bs % 4) 0
