-- Runs and values of a compressed ping, over the radix R of a word's halves: 65,536 for C-32, 256 for C-16 and CE-16. A word is a
-- number below R * R. Assumes nothing.
use Rattle.std.specs.Prelude.{ℕ, zero, suc, ◌+◌, ◌-◌, ◌*◌, ◌/◌, ◌%◌, Bool, true, false, List, [], ◌∷◌, ◌++◌, eqb, replicate}
use Rattle.std.proofs.Math.Option.{Option, some, none}
use Rattle.layout.specs.Families.{Family, wide, radix_of, is_bad}
use Rattle.samples.specs.Words.{Sample}

-- the radix of C-32: sixteen leading ones make a word a run
abbrev pub radix : ℕ
radix = radix_of wide

-- a word is a run where its upper half is all ones
unfoldable pub is_run : ℕ → ℕ → Bool
is_run R w = eqb (w / R) (R - 1)

-- a run's samples below threshold: the lower half + 1
unfoldable pub run_length : ℕ → ℕ → ℕ
run_length R w = w % R + 1

-- the samples of words, the first word standing at sample n
unfoldable pub decode_from : ℕ → ℕ → List ℕ → List Sample
decode_from R n [] = []
decode_from R n (w ∷ ws) =
    elim (is_run R w) [
      | true ↦ decode_from R (n + run_length R w) ws
      | false ↦ (n, w) ∷ decode_from R (n + 1) ws
    ]

-- sample numbers start at 0
abbrev pub decode : ℕ → List ℕ → List Sample
decode R ws = decode_from R 0 ws

-- ---- the length of a ping
-- how many samples words are, runs counted, n of them standing before
unfoldable pub samples_from : ℕ → ℕ → List ℕ → ℕ
samples_from R n [] = n
samples_from R n (w ∷ ws) =
    elim (is_run R w) [
      | true ↦ samples_from R (n + run_length R w) ws
      | false ↦ samples_from R (n + 1) ws
    ]

-- the last word is a run; where there is none, as the word before says
unfoldable pub ends_from : ℕ → Bool → List ℕ → Bool
ends_from R before [] = before
ends_from R before (w ∷ ws) = ends_from R (is_run R w) ws

-- a ping that ends in a run has its number of samples, runs counted, as its length; any other has none
unfoldable pub ping_length : ℕ → List ℕ → Option ℕ
ping_length R ws = elim (ends_from R false ws) [ true ↦ some (samples_from R 0 ws) | false ↦ none ]

-- ---- values
-- the number of value words, good or bad
unfoldable pub values : ℕ → List ℕ → ℕ
values R [] = 0
values R (w ∷ ws) = elim (is_run R w) [ true ↦ values R ws | false ↦ values R ws + 1 ]

-- the place among the words of the first bad one; as many as there are words where none is
unfoldable pub first_bad : Family → List ℕ → ℕ
first_bad f [] = 0
first_bad f (w ∷ ws) = elim (is_bad f w) [ true ↦ 0 | false ↦ first_bad f ws + 1 ]

-- ---- the fewest words
-- the word of a run of 1: longer ones count on from it
abbrev pub shortest_run : ℕ → ℕ
shortest_run R = (R - 1) * R

-- the last run of a gap: none, or the word of a run of r + 1
unfoldable pub last_run : ℕ → ℕ → List ℕ
last_run R zero = []
last_run R (suc r) = (shortest_run R + r) ∷ []

-- a gap of g samples: full runs first, the remainder last
unfoldable pub gap : ℕ → ℕ → List ℕ
gap R g = replicate (g / R) (shortest_run R + (R - 1)) ++ last_run R (g % R)

-- the words of samples, the next of which is sample n, with t samples below threshold behind the last value
unfoldable pub encode_from : ℕ → ℕ → List Sample → ℕ → List ℕ
encode_from R n [] t = gap R t
encode_from R n (x ∷ s) t = gap R (x.0 - n) ++ (x.1 ∷ encode_from R (x.0 + 1) s t)

-- the number behind the last sample's; n where there is none
unfoldable pub behind : ℕ → List Sample → ℕ
behind n [] = n
behind n (x ∷ s) = behind (x.0 + 1) s

-- the samples below threshold behind the last value, as many as a length says
abbrev pub quiet : List Sample → Option ℕ → ℕ
quiet s none = 0
quiet s (some n) = n - behind 0 s

-- the fewest words of samples and a length: without one, no run behind the last value
unfoldable pub fewest : ℕ → List Sample → Option ℕ → List ℕ
fewest R s l = encode_from R 0 s (quiet s l)
