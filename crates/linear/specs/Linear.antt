-- The linear value of a stored value, in units of 10 ^ -14. Levels are told by how far they lie below 0 dB, in millionths of a decibel.
-- Assumes nothing.
use Rattle.std.specs.Prelude.{ℕ, suc, ◌+◌, ◌-◌, ◌*◌, ◌/◌, ◌^◌, Bool, true, false, ◌&&◌, List, [], ◌∷◌, leb, get_or, ℤ, pos, negsuc}
use Rattle.std.specs.Int.Signed.{le_z}
use Rattle.layout.specs.Families.{Family}
use Rattle.quantities.specs.Quantities.{per_decibel}
use Rattle.linear.specs.Roots.{roots}

-- ---- of a level
-- it is stepped down to the next multiple of 0.05 dB, and a multiple stays: so many steps below 0 dB
abbrev pub steps_of : ℕ → ℕ
steps_of d = (d + 49999) / 50000

-- s steps below 0 dB are -10 m dB + k times 0.05 dB, with k from 0 to 199: m and k
abbrev pub tens_of : ℕ → ℕ
tens_of s = (s + 199) / 200

abbrev pub rest_of : ℕ → ℕ
rest_of s = 200 * tens_of s - s

-- the entry times 10 ^ (8 - m), or for m above 8 the entry divided by 10 ^ (m - 8), rounded down
unfoldable pub scaled : ℕ → ℕ → ℕ
scaled t m = elim (leb m 8) [ true ↦ t * 10 ^ (8 - m) | false ↦ t / 10 ^ (m - 8) ]

unfoldable pub linear_at : ℕ → ℕ
linear_at s = scaled (get_or roots (rest_of s) 0) (tens_of s)

abbrev pub linear_below : ℕ → ℕ
linear_below d = linear_at (steps_of d)

-- ---- of a value that a ping of a family stores
-- its unit in millionths of a decibel, and how far it lies below 0 dB
abbrev pub millionths : Family → ℕ
millionths f = 1000000 / per_decibel f

abbrev pub negated : ℤ → ℕ
negated (pos n) = 0
negated (negsuc n) = suc n

abbrev pub depth_of : Family → ℤ → ℕ
depth_of f v = negated v * millionths f

-- from -150 dB to 0 dB
unfoldable pub is_inside : Family → ℤ → Bool
is_inside f v = le_z v (pos 0) && leb (depth_of f v) 150000000

unfoldable pub linear_of : Family → ℤ → ℕ
linear_of f v = linear_below (depth_of f v)

-- ---- of a list of values
-- the place in the list of the first value outside; the list's length where none is
unfoldable pub first_outside : Family → List ℤ → ℕ
first_outside f [] = 0
first_outside f (v ∷ vs) = elim (is_inside f v) [ true ↦ first_outside f vs + 1 | false ↦ 0 ]

-- all of them added
unfoldable pub total : Family → List ℤ → ℕ
total f [] = 0
total f (v ∷ vs) = linear_of f v + total f vs
