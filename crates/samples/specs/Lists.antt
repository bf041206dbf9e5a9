-- Samples handed over apart: sample numbers, and signed values of w bytes, or two angles. Assumes nothing.
use Rattle.std.specs.Prelude.{ℕ, ◌+◌, ◌*◌, ◌/◌, ◌%◌, List, [], ◌∷◌, map, ℤ}
use Rattle.order.specs.Order.{signed_of, pattern_of}
use Rattle.layout.specs.Families.{Family, wide, narrow, encoded, wide_angles, narrow_angles}
use Rattle.samples.specs.Words.{Sample}

-- the bytes of a value as it is handed over: CE-16 speaks in counts of four bytes
abbrev pub handed_bytes : Family → ℕ
handed_bytes wide = 4
handed_bytes narrow = 2
handed_bytes encoded = 4
handed_bytes wide_angles = 2
handed_bytes narrow_angles = 2

-- one entry for each sample
abbrev pub numbers_of : List Sample → List ℕ
numbers_of s = map (λ (x : Sample). x.0) s

abbrev pub values_of : ℕ → List Sample → List ℤ
values_of w s = map (λ (x : Sample). signed_of w x.1) s

-- and back
abbrev pub paired : ℕ → List ℕ → List ℤ → List Sample
paired w [] vs = []
paired w (n ∷ ns) [] = []
paired w (n ∷ ns) (v ∷ vs) = (n, pattern_of w v) ∷ paired w ns vs

-- the two angles of each sample, alongship and athwartship; and back
abbrev pub alongship_of : List Sample → List ℤ
alongship_of s = map (λ (x : Sample). signed_of 2 (x.1 % 65536)) s

abbrev pub athwartship_of : List Sample → List ℤ
athwartship_of s = map (λ (x : Sample). signed_of 2 (x.1 / 65536)) s

abbrev pub angled : List ℕ → List ℤ → List ℤ → List Sample
angled [] xs ys = []
angled (n ∷ ns) [] ys = []
angled (n ∷ ns) (x ∷ xs) [] = []
angled (n ∷ ns) (x ∷ xs) (y ∷ ys) = (n, pattern_of 2 x + 65536 * pattern_of 2 y) ∷ angled ns xs ys
