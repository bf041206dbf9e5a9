-- Sums as the code makes them: a value after the other, up to the first outside. Assumes nothing.
use Rattle.std.specs.Prelude.{ℕ, ◌+◌, true, false, List, [], ◌∷◌, ℤ}
use Rattle.layout.specs.Families.{Family}
use Rattle.std.specs.Prelude.{Result, Ok, Err}
use Rattle.linear.specs.Linear.{is_inside, linear_of}

-- behind i values that make a sum
unfoldable pub summed_from : Family → List ℤ → ℕ → ℕ → Result ℕ ℕ
summed_from f [] i sum = Ok sum
summed_from f (v ∷ vs) i sum = elim (is_inside f v) [ true ↦ summed_from f vs (i + 1) (sum + linear_of f v) | false ↦ Err i ]

abbrev pub summed_of : Family → List ℤ → Result ℕ ℕ
summed_of f vs = summed_from f vs 0 0
