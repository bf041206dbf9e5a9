-- The powers of ten that scale an entry, and the linear values of all levels from 0 dB down to -150 dB, a step apart. Assumes nothing.
use Rattle.std.specs.Prelude.{ℕ, zero, suc, ◌+◌, List, [], ◌∷◌}
use Rattle.linear.specs.Linear.{linear_at}

-- from the 0th to the eighth
unfoldable pub powers_of_ten : List ℕ
powers_of_ten = 1 ∷ 10 ∷ 100 ∷ 1000 ∷ 10000 ∷ 100000 ∷ 1000000 ∷ 10000000 ∷ 100000000 ∷ []

-- of n levels, the first s steps below 0 dB
unfoldable pub values_from : ℕ → ℕ → List ℕ
values_from zero s = []
values_from (suc n) s = linear_at s ∷ values_from n (s + 1)

unfoldable pub all_values : List ℕ
all_values = values_from 3001 0
