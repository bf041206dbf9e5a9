-- What linear values are worth: the table's rule, what stepping down does, and that a louder sample never gives less. Assumes nothing.
use Rattle.std.specs.Prelude.{◌≡◌, ℕ, ◌+◌, ◌*◌, ◌^◌, ◌≤◌, ◌<◌, true, List, ℤ, length, get_or}
use Rattle.std.specs.Int.Signed.{le_z}
use Rattle.layout.specs.Families.{Family}
use Rattle.linear.specs.Roots.{roots, Largest}
use Rattle.linear.specs.Linear.{steps_of, tens_of, rest_of, is_inside, linear_of, first_outside, total}

-- a level d below 0 dB, in millionths, stepped down: -10 m dB + k times 0.05 dB lies at it or below it, by less than one step
pub record Stepped (d : ℕ) : Type 0 where
  pub rest : rest_of (steps_of d) < 200
  pub down : d + 50000 * rest_of (steps_of d) ≤ 10000000 * tens_of (steps_of d)
  pub next : 10000000 * tens_of (steps_of d) < d + 50000 * (rest_of (steps_of d) + 1)

pub record Linears : Type 0 where
  -- the table has 200 entries, each the largest whole number whose 200th power is at most 10 to the (k + 1200)
  pub entries : length roots ≡ 200
  pub rule : (k : ℕ) → k < 200 → Largest k (get_or roots k 0)
  pub stepped : (d : ℕ) → Stepped d
  -- a louder sample never gives less, over the stored values of every kind
  pub louder : (f : Family) (v w : ℤ) → is_inside f v ≡ true → is_inside f w ≡ true → le_z v w ≡ true → linear_of f v ≤ linear_of f w
  -- none gives more than 10 ^ 14 units, so that the sum of a ping's values, 32,764 at most, stays within 64 bits
  pub most : (f : Family) (v : ℤ) → is_inside f v ≡ true → linear_of f v ≤ 10 ^ 14
  pub within : (f : Family) (vs : List ℤ) → first_outside f vs ≡ length vs → length vs ≤ 32764 → total f vs < 2 ^ 64
