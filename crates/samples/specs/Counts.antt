-- The words that stand for a CE-16 count. Assumes nothing.
use Rattle.std.specs.Prelude.{◌≡◌, false, ℕ, ◌<◌, ℤ}
use Rattle.layout.specs.Families.{encoded, radix_of, is_bad}
use Rattle.samples.specs.Runs.{is_run}
use Rattle.samples.specs.Values.{count_of}

-- two bytes that are no run, within the limits, of this count
pub record CountWord (count : ℤ) (w : ℕ) : Type 0 where
  pub fits : w < 65536
  pub value : is_run (radix_of encoded) w ≡ false
  pub inside : is_bad encoded w ≡ false
  pub says : count_of w ≡ count

-- the largest amount within the limits
abbrev pub most_count : ℕ
most_count = 507840
