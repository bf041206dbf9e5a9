-- The families of values of two bytes as the code tells them apart. Assumes nothing.
use Rattle.std.specs.Prelude.{ℕ, ◌≤◌, Bool, true, false, cond, List, eqb, ℤ, length}
use Rattle.layout.specs.Families.{Family, narrow, encoded, narrow_angles}
use Rattle.samples.specs.Words.{Sample}

-- uncompressed: with angles, or with one value
abbrev pub plain_by : Bool → Family
plain_by true = narrow_angles
plain_by false = narrow

-- compressed: encoded, or not
abbrev pub words_by : Bool → Family
words_by true = encoded
words_by false = narrow

-- a word within the limits as it is written: 8000, CE-16's second spelling of 0, as 0
abbrev pub respelled : ℕ → ℕ
respelled w = cond (eqb w 32768) 0 w

-- three slices hold as many as there are samples
pub record AngleRoom (s : List Sample) (numbers : List ℕ) (alongship athwartship : List ℤ) : Type 0 where
  pub for_numbers : length s ≤ length numbers
  pub for_alongship : length s ≤ length alongship
  pub for_athwartship : length s ≤ length athwartship
