-- The double of a stored whole number over a divisor: the binary64 value nearest to the quotient, a tie to the even one. Assumes nothing.
use Rattle.std.specs.Prelude.{ℕ, suc, true, false, ℤ, pos, negsuc, Float}
use Rattle.std.specs.Float.{binary64}
use Rattle.std.specs.Float.Ieee.{round}

unfoldable pub double_of : ℤ → ℕ → Float
double_of (pos n) d = round binary64 false n d
double_of (negsuc n) d = round binary64 true (suc n) d
