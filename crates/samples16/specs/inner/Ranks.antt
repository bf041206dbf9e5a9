-- What the code compares in the place of sample numbers. Assumes nothing.
use Rattle.std.specs.Prelude.{ℕ, ◌+◌, ◌*◌, ◌/◌, Bool, true, false}

-- a number that rises with the sample number n: in MSB order n with its upper byte once more behind it, in LSB order n itself
abbrev pub rank_of : Bool → ℕ → ℕ
rank_of true n = 256 * n + n / 256
rank_of false n = n
