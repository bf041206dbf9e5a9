-- Files that differ in one compressed ping: in how its silence is cut, or in how long it is. Assumes nothing.
use Rattle.std.specs.Prelude.{◌≡◌, ℕ, Bool, List, ◌∷◌, ◌++◌}
use Rattle.std.proofs.Math.Option.{Option}
use Rattle.layout.specs.Families.{Family, type_c, radix_of}
use Rattle.layout.specs.Types.{ping_row}
use Rattle.turning.specs.Rows.{values_of}
use Rattle.frame.specs.Frames.{Tup, frames}
use Rattle.frame.specs.Files.{mark}
use Rattle.samples.specs.Runs.{ping_length}
use Rattle.samples.specs.Values.{samples_in}
use Rattle.content.specs.Pings.{words_in, attribute_in}

-- a family's compressed ping with these data, among other tuples, and a file of them in the byte order o
abbrev pub among : Family → List Tup → List ℕ → List Tup → List Tup
among p xs d ys = xs ++ (record { kind = type_c p; body = d } ∷ ys)

abbrev pub holding : Family → Bool → List Tup → List ℕ → List Tup → List ℕ
holding p o xs d ys = mark o ++ frames o (among p xs d ys)

-- the length that a ping's data say
abbrev pub length_in : Family → Bool → List ℕ → Option ℕ
length_in p o d = ping_length (radix_of p) (words_in p o d)

-- data that differ in the cutting of runs, and in the number of samples that they state, alone
pub record CutOtherwise (p : Family) (o : Bool) (d e : List ℕ) : Type 0 where
  pub header : values_of o ping_row d ≡ values_of o ping_row e
  pub samples : samples_in p (words_in p o d) ≡ samples_in p (words_in p o e)
  pub length : length_in p o d ≡ length_in p o e
  pub attribute : attribute_in o d ≡ attribute_in o e
