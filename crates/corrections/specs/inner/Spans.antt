-- What the code carries between its steps: a span of a file, and a part that lies in the file that it is from. Assumes nothing.
use Rattle.std.specs.Prelude.{ℕ, ◌+◌, ◌≤◌, List, length}
use Rattle.corrections.specs.Found.{Found}
use Rattle.corrections.specs.Found.{Corrected, Deposited, Refused}
use Rattle.corrections.specs.Spot.{Spot}
use Rattle.corrections.specs.Spot.{At, Nowhere}

abbrev pub Inside : List ℕ → Spot → Type 0
Inside f (At a m) = a + m ≤ length f
Inside f Nowhere = Unit {0}

abbrev pub Within : List ℕ → List ℕ → Found → Type 0
Within d k (Corrected a m) = a + m ≤ length k
Within d k (Deposited a m) = a + m ≤ length d
Within d k (Refused mark x p) = Unit {0}
