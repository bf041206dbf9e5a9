-- What is told of a linked ping by its bytes, and what telling of all pings of a file wants. Assumes nothing.
use Rattle.std.specs.Prelude.{◌≡◌, ℕ, ◌≤◌, List, length}
use Rattle.layout.specs.declared.Counts.{Counts}
use Rattle.layout.specs.Answer.{Accepted}
use Rattle.layout.specs.Types.{shape_of}
use Rattle.intake.specs.Check.{check_file}
use Rattle.pings.specs.inner.Handing.{part_samples}
use Rattle.quantities.specs.inner.Codes.{family_of}
use Rattle.linked.specs.declared.Spot.{Spot}
use Rattle.linked.specs.Linked.{linked_of}
use Rattle.linked.specs.inner.Here.{part_at}
use Rattle.energy.specs.Echo.{Echo}
use Rattle.energy.specs.Energy.{echo_by}

-- of a ping, in a file that counts n
abbrev pub echo_here : List ℕ → Spot → Counts → Echo
echo_here f x n =
    echo_by x.at x.quantity (family_of x.code) (part_samples (shape_of x.code) x.msb (part_at f x.at x.whole)) n

-- of all: an accepted file that counts n, and room for each of its pings in three slices
pub record Roomy (f : List ℕ) (n : Counts) (places energies codes : ℕ) : Type 0 where
  pub accepted : check_file f ≡ Accepted n
  pub places_room : length (linked_of f) ≤ places
  pub energies_room : length (linked_of f) ≤ energies
  pub codes_room : length (linked_of f) ≤ codes
