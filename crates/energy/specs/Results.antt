-- What energies mean: no sum that is told passes 64 bits, and pings of equal content, of channels with equal samples, have equal energies.
-- Assumes nothing.
use Rattle.std.specs.Prelude.{◌≡◌, ℕ, ◌^◌, ◌<◌, List}
use Rattle.layout.specs.declared.Counts.{Counts}
use Rattle.linked.specs.Linked.{Linked, sought, sought_at}
use Rattle.quantities.specs.Quantities.{quantity_of}
use Rattle.energy.specs.Echo.{Sum}
use Rattle.energy.specs.Energy.{energy_at, sum_in, code_in, EnergyTold}

pub record Energies : Type 0 where
  -- no sum that a call tells passes 64 bits
  pub most : (f : List ℕ) (p e : ℕ) (n : Counts) → EnergyTold f p (Sum e n) → e < 2 ^ 64
  -- a ping's energy and code hang on its content and on what its channel's samples are, not on how or where it is written down
  pub same : (f g : List ℕ) (p q : ℕ) (l m : Linked) (i j : Counts) → sought_at f p ≡ sought l i → sought_at g q ≡ sought m j
      → l.ping ≡ m.ping
      → quantity_of l.channel ≡ quantity_of m.channel
      → (sum_in (energy_at f p) ≡ sum_in (energy_at g q)) × (code_in (energy_at f p) ≡ code_in (energy_at g q))
