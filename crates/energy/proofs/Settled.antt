-- What the energy of a ping, or of all, hands back is settled by what the views say of it, and so by the promises. Assumes nothing.
use mathlib.Core.Path.{◌≡◌, refl, ap}
use mathlib.Core.List.{List}
use Prim.Native.Nat.{ℕ}
use Rattle.std.specs.Prelude.{Result, Ok, Err}
use Rattle.layout.specs.declared.Counts.{Counts}
use Rattle.layout.specs.declared.Refusal.{Refusal}
use Rattle.layout.specs.Views.{as_answer}
use Rattle.layout.proofs.Told.{refusal_by, refusal_back, same_seen, same_answer}
use Rattle.energy.specs.declared.Told.{Told}
use Rattle.energy.specs.Echo.{Echo, Sum, Refused}
use Rattle.energy.specs.Views.{as_echo}
use Rattle.energy.specs.Energy.{EnergyTold, EnergiesTold, energy-settled, energies-settled}

abbrev echo_told_by : Echo → Result Told Refusal
echo_told_by (Sum e n) = Ok (record { units = e; counts = n })
echo_told_by (Refused c p) = Err (refusal_by c p)

echo_back : (r : Result Told Refusal) → echo_told_by (as_echo r) ≡ r
echo_back (Ok e) = refl
echo_back (Err r) = ap Err (refusal_back r)

pub same_echo : (r s : Result Told Refusal) → as_echo r ≡ as_echo s → r ≡ s
same_echo = same_seen as_echo echo_told_by echo_back

-- ---- two outcomes that a promise allows are one, with the memory that it leaves
pub energy_told : (f : List ℕ) (p : ℕ) (r t : Result Told Refusal) → EnergyTold f p (as_echo r) → EnergyTold f p (as_echo t) → r ≡ t
energy_told f p r t a b = same_echo r t (energy-settled f p a b)

pub energies_told : {f ps es cs : List ℕ} (r s : Result Counts Refusal) {p e c p' e' c' : List ℕ}
    → EnergiesTold f ps es cs (as_answer r) p e c → EnergiesTold f ps es cs (as_answer s) p' e' c'
    → (r ≡ s) × (p ≡ p') × (e ≡ e') × (c ≡ c')
energies_told r s a b = let e = energies-settled a b in (same_answer r s e.0, e.1, e.2, e.3)
