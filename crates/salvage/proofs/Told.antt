-- What the salvage hands back is settled by what the view says of it, and so by its promise. Assumes nothing.
use mathlib.Core.Path.{◌≡◌, refl, ap}
use mathlib.Core.List.{List}
use Prim.Native.Nat.{ℕ}
use Rattle.std.specs.Prelude.{Result, Ok, Err}
use Rattle.layout.specs.declared.Refusal.{Refusal}
use Rattle.layout.proofs.Told.{refusal_by, refusal_back, same_seen}
use Rattle.salvage.specs.declared.Saved.{Saved}
use Rattle.salvage.specs.Outcome.{Outcome, Refused}
use Rattle.salvage.specs.Outcome
use Rattle.salvage.specs.Views.{as_outcome}
use Rattle.salvage.specs.Salvage.{Salvaged, salvaged-settled}

abbrev saved_by : Outcome → Result Saved Refusal
saved_by (Outcome.Saved k t n) = Ok (record { ranges = k; tried = t; counts = n })
saved_by (Refused c p) = Err (refusal_by c p)

saved_back : (r : Result Saved Refusal) → saved_by (as_outcome r) ≡ r
saved_back (Ok s) = refl
saved_back (Err r) = ap Err (refusal_back r)

pub same_outcome : (r s : Result Saved Refusal) → as_outcome r ≡ as_outcome s → r ≡ s
same_outcome = same_seen as_outcome saved_by saved_back

-- two outcomes that the promise allows are one, with both memories
pub salvaged_told : {f out table : List ℕ} (r s : Result Saved Refusal) {left kept told said : List ℕ}
    → Salvaged f out table (as_outcome r) left told → Salvaged f out table (as_outcome s) kept said
    → (r ≡ s) × (left ≡ kept) × (told ≡ said)
salvaged_told r s a b = let e = salvaged-settled a b in (same_outcome r s e.0, e.1, e.2)
