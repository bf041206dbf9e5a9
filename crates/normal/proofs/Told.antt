-- Two outcomes that the promise of a normaliser allows are one, with the memory that it leaves. Assumes nothing.
use mathlib.Core.Path.{◌≡◌}
use mathlib.Core.List.{List}
use Prim.Native.Nat.{ℕ}
use Rattle.std.specs.Prelude.{Result}
use Rattle.layout.specs.declared.Counts.{Counts}
use Rattle.layout.specs.declared.Refusal.{Refusal}
use Rattle.layout.specs.Views.{as_answer}
use Rattle.layout.proofs.Told.{same_beside}
use Rattle.normal.specs.Normaliser.{Normalised, normalised-settled}
use Rattle.normal.specs.Single.{NormalisedTuple, single_settled}

pub normalised_told : {f out : List ℕ} (r s : Result Counts Refusal) {left kept : List ℕ} → Normalised f out (as_answer r) left
    → Normalised f out (as_answer s) kept → (r ≡ s) × (left ≡ kept)
normalised_told r s p q = same_beside r s (normalised-settled p q)

pub single_told : {f out : List ℕ} (r s : Result Counts Refusal) {left kept : List ℕ} → NormalisedTuple f out (as_answer r) left
    → NormalisedTuple f out (as_answer s) kept → (r ≡ s) × (left ≡ kept)
single_told r s p q = same_beside r s (single_settled p q)
