-- Two outcomes that the promise of an edit allows are one, with the memory that it leaves. Assumes nothing.
use mathlib.Core.Path.{◌≡◌}
use mathlib.Core.List.{List}
use Prim.Native.Nat.{ℕ}
use Rattle.std.specs.Prelude.{Result}
use Rattle.layout.specs.declared.Counts.{Counts}
use Rattle.layout.specs.declared.Refusal.{Refusal}
use Rattle.layout.specs.Views.{as_answer}
use Rattle.layout.proofs.Told.{same_beside}
use Rattle.edits.specs.Edits.{Indexed, Appended, Removed, indexed-settled, appended-settled, removed-settled}

module _ (f out : List ℕ) (r s : Result Counts Refusal) {left kept : List ℕ} where
  pub indexed_told : Indexed f out (as_answer r) left → Indexed f out (as_answer s) kept → (r ≡ s) × (left ≡ kept)
  indexed_told p q = same_beside r s (indexed-settled f out p q)

  pub appended_told : (bytes : List ℕ) → Appended f bytes out (as_answer r) left → Appended f bytes out (as_answer s) kept
      → (r ≡ s) × (left ≡ kept)
  appended_told bytes p q = same_beside r s (appended-settled f bytes out p q)

  pub removed_told : (at : ℕ) → Removed f at out (as_answer r) left → Removed f at out (as_answer s) kept → (r ≡ s) × (left ≡ kept)
  removed_told at p q = same_beside r s (removed-settled f at out p q)
