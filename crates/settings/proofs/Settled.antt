-- Two outcomes that the promise of settings allows are one, with all three slices. Assumes nothing.
use mathlib.Core.Path.{◌≡◌}
use mathlib.Core.List.{List}
use Prim.Native.Nat.{ℕ}
use Rattle.std.specs.Prelude.{Result}
use Rattle.layout.specs.declared.Counts.{Counts}
use Rattle.layout.specs.declared.Refusal.{Refusal}
use Rattle.layout.specs.Views.{as_answer}
use Rattle.layout.proofs.Told.{same_answer}
use Rattle.settings.specs.Settings.{SettingsTold, settings-settled}

pub settings_told : {f ps ts bs : List ℕ} (r s : Result Counts Refusal) {p t a p' t' a' : List ℕ}
    → SettingsTold f ps ts bs (as_answer r) p t a → SettingsTold f ps ts bs (as_answer s) p' t' a'
    → (r ≡ s) × (p ≡ p') × (t ≡ t') × (a ≡ a')
settings_told r s x y = let e = settings-settled x y in (same_answer r s e.0, e.1, e.2, e.3)
