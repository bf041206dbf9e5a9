-- Two outcomes that the promise of readings allows are one, with both slices, and two of a page, with its readings. Assumes nothing.
use mathlib.Core.Path.{◌≡◌, sym, ◌∙◌}
use mathlib.Core.List.{List}
use Prim.Native.Nat.{ℕ}
use Rattle.std.specs.Prelude.{Result, Float}
use Rattle.layout.specs.declared.Counts.{Counts}
use Rattle.layout.specs.declared.Refusal.{Refusal}
use Rattle.layout.specs.Views.{as_answer}
use Rattle.layout.proofs.Told.{same_answer}
use Rattle.readings.specs.declared.Page.{Page}
use Rattle.readings.specs.Readings.{ReadingsTold, readings-settled, PageTold}

pub readings_told : {f : List ℕ} {p first : ℕ} {cs : List ℕ} {ds : List Float} (r s : Result Counts Refusal) {x y : List ℕ}
    {u v : List Float} → ReadingsTold f p first cs ds (as_answer r) x u → ReadingsTold f p first cs ds (as_answer s) y v
    → (r ≡ s) × (x ≡ y) × (u ≡ v)
readings_told r s a b = let e = readings-settled a b in (same_answer r s e.0, e.1, e.2)

pub page_settled : {f : List ℕ} {p first : ℕ} {r s : Page} → PageTold f p first r → PageTold f p first s
    → (r.answer ≡ s.answer) × (r.readings ≡ s.readings)
page_settled {r = r} {s = s} a b = (same_answer r.answer s.answer (a.answer.is ∙ sym b.answer.is), a.readings ∙ sym b.readings)
