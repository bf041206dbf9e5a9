-- What readings mean, proved: one rounding, volts and decibels never mixed, silence where the ping holds nothing. Assumes nothing.
use mathlib.Core.Path.{◌≡◌, refl, sym, ap, ◌∙◌}
use mathlib.Core.Logic.{◌↔◌}
use mathlib.Core.List.{List}
use mathlib.Core.Option.{Option, some}
use Prim.Native.Nat.{ℕ, zero, suc}
use Rattle.layout.specs.Families.{Family}
use Rattle.samples.specs.Words.{Sample}
use Rattle.quantities.specs.declared.Quantity.{Quantity}
use Rattle.quantities.specs.declared.Quantity.TheVariants.{Volts, Sv, Ts, Other}
use Rattle.readings.specs.Reading.{case_in}
use Rattle.readings.specs.Readings.{value_at, reading_by, reading_at}
use Rattle.readings.specs.Results.{Readings}
use Rattle.readings.proofs.Doubles.{one_rounding}
use Rattle.readings.proofs.Windows.{window, nth}

-- the case of a reading that isn't silent, by what the samples are; and back
abbrev case_for : Quantity → ℕ
case_for Volts = 1
case_for Sv = 2
case_for Ts = 3
case_for Other = 0

abbrev quantity_for : ℕ → Quantity
quantity_for zero = Other
quantity_for (suc zero) = Volts
quantity_for (suc (suc zero)) = Sv
quantity_for (suc (suc (suc n))) = Ts

found-again : (x : Quantity) → quantity_for (case_for x) ≡ x
found-again Volts = refl
found-again Sv = refl
found-again Ts = refl
found-again Other = refl

case_of_value : (x : Quantity) (f : Family) (v : ℕ) → case_in (reading_by x f (some v)) ≡ case_for x
case_of_value Volts f v = refl
case_of_value Sv f v = refl
case_of_value Ts f v = refl
case_of_value Other f v = refl

-- so it is the case of y exactly where the samples are y
case_tells : (y x : Quantity) (f : Family) (s : List Sample) (i v : ℕ) → value_at i s ≡ some v
    → (case_in (reading_at x f s i) ≡ case_for y) ↔ (x ≡ y)
case_tells y x f s i v h =
    let e = ap (λ (o : Option ℕ). case_in (reading_by x f o)) h ∙ case_of_value x f v in (
      λ c. sym (found-again x) ∙ ap quantity_for (sym e ∙ c) ∙ found-again y,
      λ c. e ∙ ap case_for c,
    )

pub readings : Readings
readings =
    record {
      one_rounding = one_rounding;
      window = window;
      nth = nth;
      silent = λ x f s i e. ap (reading_by x f) e;
      volts = case_tells Volts;
      sv = case_tells Sv;
      ts = case_tells Ts;
    }
