-- What readings mean: one rounding, volts and decibels never mixed, silence where the ping holds nothing. Assumes nothing.
use Rattle.std.specs.Prelude.{◌≡◌, ◌↔◌, ℕ, ◌+◌, ◌^◌, ◌≤◌, ◌<◌, List, ℤ, pos, length, get_or}
use Rattle.std.proofs.Math.Option.{some, none}
use Rattle.std.specs.Float.{binary64}
use Rattle.std.specs.Float.Ieee.{div, of_int}
use Rattle.std.specs.Int.Signed.{mag}
use Rattle.layout.specs.Families.{Family}
use Rattle.samples.specs.Words.{Sample}
use Rattle.quantities.specs.declared.Quantity.{Quantity}
use Rattle.quantities.specs.declared.Quantity.TheVariants as quantity
use Rattle.readings.specs.declared.Reading.TheVariants.{Silent}
use Rattle.readings.specs.Double.{double_of}
use Rattle.readings.specs.Reading.{case_in}
use Rattle.readings.specs.Readings.{value_at, reading_at, readings_from}

-- no sample has this number
abbrev pub NotHeld : ℕ → List Sample → Type 0
NotHeld i s = value_at i s ≡ none

pub record Readings : Type 0 where
  -- the double is the stored whole number, converted without loss, divided with one rounding
  pub one_rounding : (v : ℤ) (d : ℕ) → mag v < 2 ^ 53 → 0 < d → d ≤ 2 ^ 53
      → div binary64 (of_int binary64 v) (of_int binary64 (pos d)) ≡ double_of v d
  -- a window has a reading for each of its numbers
  pub window : (x : Quantity) (f : Family) (s : List Sample) (first n : ℕ) → length (readings_from x f s first n) ≡ n
  pub nth : (x : Quantity) (f : Family) (s : List Sample) (first n i : ℕ) → i < n
      → get_or (readings_from x f s first n) i Silent ≡ reading_at x f s (first + i)
  -- a number that the ping doesn't hold is silent
  pub silent : (x : Quantity) (f : Family) (s : List Sample) (i : ℕ) → NotHeld i s → reading_at x f s i ≡ Silent
  -- a reading that isn't silent is volts exactly where the channel's samples are volts, Sv exactly where they are Sv, TS exactly where
  -- they are TS
  pub volts : (x : Quantity) (f : Family) (s : List Sample) (i v : ℕ) → value_at i s ≡ some v
      → (case_in (reading_at x f s i) ≡ 1) ↔ (x ≡ quantity.Volts)
  pub sv : (x : Quantity) (f : Family) (s : List Sample) (i v : ℕ) → value_at i s ≡ some v
      → (case_in (reading_at x f s i) ≡ 2) ↔ (x ≡ quantity.Sv)
  pub ts : (x : Quantity) (f : Family) (s : List Sample) (i v : ℕ) → value_at i s ≡ some v
      → (case_in (reading_at x f s i) ≡ 3) ↔ (x ≡ quantity.Ts)
