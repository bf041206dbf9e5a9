-- The reading of a stored value, by what the channel's samples are and by the ping's family; and a reading in numbers. Assumes nothing.
use Rattle.std.specs.Prelude.{ℕ, Bool, true, false, not, ◌&&◌, ℤ, pos, Float}
use Rattle.std.specs.Float.{fin}
use Rattle.layout.specs.Families.{Family}
use Rattle.quantities.specs.declared.Quantity.{Quantity}
use Rattle.quantities.specs.declared.Quantity.TheVariants as quantity
use Rattle.quantities.specs.Quantities.{per_volt, per_decibel, has_angles}
use Rattle.readings.specs.declared.Reading.{Reading}
use Rattle.readings.specs.declared.Reading.TheVariants.{Silent, Volts, Sv, Ts}
use Rattle.readings.specs.Double.{double_of}

-- ---- volts, Sv or TS: each carries a double
-- the stored whole number divided by as many units as are one volt, or one decibel
abbrev pub divisor_of : Quantity → Family → ℕ
divisor_of quantity.Volts f = per_volt f
divisor_of quantity.Sv f = per_decibel f
divisor_of quantity.Ts f = per_decibel f
divisor_of quantity.Other f = 1

-- what is neither is silent; no ping of such a channel has readings
abbrev pub cased : Quantity → Float → Reading
cased quantity.Volts x = Volts x
cased quantity.Sv x = Sv x
cased quantity.Ts x = Ts x
cased quantity.Other x = Silent

abbrev pub reading_of : Quantity → Family → ℤ → Reading
reading_of x f v = cased x (double_of v (divisor_of x f))

-- ---- pings that have readings: those with values, of channels whose samples are volts, Sv or TS
abbrev pub is_read : Quantity → Bool
is_read quantity.Volts = true
is_read quantity.Sv = true
is_read quantity.Ts = true
is_read quantity.Other = false

abbrev pub has_readings : Quantity → Family → Bool
has_readings x f = not (has_angles f) && is_read x

-- ---- in numbers: its case, 0 silent, 1 volts, 2 Sv, 3 TS; and its double, +0 where it is silent
abbrev pub no_double : Float
no_double = fin false 0 (pos 0)

abbrev pub case_in : Reading → ℕ
case_in Silent = 0
case_in (Volts x) = 1
case_in (Sv x) = 2
case_in (Ts x) = 3

abbrev pub double_in : Reading → Float
double_in Silent = no_double
double_in (Volts x) = x
double_in (Sv x) = x
double_in (Ts x) = x
