-- What the samples of a channel are, and in which units a ping stores them. Assumes nothing.
use Rattle.std.specs.Prelude.{ℕ, Bool, cond, eqb}
use Rattle.layout.specs.declared.Maker.{Maker}
use Rattle.layout.specs.declared.Maker.TheVariants.{Biosonics, Simrad}
use Rattle.layout.specs.Families.{Family, wide, narrow, encoded, wide_angles, narrow_angles, value_count}
use Rattle.links.specs.declared.Channel.{Channel}
use Rattle.quantities.specs.declared.Quantity.{Quantity}
use Rattle.quantities.specs.declared.Quantity.TheVariants.{Volts, Sv, Ts, Other}

-- ---- by the type of data sample in its maker's table, TR Tables 4 and 5: Biosonics' 0, 1 and 2 are volts, Sv and TS; the Simrad
-- EK-500's 2 and 3 are Sv and TS. Angles, power and types that no table defines are none of these
abbrev pub quantity_by : Maker → ℕ → Quantity
quantity_by Biosonics k = cond (eqb k 0) Volts (cond (eqb k 1) Sv (cond (eqb k 2) Ts Other))
quantity_by Simrad k = cond (eqb k 2) Sv (cond (eqb k 3) Ts Other)

abbrev pub quantity_of : Channel → Quantity
quantity_of c = quantity_by c.maker c.samples

-- ---- the units of a stored value: how many of them are one volt, and one decibel. CE-16's unit is a tenth of that of the other 16-bit
-- pings; a ping with angles has neither volts nor decibels
abbrev pub per_volt : Family → ℕ
per_volt wide = 1000000
per_volt narrow = 1000
per_volt encoded = 10000
per_volt wide_angles = 0
per_volt narrow_angles = 0

abbrev pub per_decibel : Family → ℕ
per_decibel wide = 1000000
per_decibel narrow = 100
per_decibel encoded = 1000
per_decibel wide_angles = 0
per_decibel narrow_angles = 0

-- its samples have two angles each
abbrev pub has_angles : Family → Bool
has_angles f = eqb (value_count f) 2
