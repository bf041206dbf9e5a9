-- Pings with values: their units, and that only pings with angles are without readings. Assumes nothing.
use mathlib.Core.Path.{◌≡◌, refl, sym, ◌∙◌}
use mathlib.Core.Bool.{Bool, true, false, not, true≢false}
use Prim.Native.Nat.{ℕ, ◌<◌}
use lib.Dec.{eqb, lit<}
use Rattle.layout.specs.Families.{Family, wide, narrow, encoded, wide_angles, narrow_angles, value_count}
use Rattle.layout.specs.Types.{Shape, indexed, row, uncompressed, compressed, unlisted, shape_of, has_samples, is_ping}
use Rattle.samples.specs.Lists.{handed_bytes}
use Rattle.tuples.specs.Readers.{holding, is_valued}
use Rattle.pings.specs.inner.Handing.{part_width}
use Rattle.quantities.specs.declared.Quantity.{Quantity}
use Rattle.quantities.specs.Quantities.{per_volt, per_decibel, has_angles}
use Rattle.quantities.specs.inner.Codes.{family_in, family_of}
use Rattle.readings.specs.Reading.{is_read, has_readings}

-- a volt and a decibel are some of its units
units : (f : Family) → eqb (value_count f) 1 ≡ true → (0 < per_volt f) × (0 < per_decibel f)
units wide e = (lit< tt, lit< tt)
units narrow e = (lit< tt, lit< tt)
units encoded e = (lit< tt, lit< tt)
units wide_angles e = absurd (true≢false (sym e))
units narrow_angles e = absurd (true≢false (sym e))

units_in : (q : Shape) → holding 1 q ≡ true → (0 < per_volt (family_in q)) × (0 < per_decibel (family_in q))
units_in indexed e = absurd (true≢false (sym e))
units_in (row fs x) e = absurd (true≢false (sym e))
units_in (uncompressed f) e = units f e
units_in (compressed f) e = units f e
units_in unlisted e = absurd (true≢false (sym e))

pub units_of : (k : ℕ) → is_valued k ≡ true → (0 < per_volt (family_of k)) × (0 < per_decibel (family_of k))
units_of k e = units_in (shape_of k) e

-- a listed ping has a value a sample, or angles
angled_or : (f : Family) → has_angles f ≡ not (eqb (value_count f) 1)
angled_or wide = refl
angled_or narrow = refl
angled_or encoded = refl
angled_or wide_angles = refl
angled_or narrow_angles = refl

angled-in : (q : Shape) → has_samples q ≡ true → has_angles (family_in q) ≡ not (holding 1 q)
angled-in indexed e = absurd (true≢false (sym e))
angled-in (row fs x) e = absurd (true≢false (sym e))
angled-in (uncompressed f) e = angled_or f
angled-in (compressed f) e = angled_or f
angled-in unlisted e = absurd (true≢false (sym e))

angled-by : (k : ℕ) → is_ping k ≡ true → has_angles (family_of k) ≡ not (is_valued k)
unfolding is_ping
angled-by k e = angled-in (shape_of k) e

-- so it has readings where it has values and its samples are read
pub has-valued : (x : Quantity) (k : ℕ) → is_ping k ≡ true → is_valued k ≡ true → has_readings x (family_of k) ≡ is_read x
has-valued x k p e = rw (angled-by k p, e)

pub has-none : (x : Quantity) (k : ℕ) → is_ping k ≡ true → is_valued k ≡ false → has_readings x (family_of k) ≡ false
has-none x k p e = rw (angled-by k p, e)

pub valued_by : (x : Quantity) (k : ℕ) → is_ping k ≡ true → has_readings x (family_of k) ≡ true → is_valued k ≡ true
valued_by x k p e = by (is_valued k) refl
  where
    by : (b : Bool) → is_valued k ≡ b → is_valued k ≡ true
    by true t = t
    by false t = absurd (true≢false (sym e ∙ has-none x k p t))

-- values are handed over in their family's width
pub width-in : (q : Shape) → part_width q ≡ handed_bytes (family_in q)
width-in indexed = refl
width-in (row fs x) = refl
width-in (uncompressed f) = refl
width-in (compressed f) = refl
width-in unlisted = refl
