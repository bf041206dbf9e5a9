-- The families of samples with numbers of two bytes, and of those with angles, by the bytes of a sample. Assumes nothing.
use Rattle.std.specs.Prelude.{ℕ, true, false, eqb}
use Rattle.layout.specs.Families.{Family, wide_angles, narrow_angles}
use Rattle.samples.specs.inner.Narrow.{plain_by}

-- six with angles, four without
abbrev pub plain_of : ℕ → Family
plain_of n = plain_by (eqb n 6)

-- eight with a number of four bytes, six with one of two
abbrev pub angles_of : ℕ → Family
angles_of n = elim (eqb n 8) [ true ↦ wide_angles | false ↦ narrow_angles ]
