-- The family of a listed ping, by its type. Assumes nothing.
use Rattle.std.specs.Prelude.{ℕ}
use Rattle.layout.specs.Families.{Family, wide}
use Rattle.layout.specs.Types.{Shape, indexed, row, uncompressed, compressed, unlisted, shape_of}

-- any other type is as if of 32 bits
abbrev pub family_in : Shape → Family
family_in indexed = wide
family_in (row fs x) = wide
family_in (uncompressed f) = f
family_in (compressed f) = f
family_in unlisted = wide

abbrev pub family_of : ℕ → Family
family_of k = family_in (shape_of k)
