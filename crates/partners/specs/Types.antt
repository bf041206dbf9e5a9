-- Types of tuples, and types in the list of an index. Assumes nothing.
use Rattle.std.specs.Prelude.{ℕ, Bool, List}
use Rattle.frame.specs.Frames.{Tup}
use Rattle.links.specs.Links.{has}
use Rattle.index.specs.Index.{types_of}

-- some tuple is of a type
abbrev pub has_type : ℕ → List Tup → Bool
has_type k ts = has (λ (t : Tup). t.kind) k ts

-- the index of tuples lists a type
abbrev pub is_listed : ℕ → List Tup → Bool
is_listed k ts = has (λ (j : ℕ). j) k (types_of ts)
