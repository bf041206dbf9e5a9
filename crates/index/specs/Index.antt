-- The index of a file, by the Index 1 tuple of TR Table 14: each type of the file's tuples outside the index class once, ascending,
-- just before the end of file. It is no content. Assumes nothing.
use Rattle.std.specs.Prelude.{ℕ, zero, suc, ◌+◌, ◌%◌, Bool, true, false, not, ◌&&◌, List, [], ◌∷◌, ◌++◌, eqb, length, replicate}
use Rattle.order.specs.Order.{bytes_of}
use Rattle.layout.specs.Types
use Rattle.layout.specs.Types.{in_class}
use Rattle.frame.specs.Frames.{Tup}
use Rattle.links.specs.Links.{has}
use Rattle.samples.specs.Words.{unwords}

-- ---- the types
-- those of n numbers, from k on, that a test takes, ascending
unfoldable pub chosen : (ℕ → Bool) → ℕ → ℕ → List ℕ
chosen p zero k = []
chosen p (suc n) k = elim (p k) [ true ↦ k ∷ chosen p n (k + 1) | false ↦ chosen p n (k + 1) ]

-- a type is one of the index: outside the index class, and some tuple has it
unfoldable pub is_typed : List Tup → ℕ → Bool
is_typed ts k = not (in_class Types.index k) && has (λ (t : Tup). t.kind) k ts

-- each type of these tuples outside the index class once, ascending, of the 65,536 that two bytes can say
unfoldable pub types_of : List Tup → List ℕ
types_of ts = chosen (is_typed ts) 65536 0

-- ---- the tuple
-- types, and a space of 0 where their number is odd
abbrev pub spaced : List ℕ → List ℕ
spaced ks = ks ++ replicate (length ks % 2) 0

-- its data: time fraction 0, time 0, the types with their space, attribute 0
unfoldable pub index_data : Bool → List ℕ → List ℕ
index_data o ks = bytes_of o 2 0 ++ (bytes_of o 4 0 ++ (unwords 2 o (spaced ks) ++ bytes_of o 4 0))

-- the Index 1 tuple of these types: 65406 is the first type of the index class
abbrev pub index_tuple : Bool → List ℕ → Tup
index_tuple o ks = record { kind = 65406; body = index_data o ks }

-- the index of tuples, worked out afresh
abbrev pub index_of : Bool → List Tup → Tup
index_of o ts = index_tuple o (types_of ts)

-- ---- its place
-- the tuples before the end of file (65534); all where none is
unfoldable pub before_end : List Tup → List Tup
before_end [] = []
before_end (t ∷ ts) = elim (eqb t.kind 65534) [ true ↦ [] | false ↦ t ∷ before_end ts ]

-- those from it on; none where none is
unfoldable pub from_end : List Tup → List Tup
from_end [] = []
from_end (t ∷ ts) = elim (eqb t.kind 65534) [ true ↦ t ∷ ts | false ↦ from_end ts ]

-- tuples with their index, just before the end of file; at the end where none is
unfoldable pub with_index : Bool → List Tup → List Tup
with_index o ts = before_end ts ++ (index_of o ts ∷ from_end ts)

-- the tuples outside the index class
unfoldable pub outside : List Tup → List Tup
outside [] = []
outside (t ∷ ts) = elim (in_class Types.index t.kind) [ true ↦ outside ts | false ↦ t ∷ outside ts ]

-- indexed afresh: all of the index class dropped, and one put in
abbrev pub reindexed : Bool → List Tup → List Tup
reindexed o ts = with_index o (outside ts)
