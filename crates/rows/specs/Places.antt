-- Where the fields of a type stand in its tuples, and the lengths of these: what its constants have to be. Assumes nothing.
use Rattle.std.specs.Prelude.{List, [], ◌∷◌, ◌++◌, ℕ, ◌+◌}
use Rattle.layout.specs.Fields.{Field, num, txt, gap, ident}
use Rattle.layout.specs.Types.{lengths_of, least_of, step_of}
use Rattle.tuples.specs.Readers.{row_of}

-- the places of a row's fields that are no spaces, the first at p
abbrev pub places_from : List Field → ℕ → List ℕ
places_from [] p = []
places_from (num g w ∷ fs) p = p ∷ places_from fs (p + w)
places_from (txt w ∷ fs) p = p ∷ places_from fs (p + w)
places_from (gap w ∷ fs) p = places_from fs (p + w)
places_from (ident ∷ fs) p = p ∷ places_from fs (p + 2)

-- of a type of records, in its shortest tuple: the places in the row's order, the attribute's the last; the least length and the step
abbrev pub places_of : ℕ → List ℕ
places_of k = places_from (row_of k (least_of (lengths_of k))) 6 ++ (least_of (lengths_of k) ∷ step_of (lengths_of k) ∷ [])
