-- The integers of a record: its numbers, signed where its row says so. A view names them, and neither a width nor a sign: these are
-- the row's. Assumes nothing.
use Rattle.std.specs.Prelude.{Bool, true, false, List, [], ◌∷◌, ℕ, zero, suc, ◌+◌, ◌^◌, ◌%◌, ◌<◌, ℤ, pos, negsuc, get_or}
use Rattle.std.specs.Int.Signed.{mag}
use Rattle.order.specs.Order.{signed_of, pattern_of}
use Rattle.layout.specs.Fields.{Field, num, txt, gap, ident}
use Rattle.tuples.specs.Readers.{row_of}
use Rattle.rows.specs.Readers.{row_numbers}

-- a number of w bytes as an integer, and an integer as a number
abbrev pub integer : Bool → ℕ → ℕ → ℤ
integer false w n = pos n
integer true w n = signed_of w n

abbrev pub natural : ℤ → ℕ
natural (pos n) = n
natural (negsuc n) = 0

abbrev pub pattern : Bool → ℕ → ℤ → ℕ
pattern false w z = natural z
pattern true w z = pattern_of w z

-- the integers of a row's numbers, and the numbers of a row's integers
abbrev pub integers : List Field → List ℕ → List ℤ
integers [] ns = []
integers (num g w ∷ fs) [] = []
integers (num g w ∷ fs) (n ∷ ns) = integer g w n ∷ integers fs ns
integers (txt w ∷ fs) ns = integers fs ns
integers (gap w ∷ fs) ns = integers fs ns
integers (ident ∷ fs) ns = integers fs ns

abbrev pub patterns : List Field → List ℤ → List ℕ
patterns [] zs = []
patterns (num g w ∷ fs) [] = []
patterns (num g w ∷ fs) (z ∷ zs) = pattern g w z ∷ patterns fs zs
patterns (txt w ∷ fs) zs = patterns fs zs
patterns (gap w ∷ fs) zs = patterns fs zs
patterns (ident ∷ fs) zs = patterns fs zs

-- those of the record of a type at a place
abbrev pub row_integers : ℕ → List ℕ → ℕ → List ℤ
row_integers k f p = integers (row_of k 0) (row_numbers f p)

-- an integer of a list, signed or not
abbrev pub signed_at : List ℤ → ℕ → ℤ
signed_at zs i = get_or zs i (pos 0)

abbrev pub unsigned_at : List ℤ → ℕ → ℕ
unsigned_at zs i = natural (signed_at zs i)

-- as a view takes them from lent numbers, each by the lower bytes of its width
abbrev pub integers_from : List Field → List ℕ → ℕ → List ℤ
integers_from [] ns i = []
integers_from (num g w ∷ fs) ns i = integer g w (get_or ns i 0 % 256 ^ w) ∷ integers_from fs ns (suc i)
integers_from (txt w ∷ fs) ns i = integers_from fs ns i
integers_from (gap w ∷ fs) ns i = integers_from fs ns i
integers_from (ident ∷ fs) ns i = integers_from fs ns i

-- ---- integers that fit a row: one for each of its numbers, in the range of its width and sign; `mag z` is n both for n and -(n + 1)
abbrev pub InRange : Bool → ℕ → ℤ → Type 0
InRange false w (pos n) = n < 256 ^ w
InRange false w (negsuc n) = ⊥
InRange true zero z = ⊥
InRange true (suc w) z = mag z + mag z < 256 ^ suc w

abbrev pub Typed : List Field → List ℤ → Type 0
Typed [] [] = Unit {0}
Typed [] (z ∷ zs) = ⊥
Typed (num g w ∷ fs) [] = ⊥
Typed (num g w ∷ fs) (z ∷ zs) = InRange g w z × Typed fs zs
Typed (txt w ∷ fs) zs = Typed fs zs
Typed (gap w ∷ fs) zs = Typed fs zs
Typed (ident ∷ fs) zs = Typed fs zs
