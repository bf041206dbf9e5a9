-- The code's tables: what each listed type measures, and its row as codes; in the order of `listings`. Assumes nothing.
use Rattle.std.specs.Prelude.{ℕ, zero, suc, ◌-◌, Bool, true, false, cond, List, [], ◌∷◌, ◌++◌, map, eqb, length, replicate}
use Rattle.std.proofs.Math.Option.{Option, some, none}
use Rattle.rules.specs.Rules.{◌⇒◌, first_of}
use Rattle.layout.specs.declared.Maker.{Maker}
use Rattle.layout.specs.declared.Maker.TheVariants.{Biosonics, Simrad}
use Rattle.layout.specs.Fields.{Field, num, txt, gap, ident, u, s, c, z, many, before_text, bare_size, size}
use Rattle.layout.specs.Types.{Shape, indexed, row, uncompressed, compressed, unlisted, ping_row, Length, exactly, upward, upward_or}
use Rattle.layout.specs.Types.{least_of, step_of, more_of}
use Rattle.layout.specs.Types.{Listing, Entry, listings, shape_of}
use Rattle.layout.specs.Families.{Family, wide}

-- ---- places
-- the place of a type code among some types: their number where none has it
unfoldable pub place_among : ℕ → List Entry → ℕ
place_among k [] = 0
place_among k (l ∷ ls) = cond (eqb k l.code) 0 (suc (place_among k ls))

abbrev pub place_in : ℕ → ℕ
place_in k = place_among k listings

-- ---- rows
-- the fields that a shape begins with
abbrev pub fields_in : Shape → List Field
fields_in indexed = []
fields_in (row fs x) = fs
fields_in (uncompressed f) = ping_row
fields_in (compressed f) = ping_row ++ (u 4 ∷ [])
fields_in unlisted = []

-- the family of a type that has samples
abbrev pub family_in : Shape → Family
family_in indexed = wide
family_in (row fs x) = wide
family_in (uncompressed f) = f
family_in (compressed f) = f
family_in unlisted = wide

abbrev pub family_of : ℕ → Family
family_of k = family_in (shape_of k)

-- a type whose samples are words
abbrev pub has_words : Shape → Bool
has_words indexed = false
has_words (row fs x) = false
has_words (uncompressed f) = false
has_words (compressed f) = true
has_words unlisted = false

-- the code of a field: 2, 4, s, S, c, z, i
abbrev pub code_of : Field → ℕ
code_of (num signed w) = cond signed (cond (eqb w 2) 115 83) (cond (eqb w 2) 50 52)
code_of (txt w) = 99
code_of (gap w) = 122
code_of ident = 105

-- a row as codes, with dots behind them up to the longest row's length
abbrev pub longest_row : ℕ
longest_row = 27

abbrev pub dotted : List ℕ → List ℕ
dotted ks = ks ++ replicate (longest_row - length ks) 46

abbrev pub codes_in : Listing → List ℕ
codes_in l = dotted (map code_of (fields_in l.shape))

-- those before the other pings are read and turned by their rows; the other pings have the row of the U-32 ping
abbrev pub rowed : ℕ
rowed = 15

unfoldable pub row_codes : List (List ℕ)
row_codes = map (λ l. codes_in l.listing) listings

-- the field of a code; any other code is none
unfoldable pub field_of : ℕ → Option Field
field_of k =
    first_of
    ((eqb k 50 ⇒ some (u 2))
    ∷ (eqb k 52 ⇒ some (u 4))
    ∷ (eqb k 115 ⇒ some (s 2))
    ∷ (eqb k 83 ⇒ some (s 4))
    ∷ (eqb k 99 ⇒ some (c 30))
    ∷ (eqb k 122 ⇒ some (z 2))
    ∷ (eqb k 105 ⇒ some ident)
    ∷ [])
    none

-- the fields of a row of codes, which ends at the first code that is none
abbrev pub fields_from : Option Field → List Field → List Field
fields_from none fs = []
fields_from (some f) fs = f ∷ fs

unfoldable pub fields_of : List ℕ → List Field
fields_of [] = []
fields_of (k ∷ ks) = fields_from (field_of k) (fields_of ks)

-- ---- measures
-- what a row measures: its numbers, its bytes before its characters, its bytes but for these, all its bytes
abbrev pub measured : List Field → List ℕ
measured fs = many fs ∷ before_text fs ∷ bare_size fs ∷ size fs ∷ []

-- a type's: its row's; its least length, its step and the bytes more
abbrev pub measured_by : Listing → List ℕ
measured_by l = measured (fields_in l.shape) ++ (least_of l.length ∷ step_of l.length ∷ more_of l.length ∷ [])

unfoldable pub measures : List (List ℕ)
measures = map (λ l. measured_by l.listing) listings

-- the lengths that a least length, a step and the bytes more say
abbrev pub length_by : ℕ → ℕ → ℕ → Length
length_by least zero more = exactly least
length_by least (suc step) zero = upward least (suc step)
length_by least (suc step) (suc more) = upward_or least (suc step) (suc more)

-- ---- a maker as the number that a table keeps
abbrev pub maker_number : Maker → ℕ
maker_number Biosonics = 0
maker_number Simrad = 1

abbrev pub maker_of : ℕ → Maker
maker_of zero = Biosonics
maker_of (suc n) = Simrad
