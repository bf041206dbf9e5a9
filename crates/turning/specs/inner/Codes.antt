-- What a row's codes ask of the two routines, field by field. Assumes nothing.
use Rattle.std.specs.Prelude.{Bool, true, ◌&&◌, List, [], ◌∷◌, ℕ, eqb, length, take, replicate}
use Rattle.std.proofs.Math.Option.{Option, some, none}
use Rattle.order.specs.Order.{num_of, bytes_of}
use Rattle.layout.specs.Fields.{Field, num, txt, gap, ident, width_of, takes, identifier}
use Rattle.turning.specs.Rows.{turned_field}

-- the text is as wide as the characters of a row
abbrev pub text_fits_field : Field → List ℕ → Bool
text_fits_field (num g w) t = true
text_fits_field (txt w) t = eqb (length t) w
text_fits_field (gap w) t = true
text_fits_field ident t = true

abbrev pub text_fits : List Field → List ℕ → Bool
text_fits [] t = true
text_fits (f ∷ fs) t = text_fits_field f t && text_fits fs t

-- a field's bytes, where it is the next number's or the text's
abbrev pub field_bytes : Bool → Field → ℕ → List ℕ → List ℕ
field_bytes o (num g w) n t = bytes_of o w n
field_bytes o (txt w) n t = t
field_bytes o (gap w) n t = replicate w 0
field_bytes o ident n t = bytes_of o 2 identifier

-- what a field code, which may be none, asks of the routine: a width and bytes
abbrev pub code_width : Option Field → ℕ
code_width none = 0
code_width (some f) = width_of f

abbrev pub code_turned : Bool → Option Field → List ℕ → List ℕ
code_turned o none bs = []
code_turned o (some f) bs = turned_field o f bs

-- what it asks of the routine that writes values handed over apart
abbrev pub code_text_fits : Option Field → List ℕ → Bool
code_text_fits none t = true
code_text_fits (some f) t = text_fits_field f t

abbrev pub code_bytes : Bool → Option Field → ℕ → List ℕ → List ℕ
code_bytes o none n t = []
code_bytes o (some f) n t = field_bytes o f n t

-- how many numbers it takes
abbrev pub code_takes : Option Field → ℕ
code_takes none = 0
code_takes (some f) = takes f

-- what it asks of the routine that reads a row's numbers
abbrev pub field_numbers : Bool → Field → List ℕ → List ℕ
field_numbers o (num g w) bs = num_of o (take w bs) ∷ []
field_numbers o (txt w) bs = []
field_numbers o (gap w) bs = []
field_numbers o ident bs = []

abbrev pub code_numbers : Bool → Option Field → List ℕ → List ℕ
code_numbers o none bs = []
code_numbers o (some f) bs = field_numbers o f bs
