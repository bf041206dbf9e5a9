-- The rows of the records: what holds of each, by one test a kind, and the laws that follow. Assumes nothing.
use mathlib.Core.Path.{◌≡◌, refl, sym, ap, ap₂, ◌∙◌}
use mathlib.Core.Bool.{Bool, true, false, ◌&&◌}
use mathlib.Core.List.{List, [], ◌∷◌, ◌++◌}
use mathlib.Core.Option.{some, none}
use Prim.Native.Nat.{ℕ, ◌+◌, ◌-◌, ◌<◌, ◌≤◌, zero-le}
use native.Mathlib.Omega.{arith}
use borrow.Author.Tests.{eqb-true, leb-true}
use lib.Dec.{eqb, leb}
use lib.ListN.{length, replicate, get_or}
use Rattle.rules.proofs.Bools.{both_true}
use Rattle.layout.specs.Fields.{Field, num, txt, gap, ident, s, size, many, bare_size, before_text}
use Rattle.layout.specs.Types.{Shape, indexed, row, uncompressed, compressed, unlisted, listings, listed, shape_of}
use Rattle.layout.specs.Types.{lengths_of, least_of, step_of, more_of, fitting, length_from}
use Rattle.layout.specs.inner.Codes.{place_in, fields_in, fields_of, row_codes, measures, measured}
use Rattle.layout.proofs.Tables.{alike_all, fields-there, measure_there, size-there}
use Rattle.turning.specs.inner.Codes.{text_fits}
use Rattle.tuples.specs.Readers.{is_row, row_by}
use Rattle.layout.proofs.Families.{IsRow, row-rowed}
use Rattle.rows.specs.Readers.{fields_by}

-- ---- a record's shape
pub is-row : (q : Shape) → is_row q ≡ true → IsRow q
is-row indexed e = let z : ◌≡◌ {A = ℕ} 0 1 = cc in absurd (omega arith)
is-row (row fs x) e = tt
is-row (uncompressed f) e = let z : ◌≡◌ {A = ℕ} 0 1 = cc in absurd (omega arith)
is-row (compressed f) e = let z : ◌≡◌ {A = ℕ} 0 1 = cc in absurd (omega arith)
is-row unlisted e = let z : ◌≡◌ {A = ℕ} 0 1 = cc in absurd (omega arith)

-- it is a listed type's, and the code's row is its row
in-fields : (q : Shape) → IsRow q → fields_in q ≡ fields_by q
in-fields indexed z = absurd z
in-fields (row fs x) z = refl
in-fields (uncompressed f) z = absurd z
in-fields (compressed f) z = absurd z
in-fields unlisted z = absurd z

module _ (k : ℕ) (z : IsRow (shape_of k)) where
  pub row_listed : place_in k < listed
  row_listed = omega (arith, row-rowed k z)

  pub row-fields : fields_of (get_or row_codes (place_in k) []) ≡ fields_by (shape_of k)
  row-fields = fields-there k row_listed ∙ in-fields (shape_of k) z

  -- and so is what is measured of it
  pub row_measure : get_or measures (place_in k) []
      ≡ measured (fields_by (shape_of k)) ++ (least_of (lengths_of k) ∷ step_of (lengths_of k) ∷ more_of (lengths_of k) ∷ [])
  row_measure =
      let l = lengths_of k in
      measure_there k row_listed
      ∙ ap (λ (fs : List Field). measured fs ++ (least_of l ∷ step_of l ∷ more_of l ∷ [])) (in-fields (shape_of k) z)

  -- which is little
  pub row_little : size (fields_by (shape_of k)) ≤ 255
  row_little =
      leb-true (size (fields_by (shape_of k))) 255
      (ap (λ (fs : List Field). leb (size fs) 255) (sym (in-fields (shape_of k) z)) ∙ size-there k row_listed)

-- ---- the characters of a row
-- how many the first of its fields of characters has
abbrev pub first_text : List Field → ℕ
first_text [] = 0
first_text (num g w ∷ fs) = first_text fs
first_text (txt w ∷ fs) = w
first_text (gap w ∷ fs) = first_text fs
first_text (ident ∷ fs) = first_text fs

abbrev pub no_text : List Field → Bool
no_text [] = true
no_text (num g w ∷ fs) = no_text fs
no_text (txt w ∷ fs) = false
no_text (gap w ∷ fs) = no_text fs
no_text (ident ∷ fs) = no_text fs

-- a row has one field of characters or none, and none where characters stand behind its fields
abbrev pub Textual : Shape → Type 0
Textual indexed = Unit {0}
Textual (row fs none) = (first_text (fs ++ (s 4 ∷ [])) + bare_size fs ≡ size fs) × (text_fits fs (replicate (size fs - bare_size fs) 0) ≡ true)
Textual (row fs (some least)) = no_text fs ≡ true
Textual (uncompressed f) = Unit {0}
Textual (compressed f) = Unit {0}
Textual unlisted = Unit {0}

-- as a test, which holds of all types
is_textual : Shape → Bool
is_textual indexed = true
is_textual (row fs none) =
    eqb (first_text (fs ++ (s 4 ∷ [])) + bare_size fs) (size fs) && text_fits fs (replicate (size fs - bare_size fs) 0)
is_textual (row fs (some least)) = no_text fs
is_textual (uncompressed f) = true
is_textual (compressed f) = true
is_textual unlisted = true

textual-by : (q : Shape) → is_textual q ≡ true → Textual q
unfolding is_textual
textual-by indexed e = tt
textual-by (row fs none) e =
    let b = both_true (eqb (first_text (fs ++ (s 4 ∷ [])) + bare_size fs) (size fs)) _ e in (eqb-true _ (size fs) b.0, b.1)
textual-by (row fs (some least)) e = e
textual-by (uncompressed f) e = tt
textual-by (compressed f) e = tt
textual-by unlisted e = tt

pub textual : (k : ℕ) → Textual (shape_of k)
unfolding is_textual
textual k =
    textual-by (shape_of k)
    (alike_all (λ j l. is_textual l.shape) (λ j l. true) (unfold listings in refl) (λ j. refl) (λ j. refl) k)

pub text-behind : (fs gs : List Field) (m : ℕ) → no_text fs ≡ true → first_text (fs ++ (txt m ∷ gs)) ≡ m
text-behind [] gs m e = refl
text-behind (num g w ∷ fs) gs m e = text-behind fs gs m e
text-behind (txt w ∷ fs) gs m e = let z : ◌≡◌ {A = ℕ} 0 1 = cc in absurd (omega arith)
text-behind (gap w ∷ fs) gs m e = text-behind fs gs m e
text-behind (ident ∷ fs) gs m e = text-behind fs gs m e

pub none_bare : (fs : List Field) → no_text fs ≡ true → bare_size fs ≡ size fs
none_bare [] e = refl
none_bare (num g w ∷ fs) e = ap (λ (n : ℕ). w + n) (none_bare fs e)
none_bare (txt w ∷ fs) e = let z : ◌≡◌ {A = ℕ} 0 1 = cc in absurd (omega arith)
none_bare (gap w ∷ fs) e = ap (λ (n : ℕ). w + n) (none_bare fs e)
none_bare (ident ∷ fs) e = ap (λ (n : ℕ). 2 + n) (none_bare fs e)

pub none-fits : (fs : List Field) (t : List ℕ) → no_text fs ≡ true → text_fits fs t ≡ true
none-fits [] t e = refl
none-fits (num g w ∷ fs) t e = none-fits fs t e
none-fits (txt w ∷ fs) t e = let z : ◌≡◌ {A = ℕ} 0 1 = cc in absurd (omega arith)
none-fits (gap w ∷ fs) t e = none-fits fs t e
none-fits (ident ∷ fs) t e = none-fits fs t e

pub bare-size : (fs : List Field) → bare_size fs ≤ size fs
bare-size [] = zero-le
bare-size (num g w ∷ fs) = omega (arith, bare-size fs)
bare-size (txt w ∷ fs) = omega (arith, bare-size fs)
bare-size (gap w ∷ fs) = omega (arith, bare-size fs)
bare-size (ident ∷ fs) = omega (arith, bare-size fs)

pub before-size : (fs : List Field) → before_text fs ≤ size fs
before-size [] = zero-le
before-size (num g w ∷ fs) = omega (arith, before-size fs)
before-size (txt w ∷ fs) = zero-le
before-size (gap w ∷ fs) = omega (arith, before-size fs)
before-size (ident ∷ fs) = omega (arith, before-size fs)

-- whether a text fits goes by its length
pub fits_by : (fs : List Field) (t u : List ℕ) → length t ≡ length u → text_fits fs t ≡ text_fits fs u
fits_by [] t u e = refl
fits_by (num g w ∷ fs) t u e = fits_by fs t u e
fits_by (txt w ∷ fs) t u e = ap₂ (λ (n : ℕ) (b : Bool). eqb n w && b) e (fits_by fs t u e)
fits_by (gap w ∷ fs) t u e = fits_by fs t u e
fits_by (ident ∷ fs) t u e = fits_by fs t u e

-- ---- sums over a row and what stands behind it
pub many_append : (fs gs : List Field) → many (fs ++ gs) ≡ many fs + many gs
many_append [] gs = omega arith
many_append (f ∷ fs) gs = omega (arith, many_append fs gs)

pub row-many : (q : Shape) (m : ℕ) → IsRow q → many (row_by q m) ≡ many (fields_by q) + 1
row-many indexed m z = absurd z
row-many (row fs none) m z = many_append fs (s 4 ∷ [])
row-many (row fs (some least)) m z = many_append fs (txt (m - (size fs + 4)) ∷ s 4 ∷ [])
row-many (uncompressed f) m z = absurd z
row-many (compressed f) m z = absurd z
row-many unlisted m z = absurd z

-- ---- a length that fits
pub fixed-length : (fs : List Field) (n : ℕ) → fitting (length_from (row fs none)) n ≡ true → n ≡ size fs + 14
fixed-length fs n e = eqb-true n (size fs + 14) e

pub least-length : (fs : List Field) (l n : ℕ) → fitting (length_from (row fs (some l))) n ≡ true → size fs + 14 + l ≤ n
least-length fs l n e = leb-true (size fs + 14 + l) n (both_true (leb (size fs + 14 + l) n) _ e).0

pub long-enough : (q : Shape) (n : ℕ) → IsRow q → fitting (length_from q) n ≡ true → size (fields_by q) + 14 ≤ n
long-enough indexed n z e = absurd z
long-enough (row fs none) n z e = omega (arith, fixed-length fs n e)
long-enough (row fs (some l)) n z e = omega (arith, least-length fs l n e)
long-enough (uncompressed f) n z e = absurd z
long-enough (compressed f) n z e = absurd z
long-enough unlisted n z e = absurd z
