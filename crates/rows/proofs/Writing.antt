-- What a writer of records hands over to the writer of tuples, and its rules. Assumes nothing.
use mathlib.Core.Path.{◌≡◌, refl, sym, ap, ap₂, ◌∙◌}
use mathlib.Core.Bool.{Bool, true, false, not}
use mathlib.Core.List.{List, [], ◌∷◌, ◌++◌}
use mathlib.Core.Option.{some, none}
use Prim.Native.Nat.{ℕ, ◌+◌, ◌-◌, ◌<◌, ◌≤◌}
use native.Mathlib.Omega.{arith}
use lib.ListN.{length, drop, get_or, replicate, length-replicate}
use lib.Seq.{drop-drop, get_or-drop}
use Rattle.layout.specs.Fields.{Field, num, txt, gap, ident, s, size, takes, many, bare_size}
use Rattle.layout.specs.Types.{Shape, indexed, row, uncompressed, compressed, unlisted, Length, shape_of, lengths_of, fitting, length_from}
use Rattle.layout.proofs.Tables.{lengths-from}
use Rattle.turning.specs.Rows.{Value, number, text, woven, woven_field, behind_field}
use borrow.Author.Tests.{lt-ltb, le-ltb}
use lib.Dec.{ltb}
use Rattle.rules.specs.Rules.{Rule, ◌⇒◌}
use Rattle.layout.specs.Answer.{Answer}
use Rattle.layout.specs.Answer.{Refused}
use Rattle.tuples.specs.Readers.{is_record, row_by}
use Rattle.tuples.specs.Writers.{Written, plain_bytes}
use Rattle.tuples.specs.inner.Framing.{handed_values, Handable}
use Rattle.tuples.proofs.Writing.{refused-first, written-past, as_values}
use Rattle.rows.specs.Readers.{count_of, fields_by}
use Rattle.rows.specs.Writers.{row_values, row_length, RowWritten}
use Rattle.layout.proofs.Families.{IsRow}
use Rattle.rows.proofs.Shapes.{is-row, row-many, no_text, Textual, textual, none_bare, none-fits, bare-size, fits_by, fixed-length}

-- ---- values woven from numbers
behind-takes : (f : Field) (ns : List ℕ) → behind_field f ns ≡ drop (takes f) ns
behind-takes (num g w) ns = refl
behind-takes (txt w) ns = refl
behind-takes (gap w) ns = refl
behind-takes ident ns = refl

field_append : (f : Field) (n : ℕ) (t : List ℕ) (vs us : List Value) → woven_field f n t (vs ++ us) ≡ woven_field f n t vs ++ us
field_append (num g w) n t vs us = refl
field_append (txt w) n t vs us = refl
field_append (gap w) n t vs us = refl
field_append ident n t vs us = refl

woven_append : (fs gs : List Field) (ns t : List ℕ) → woven (fs ++ gs) ns t ≡ woven fs ns t ++ woven gs (drop (many fs) ns) t
woven_append [] gs ns t = refl
woven_append (f ∷ fs) gs ns t =
    ap (woven_field f (get_or ns 0 0) t)
    (woven_append fs gs (behind_field f ns) t
    ∙ ap (λ (l : List ℕ). woven fs (behind_field f ns) t ++ woven gs l t)
    (ap (drop (many fs)) (behind-takes f ns) ∙ drop-drop (many fs) (takes f) ns))
    ∙ field_append f (get_or ns 0 0) t (woven fs (behind_field f ns) t) (woven gs (drop (takes f + many fs) ns) t)

-- a row without characters has no use for a text
no_use : (fs : List Field) (ns t u : List ℕ) → no_text fs ≡ true → woven fs ns t ≡ woven fs ns u
no_use [] ns t u e = refl
no_use (num g w ∷ fs) ns t u e = ap (λ (vs : List Value). number (get_or ns 0 0) ∷ vs) (no_use fs (drop 1 ns) t u e)
no_use (txt w ∷ fs) ns t u e = let z : ◌≡◌ {A = ℕ} 0 1 = cc in absurd (omega arith)
no_use (gap w ∷ fs) ns t u e = no_use fs ns t u e
no_use (ident ∷ fs) ns t u e = no_use fs ns t u e

-- the attribute is the number behind the fields'
attribute : (fs : List Field) (ns : List ℕ) → get_or ns (many fs) 0 ≡ get_or (drop (many fs) ns) 0 0
attribute fs ns = let z : many fs + 0 ≡ many fs = omega arith in sym (get_or-drop (many fs) ns 0 0 ∙ ap (λ (i : ℕ). get_or ns i 0) z)

no_length : (t : List ℕ) → length t ≡ 0 → t ≡ []
no_length [] e = refl
no_length (x ∷ t) e = absurd (omega (arith, e))

-- ---- the characters are the row's own ..
module _ (ns t : List ℕ) (n : ℕ) (is : n ≤ 262144) where
  pub own : (q : Shape) → IsRow q → Textual q → fitting (length_from q) n ≡ true → n ≡ bare_size (fields_by q) + length t + 14
      → bare_size (fields_by q) < size (fields_by q)
      → Handable q ns t [] n × (handed_values q ns t [] (get_or ns (many (fields_by q)) 0) ≡ woven (row_by q 0) ns t)
  own indexed z x e l h = absurd z
  own (row fs none) z x e l h =
      let m : length t ≡ length (replicate {A = ℕ} (size fs - bare_size fs) 0) =
      omega (arith, l, fixed-length fs n e, length-replicate {A = ℕ} (size fs - bare_size fs) 0) in (
        (fits_by fs t (replicate (size fs - bare_size fs) 0) m ∙ x.1, refl, omega (arith, fixed-length fs n e), is),
        ap (λ (a : ℕ). woven fs ns t ++ (number a ∷ [])) (attribute fs ns) ∙ sym (woven_append fs (s 4 ∷ []) ns t),
      )
  own (row fs (some least)) z x e l h = absurd (omega (arith, none_bare fs x))
  own (uncompressed f) z x e l h = absurd z
  own (compressed f) z x e l h = absurd z
  own unlisted z x e l h = absurd z

  -- .. or stand behind its fields
  pub behind : (q : Shape) → IsRow q → Textual q → fitting (length_from q) n ≡ true → n ≡ bare_size (fields_by q) + length t + 14
      → size (fields_by q) ≤ bare_size (fields_by q)
      → Handable q ns [] t n × (handed_values q ns [] t (get_or ns (many (fields_by q)) 0) ≡ woven (row_by q 0) ns t)
  behind indexed z x e l h = absurd z
  behind (row fs none) z x e l h =
      let none-there = no_length t (omega (arith, l, fixed-length fs n e, bare-size fs)) in
      let m : length {A = ℕ} []
      ≡ length (replicate {A = ℕ} (size fs - bare_size fs) 0) = omega (arith, length-replicate {A = ℕ} (size fs - bare_size fs) 0) in (
        (fits_by fs [] (replicate (size fs - bare_size fs) 0) m ∙ x.1, none-there, omega (arith, l, bare-size fs), is),
        ap (λ (a : ℕ). woven fs ns [] ++ (number a ∷ [])) (attribute fs ns)
            ∙ sym (woven_append fs (s 4 ∷ []) ns [])
            ∙ ap (woven (fs ++ (s 4 ∷ [])) ns) (sym none-there),
      )
  behind (row fs (some least)) z x e l h = (
    (none-fits fs [] x, omega (arith, l, none_bare fs x), is),
    ap₂ (λ (vs : List Value) (a : ℕ). vs ++ (text t ∷ number a ∷ [])) (no_use fs ns [] t x) (attribute fs ns)
        ∙ sym (woven_append fs (txt (0 - (size fs + 4)) ∷ s 4 ∷ []) ns t),
  )
  behind (uncompressed f) z x e l h = absurd z
  behind (compressed f) z x e l h = absurd z
  behind unlisted z x e l h = absurd z

-- a type code's lengths are its row's
pub lengths-row : (k n : ℕ) → fitting (lengths_of k) n ≡ true → fitting (length_from (shape_of k)) n ≡ true
lengths-row k n e = ap (λ (l : Length). fitting l n) (sym (lengths-from k)) ∙ e

-- ---- the rules, in their order
module _ (k : ℕ) (ns t : List ℕ) (o : Bool) (out : List ℕ) where
  abbrev bytes : List ℕ
  bytes = plain_bytes o k (row_values k ns t)

  abbrev few : Rule Answer
  few = ltb (length ns) (count_of k) ⇒ Refused 9 0

  abbrev unfitted : Rule Answer
  unfitted = not (fitting (lengths_of k) (row_length k t)) ⇒ Refused 9 0

  abbrev overlong : Rule Answer
  overlong = ltb 262144 (row_length k t) ⇒ Refused 11 0

  pub no_record : is_record k ≡ false → RowWritten k ns t o out (Refused 9 0) out
  no_record e = refused-first (not (is_record k)) 9 0 (few ∷ unfitted ∷ overlong ∷ []) bytes out (ap not e)

  -- it is a record's type, with so many numbers before the attribute
  module _ (a : is_record k ≡ true) {held : ℕ} (is : held ≡ many (fields_by (shape_of k))) where
    with_attribute : held + 1 ≡ count_of k
    with_attribute = omega (arith, is, row-many (shape_of k) (0 - 10) (is-row (shape_of k) a))

    past : {r : Answer} {left : List ℕ} → Written (few ∷ unfitted ∷ overlong ∷ []) bytes out r left → RowWritten k ns t o out r left
    past w = written-past (not (is_record k)) (Refused 9 0) (few ∷ unfitted ∷ overlong ∷ []) bytes out (ap not a) w

    pub too_few : length ns ≤ held → RowWritten k ns t o out (Refused 9 0) out
    too_few h =
        past (refused-first (ltb (length ns) (count_of k)) 9 0 (unfitted ∷ overlong ∷ []) bytes out
        (lt-ltb (length ns) (count_of k) (omega (arith, with_attribute))))

    -- they are there, and its tuple would have n bytes
    module _ (room : held < length ns) {n : ℕ} (whole : n ≡ row_length k t) where
      past-few : {r : Answer} {left : List ℕ} → Written (unfitted ∷ overlong ∷ []) bytes out r left → RowWritten k ns t o out r left
      past-few w =
          past
          (written-past (ltb (length ns) (count_of k)) (Refused 9 0) (unfitted ∷ overlong ∷ []) bytes out
          (le-ltb (length ns) (count_of k) (omega (arith, with_attribute))) w)

      pub unfit : fitting (lengths_of k) n ≡ false → RowWritten k ns t o out (Refused 9 0) out
      unfit e =
          past-few
          (refused-first (not (fitting (lengths_of k) (row_length k t))) 9 0 (overlong ∷ []) bytes out
          (ap not (ap (fitting (lengths_of k)) (sym whole) ∙ e)))

      -- that length fits the type
      module _ (fit : fitting (lengths_of k) n ≡ true) where
        past-unfit : {r : Answer} {left : List ℕ} → Written (overlong ∷ []) bytes out r left → RowWritten k ns t o out r left
        past-unfit w =
            past-few
            (written-past (not (fitting (lengths_of k) (row_length k t))) (Refused 9 0) (overlong ∷ []) bytes out
            (ap not (ap (fitting (lengths_of k)) (sym whole) ∙ fit)) w)

        pub over : 262144 < n → RowWritten k ns t o out (Refused 11 0) out
        over h =
            past-unfit (refused-first (ltb 262144 (row_length k t)) 11 0 [] bytes out (lt-ltb 262144 (row_length k t) (omega (arith, whole))))

        by-tuple : n ≤ 262144 → {r : Answer} {left : List ℕ} → Written [] (plain_bytes o k (row_values k ns t)) out r left
            → RowWritten k ns t o out r left
        by-tuple most w =
            past-unfit (written-past (ltb 262144 (row_length k t)) (Refused 11 0) [] bytes out
            (le-ltb 262144 (row_length k t) (omega (arith, whole))) w)

-- ---- all rules are kept: a type of records, so many numbers before the attribute, all there, a length that fits and isn't too long
pub record Kept (k : ℕ) (ns t : List ℕ) (held n : ℕ) : Type 0 where
  pub type : is_record k ≡ true
  pub numbers : held ≡ many (fields_by (shape_of k))
  pub there : held < length ns
  pub whole : n ≡ row_length k t
  pub fits : fitting (lengths_of k) n ≡ true
  pub most : n ≤ 262144

module _ {k : ℕ} {ns t : List ℕ} {held n : ℕ} (c : Kept k ns t held n) where
  abbrev q : Shape
  q = shape_of k

  is : IsRow (shape_of k)
  is = is-row (shape_of k) c.type

  -- what is handed over as the row's own characters ..
  module _ (less : bare_size (fields_by (shape_of k)) < size (fields_by (shape_of k))) where
    both_own : Handable (shape_of k) ns t [] n
        × (handed_values (shape_of k) ns t [] (get_or ns (many (fields_by (shape_of k))) 0) ≡ woven (row_by (shape_of k) 0) ns t)
    both_own = own ns t n c.most q is (textual k) (lengths-row k n c.fits) c.whole less

    pub own_handable : Handable (shape_of k) ns t [] n
    own_handable = both_own.0

  -- .. or as those behind its fields
  module _ (full : size (fields_by (shape_of k)) ≤ bare_size (fields_by (shape_of k))) where
    both_behind : Handable (shape_of k) ns [] t n
        × (handed_values (shape_of k) ns [] t (get_or ns (many (fields_by (shape_of k))) 0) ≡ woven (row_by (shape_of k) 0) ns t)
    both_behind = behind ns t n c.most q is (textual k) (lengths-row k n c.fits) c.whole full

    pub behind_handable : Handable (shape_of k) ns [] t n
    behind_handable = both_behind.0

  -- and the attribute x, is the record's values
  attribute-at : (x : ℕ) → x ≡ get_or ns held 0 → x ≡ get_or ns (many (fields_by (shape_of k))) 0
  attribute-at x e = e ∙ ap (λ (i : ℕ). get_or ns i 0) c.numbers

  module _ (o : Bool) (out : List ℕ) {r : Answer} {left : List ℕ} where
    wrote : Written [] (plain_bytes o k (row_values k ns t)) out r left → RowWritten k ns t o out r left
    wrote w = by-tuple k ns t o out c.type c.numbers c.there c.whole c.fits c.most w

    pub own-written : (x : ℕ) → x ≡ get_or ns held 0 → bare_size (fields_by (shape_of k)) < size (fields_by (shape_of k))
        → Written [] (plain_bytes o k (handed_values (shape_of k) ns t [] x)) out r left → RowWritten k ns t o out r left
    own-written x e less w = wrote (as_values o k (ap (handed_values q ns t []) (attribute-at x e) ∙ (both_own less).1) w)

    pub behind-written : (x : ℕ) → x ≡ get_or ns held 0 → size (fields_by (shape_of k)) ≤ bare_size (fields_by (shape_of k))
        → Written [] (plain_bytes o k (handed_values (shape_of k) ns [] t x)) out r left → RowWritten k ns t o out r left
    behind-written x e full w = wrote (as_values o k (ap (handed_values q ns [] t) (attribute-at x e) ∙ (both_behind full).1) w)
