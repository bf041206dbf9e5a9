-- What a reader of records hands over: the numbers in the tuple's bytes, their widths, and where its characters stand. Assumes nothing.
use mathlib.Core.Path.{◌≡◌, refl, sym, ap, ap₂, subst, ◌∙◌}
use mathlib.Core.Bool.{Bool, true, ◌&&◌}
use mathlib.Core.List.{List, [], ◌∷◌, ◌++◌, append_assoc}
use mathlib.Core.Option.{some, none}
use Prim.Native.Nat.{ℕ, ◌+◌, ◌-◌, ◌^◌, ◌<◌, ◌≤◌}
use native.Mathlib.Omega.{arith}
use borrow.Author.Tests.{eqb-true, le-ltb, lt-ltb}
use lib.Dec.{eqb, ltb}
use lib.ListN.{length, take, drop, length-drop}
use lib.Seq.{sets, sets-eq, drop-drop, length-take-le}
use Rattle.rules.proofs.Bools.{both_true}
use Rattle.order.specs.Order.{num_of, Bytes}
use Rattle.order.proofs.Laws.{num_of_bound, bytes_take, bytes_drop}
use Rattle.order.proofs.Stores.{sets_append}
use Rattle.layout.specs.Answer.{Answer}
use Rattle.layout.specs.Answer as answer
use Rattle.layout.specs.Answers.{tells, accepting, left_by}
use Rattle.layout.specs.Fields.{Field, num, txt, gap, ident, s, width_of, size, many, bare_size, before_text}
use Rattle.layout.specs.Types.{Shape, indexed, row, uncompressed, compressed, unlisted, shape_of, fitting, length_from}
use Rattle.turning.specs.Rows.{Value, values_of, numbers_in, text_in}
use Rattle.turning.specs.inner.Codes.{field_numbers}
use Rattle.turning.proofs.Taking.{numbers_cons, length-numbers}
use Rattle.content.proofs.Fine.{row-size}
use Rattle.tuples.specs.Readers.{is_record, records_of, only, read_answer, read_values, row_by, row_of}
use Rattle.tuples.specs.inner.Opening.{Readable}
use Rattle.tuples.specs.declared.Part.{Part}
use Rattle.layout.proofs.Families.{IsRow}
use Rattle.tuples.proofs.Fields.{fits, in-file, values-there}
use Rattle.rows.specs.Readers.{count_of, fields_by, lent_by, row_answer, row_numbers, row_text, characters_at, answered, RowAt}
use Rattle.rows.specs.RowRead.{Read, Refused}
use Rattle.rows.proofs.Shapes.{is-row, first_text, Textual, textual, text-behind, none_bare, row-many}
use Rattle.rows.proofs.Shapes.{fixed-length, least-length, long-enough}

-- ---- a row and what stands behind it
numbers_append : (o : Bool) (fs gs : List Field) (bs : List ℕ)
    → numbers_in (values_of o (fs ++ gs) bs) ≡ numbers_in (values_of o fs bs) ++ numbers_in (values_of o gs (drop (size fs) bs))
numbers_append o [] gs bs = refl
numbers_append o (f ∷ fs) gs bs =
    let rest = drop (width_of f) bs in
    numbers_cons o f (fs ++ gs) bs
    ∙ ap (λ (l : List ℕ). field_numbers o f bs ++ l)
    (numbers_append o fs gs (drop (width_of f) bs)
    ∙ ap (λ (l : List ℕ). numbers_in (values_of o fs (drop (width_of f) bs)) ++ numbers_in (values_of o gs l))
    (drop-drop (size fs) (width_of f) bs))
    ∙ sym (append_assoc (field_numbers o f bs) (numbers_in (values_of o fs rest)) (numbers_in (values_of o gs (drop (width_of f + size fs) bs))))
    ∙ ap (λ (l : List ℕ). l ++ numbers_in (values_of o gs (drop (width_of f + size fs) bs))) (sym (numbers_cons o f fs bs))

-- the numbers of two parts, stored one behind the other
pub numbers-parted : (o : Bool) (fs gs : List Field) (src lent : List ℕ) (at : ℕ)
    → sets (sets lent 0 (numbers_in (values_of o fs (drop at src)))) (many fs) (numbers_in (values_of o gs (drop (at + size fs) src)))
    ≡ sets lent 0 (numbers_in (values_of o (fs ++ gs) (drop at src)))
numbers-parted o fs gs src lent at =
    let xs = numbers_in (values_of o fs (drop at src)) in
    let ys = numbers_in (values_of o gs (drop (at + size fs) src)) in
    let l : many fs ≡ 0 + length (numbers_in (values_of o fs (drop at src))) = omega (arith, length-numbers o fs (drop at src)) in
    ap (λ (i : ℕ). sets (sets lent 0 xs) i ys) l
    ∙ sym (sets_append xs ys lent 0)
    ∙ ap (sets lent 0)
    (sym (numbers_append o fs gs (drop at src) ∙ ap (λ (bs : List ℕ). xs ++ numbers_in (values_of o gs bs)) (drop-drop (size fs) at src)))

-- the fields' numbers, then the attribute, which stands before the backlink
numbers-row : (o : Bool) (f : List ℕ) (p n : ℕ) (q : Shape) → IsRow q → fitting (length_from q) n ≡ true
    → numbers_in (values_of o (row_by q (n - 10)) (drop (p + 6) f))
    ≡ numbers_in (values_of o (fields_by q) (drop (p + 6) f)) ++ (num_of o (take 4 (drop (p + n - 8) f)) ∷ [])
numbers-row o f p n indexed z e = absurd z
numbers-row o f p n (row fs none) z e =
    let at : p + 6 + size fs ≡ p + n - 8 = omega (arith, fixed-length fs n e) in
    numbers_append o fs (s 4 ∷ []) (drop (p + 6) f)
    ∙ ap (λ (l : List ℕ). numbers_in (values_of o fs (drop (p + 6) f)) ++ (num_of o (take 4 l) ∷ []))
    (drop-drop (size fs) (p + 6) f ∙ ap (λ (i : ℕ). drop i f) at)
numbers-row o f p n (row fs (some l)) z e =
    let m = n - 10 - (size fs + 4) in
    let at : p + 6 + size fs + (n - 10 - (size fs + 4)) ≡ p + n - 8 = omega (arith, least-length fs l n e) in
    numbers_append o fs (txt (n - 10 - (size fs + 4)) ∷ s 4 ∷ []) (drop (p + 6) f)
    ∙ ap (λ (b : List ℕ). numbers_in (values_of o fs (drop (p + 6) f)) ++ (num_of o (take 4 b) ∷ []))
    (ap (drop m) (drop-drop (size fs) (p + 6) f) ∙ drop-drop m (p + 6 + size fs) f ∙ ap (λ (i : ℕ). drop i f) at)
numbers-row o f p n (uncompressed y) z e = absurd z
numbers-row o f p n (compressed y) z e = absurd z
numbers-row o f p n unlisted z e = absurd z

-- ---- each number is below its width
abbrev pub Within : List Field → List ℕ → Type 0
Within [] ns = Unit {0}
Within (num g w ∷ fs) [] = Unit {0}
Within (num g w ∷ fs) (n ∷ ns) = (n < 256 ^ w) × Within fs ns
Within (txt w ∷ fs) ns = Within fs ns
Within (gap w ∷ fs) ns = Within fs ns
Within (ident ∷ fs) ns = Within fs ns

within : (o : Bool) (fs : List Field) (bs : List ℕ) → Bytes bs → size fs ≤ length bs → Within fs (numbers_in (values_of o fs bs))
within o [] bs b h = tt
within o (num g w ∷ fs) bs b h = (
  subst (λ (i : ℕ). num_of o (take w bs) < 256 ^ i) (length-take-le w bs (omega arith)) (num_of_bound o (take w bs) (bytes_take w bs b)),
  within o fs (drop w bs) (bytes_drop w bs b) (simp length-drop (omega arith)),
)
within o (txt w ∷ fs) bs b h = within o fs (drop w bs) (bytes_drop w bs b) (simp length-drop (omega arith))
within o (gap w ∷ fs) bs b h = within o fs (drop w bs) (bytes_drop w bs b) (simp length-drop (omega arith))
within o (ident ∷ fs) bs b h = within o fs (drop 2 bs) (bytes_drop 2 bs b) (simp length-drop (omega arith))

-- whatever the width of the characters behind
same-within : (fs gs : List Field) (m n : ℕ) (ns : List ℕ) → Within (fs ++ (txt m ∷ gs)) ns → Within (fs ++ (txt n ∷ gs)) ns
same-within [] gs m n ns h = h
same-within (num g w ∷ fs) gs m n [] h = tt
same-within (num g w ∷ fs) gs m n (x ∷ ns) h = (h.0, same-within fs gs m n ns h.1)
same-within (txt w ∷ fs) gs m n ns h = same-within fs gs m n ns h
same-within (gap w ∷ fs) gs m n ns h = same-within fs gs m n ns h
same-within (ident ∷ fs) gs m n ns h = same-within fs gs m n ns h

bare-within : (q : Shape) (m : ℕ) (ns : List ℕ) → Within (row_by q m) ns → Within (row_by q 0) ns
bare-within indexed m ns h = tt
bare-within (row fs none) m ns h = h
bare-within (row fs (some l)) m ns h = same-within fs (s 4 ∷ []) (m - (size fs + 4)) (0 - (size fs + 4)) ns h
bare-within (uncompressed f) m ns h = tt
bare-within (compressed f) m ns h = tt
bare-within unlisted m ns h = tt

-- ---- the characters
text-length : (o : Bool) (fs : List Field) (bs : List ℕ) → size fs ≤ length bs → length (text_in (values_of o fs bs)) ≡ first_text fs
text-length o [] bs h = refl
text-length o (num g w ∷ fs) bs h = text-length o fs (drop w bs) (simp length-drop (omega arith))
text-length o (txt w ∷ fs) bs h = length-take-le w bs (omega arith)
text-length o (gap w ∷ fs) bs h = text-length o fs (drop w bs) (simp length-drop (omega arith))
text-length o (ident ∷ fs) bs h = text-length o fs (drop 2 bs) (simp length-drop (omega arith))

-- they stand behind the bytes before them
text-fixed : (o : Bool) (fs : List Field) (bs : List ℕ)
    → text_in (values_of o (fs ++ (s 4 ∷ [])) bs) ≡ take (first_text (fs ++ (s 4 ∷ []))) (drop (before_text fs) bs)
text-fixed o [] bs = refl
text-fixed o (num g w ∷ fs) bs = text-fixed o fs (drop w bs) ∙ ap (take (first_text (fs ++ (s 4 ∷ [])))) (drop-drop (before_text fs) w bs)
text-fixed o (txt w ∷ fs) bs = refl
text-fixed o (gap w ∷ fs) bs = text-fixed o fs (drop w bs) ∙ ap (take (first_text (fs ++ (s 4 ∷ [])))) (drop-drop (before_text fs) w bs)
text-fixed o (ident ∷ fs) bs = text-fixed o fs (drop 2 bs) ∙ ap (take (first_text (fs ++ (s 4 ∷ [])))) (drop-drop (before_text fs) 2 bs)

text-last : (o : Bool) (m : ℕ) (fs : List Field) (bs : List ℕ)
    → text_in (values_of o (fs ++ (txt m ∷ s 4 ∷ [])) bs) ≡ take (first_text (fs ++ (txt m ∷ s 4 ∷ []))) (drop (before_text fs) bs)
text-last o m [] bs = refl
text-last o m (num g w ∷ fs) bs =
    text-last o m fs (drop w bs) ∙ ap (take (first_text (fs ++ (txt m ∷ s 4 ∷ [])))) (drop-drop (before_text fs) w bs)
text-last o m (txt w ∷ fs) bs = refl
text-last o m (gap w ∷ fs) bs =
    text-last o m fs (drop w bs) ∙ ap (take (first_text (fs ++ (txt m ∷ s 4 ∷ [])))) (drop-drop (before_text fs) w bs)
text-last o m (ident ∷ fs) bs =
    text-last o m fs (drop 2 bs) ∙ ap (take (first_text (fs ++ (txt m ∷ s 4 ∷ [])))) (drop-drop (before_text fs) 2 bs)

text-stands : (o : Bool) (n : ℕ) (q : Shape) (bs : List ℕ) → IsRow q
    → text_in (values_of o (row_by q n) bs) ≡ take (first_text (row_by q n)) (drop (before_text (fields_by q)) bs)
text-stands o n indexed bs z = absurd z
text-stands o n (row fs none) bs z = text-fixed o fs bs
text-stands o n (row fs (some l)) bs z = text-last o (n - (size fs + 4)) fs bs
text-stands o n (uncompressed f) bs z = absurd z
text-stands o n (compressed f) bs z = absurd z
text-stands o n unlisted bs z = absurd z

row-text : (n : ℕ) (q : Shape) → IsRow q → Textual q → fitting (length_from q) n ≡ true
    → n - 14 - bare_size (fields_by q) ≡ first_text (row_by q (n - 10))
row-text n indexed z t e = absurd z
row-text n (row fs none) z t e = omega (arith, fixed-length fs n e, t.0)
row-text n (row fs (some l)) z t e =
    omega (arith, least-length fs l n e, none_bare fs t, text-behind fs (s 4 ∷ []) (n - 10 - (size fs + 4)) t)
row-text n (uncompressed f) z t e = absurd z
row-text n (compressed f) z t e = absurd z
row-text n unlisted z t e = absurd z

whole_row : (n : ℕ) (q : Shape) → IsRow q → fitting (length_from q) (n - 10 + 10) ≡ true → size (row_by q (n - 10)) ≡ n - 10
whole_row n indexed z e = absurd z
whole_row n (row fs x) z e = row-size fs x (n - 10) e
whole_row n (uncompressed f) z e = absurd z
whole_row n (compressed f) z e = absurd z
whole_row n unlisted z e = absurd z

-- ---- a record that was opened
pub as_only : (k : ℕ) → is_record k ≡ true → records_of k ≡ only k
as_only k e = ap {B = ℕ → Bool} (λ (b : Bool) (c : ℕ). b && eqb c k) e

module _ {k : ℕ} {f : List ℕ} {p : ℕ} {o : Bool} {n : ℕ} (r : Readable (records_of k) f p o n k) where
  pub opened-row : IsRow (shape_of k)
  opened-row = is-row (shape_of k) (both_true (is_record k) (eqb k k) r.asks).0

  plain : Readable (only k) f p o n k
  plain = subst (λ (asks : ℕ → Bool). Readable asks f p o n k) (as_only k (both_true (is_record k) (eqb k k) r.asks).0) r

  pub opened_in : p + n ≤ length f
  opened_in = in-file k plain

  pub opened-fits : fitting (length_from (shape_of k)) n ≡ true
  opened-fits = fits k plain

  pub opened-long : size (fields_by (shape_of k)) + 14 ≤ n
  opened-long = long-enough (shape_of k) n opened-row opened-fits

  there : read_values f p ≡ values_of o (row_of k n) (drop (p + 6) f)
  there = values-there k plain opened-row

  -- its row fills its data
  filled : size (row_by (shape_of k) (n - 10)) ≤ length (drop (p + 6) f)
  filled =
      let e : n - 10 + 10 ≡ n = omega (arith, opened-long) in
      omega (
        arith,
        whole_row n (shape_of k) opened-row (ap (fitting (length_from (shape_of k))) e ∙ opened-fits),
        length-drop (p + 6) f,
        opened_in,
        opened-long,
      )

  numbers-there : row_numbers f p
      ≡ numbers_in (values_of o (fields_by (shape_of k)) (drop (p + 6) f)) ++ (num_of o (take 4 (drop (p + n - 8) f)) ∷ [])
  numbers-there = ap numbers_in there ∙ numbers-row o f p n (shape_of k) opened-row opened-fits

  pub count-there : length (row_numbers f p) ≡ count_of k
  count-there =
      ap (λ (vs : List Value). length (numbers_in vs)) there
      ∙ length-numbers o (row_of k n) (drop (p + 6) f)
      ∙ row-many (shape_of k) (n - 10) opened-row
      ∙ sym (row-many (shape_of k) (0 - 10) opened-row)

  pub text-there : n - 14 - bare_size (fields_by (shape_of k)) ≡ length (text_in (read_values f p))
  text-there =
      row-text n (shape_of k) opened-row (textual k) opened-fits
      ∙ sym (text-length o (row_by (shape_of k) (n - 10)) (drop (p + 6) f) filled)
      ∙ ap (λ (vs : List Value). length (text_in vs)) (sym there)

  module _ (lent : List ℕ) (held : ℕ) (is : held ≡ many (fields_by (shape_of k))) where
    few : held + 1 ≡ count_of k
    few = omega (arith, is, row-many (shape_of k) (0 - 10) opened-row)

    -- too few numbers are lent
    pub untaken : length lent ≤ held → RowAt k f p lent (Refused 19 0) lent
    unfolding row_answer
    untaken h =
        let short = lt-ltb (length lent) (count_of k) (omega (arith, few)) in
        let e : answer.Refused 19 0 ≡ row_answer k f p (length lent) = ap₂ lent_by (sym short) r.answer in
        record {
          answer = tells e;
          outcome = ap (λ (x : Answer). answered x (row_text k f p)) e;
          memory = ap (λ (x : Answer). left_by x (row_numbers f p) lent) e;
        }

    -- enough are
    module _ (room : held < length lent) where
      accepted : accepting 1 0 ≡ row_answer k f p (length lent)
      unfolding row_answer
      accepted = ap₂ lent_by (sym (le-ltb (length lent) (count_of k) (omega (arith, few)))) r.answer

      stored : sets (sets lent 0 (numbers_in (values_of o (fields_by (shape_of k)) (drop (p + 6) f)))) held
          (num_of o (take 4 (drop (p + n - 8) f)) ∷ [])
          ≡ row_numbers f p ++ drop (length (row_numbers f p)) lent
      stored =
          let xs = numbers_in (values_of o (fields_by (shape_of k)) (drop (p + 6) f)) in
          let v = num_of o (take 4 (drop (p + n - 8) f)) in
          let l : held ≡ 0 + length (numbers_in (values_of o (fields_by (shape_of k)) (drop (p + 6) f))) =
          omega (arith, is, length-numbers o (fields_by (shape_of k)) (drop (p + 6) f)) in
          let z : 0 + length (row_numbers f p) ≡ length (row_numbers f p) = omega arith in
          ap (λ (i : ℕ). sets (sets lent 0 xs) i (v ∷ [])) l
          ∙ sym (sets_append xs (v ∷ []) lent 0)
          ∙ ap (sets lent 0) (sym numbers-there)
          ∙ sets-eq (row_numbers f p) lent 0 (omega (arith, count-there, few))
          ∙ ap (λ (i : ℕ). row_numbers f p ++ drop i lent) z

      pub taken : (t : Part) (left : List ℕ) → t ≡ row_text k f p
          → left ≡ sets (sets lent 0 (numbers_in (values_of o (fields_by (shape_of k)) (drop (p + 6) f)))) held
          (num_of o (take 4 (drop (p + n - 8) f)) ∷ [])
          → RowAt k f p lent (Read t) left
      taken t left e h =
          record {
            answer = tells accepted;
            outcome = ap Read e ∙ ap (λ (x : Answer). answered x (row_text k f p)) accepted;
            memory = h ∙ stored ∙ ap (λ (x : Answer). left_by x (row_numbers f p) lent) accepted;
          }

  -- where its characters are said to stand stand those of its content
  pub characters : characters_at f (row_text k f p) ≡ text_in (read_values f p)
  characters =
      let at = p + 6 in
      let before = before_text (fields_by (shape_of k)) in
      let fs = row_by (shape_of k) (n - 10) in
      ap (λ (i : ℕ). take i (drop (at + before) f))
      (ap (λ (vs : List Value). length (text_in vs)) there ∙ text-length o fs (drop at f) filled)
      ∙ ap (take (first_text fs)) (sym (drop-drop before at f))
      ∙ sym (text-stands o (n - 10) (shape_of k) (drop at f) opened-row)
      ∙ ap text_in (sym there)

  -- each of its numbers is below its width
  pub each_within : Bytes f → Within (row_of k 0) (row_numbers f p)
  each_within b =
      let w = within o (row_by (shape_of k) (n - 10)) (drop (p + 6) f) (bytes_drop (p + 6) f b) filled in
      bare-within (shape_of k) (n - 10) (row_numbers f p)
      (subst (λ (vs : List Value). Within (row_by (shape_of k) (n - 10)) (numbers_in vs)) (sym there) w)

-- ---- a refusal that the opening gave
pub unopened : (k : ℕ) (f : List ℕ) (p : ℕ) (lent : List ℕ) (c q : ℕ) → answer.Refused c q ≡ read_answer (records_of k) f p
    → RowAt k f p lent (Refused c q) lent
unfolding row_answer
unopened k f p lent c q h =
    let e : answer.Refused c q ≡ row_answer k f p (length lent) = ap (lent_by (ltb (length lent) (count_of k))) h in
    record {
      answer = tells e;
      outcome = ap (λ (x : Answer). answered x (row_text k f p)) e;
      memory = ap (λ (x : Answer). left_by x (row_numbers f p) lent) e;
    }

-- the tuple's type is the one asked for
pub opened_as : {k : ℕ} {f : List ℕ} {p : ℕ} {o : Bool} {n i : ℕ} → Readable (records_of k) f p o n i → Readable (records_of k) f p o n k
opened_as {k} {f} {p} {o} {n} {i} r =
    subst (λ (j : ℕ). Readable (records_of k) f p o n j) (eqb-true i k (both_true (is_record k) (eqb i k) r.asks).1) r
