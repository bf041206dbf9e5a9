-- What the writer of rows wrote the reader of rows reads back, in both byte orders: once over the row, and for a view of it. Assumes
-- nothing.
use mathlib.Core.Path.{◌≡◌, refl, sym, ap, ap₂, subst, ◌∙◌}
use mathlib.Core.Bool.{Bool, true, false, not, ◌&&◌}
use mathlib.Core.List.{List, [], ◌∷◌, ◌++◌}
use mathlib.Core.Option.{Option, some, none}
use Prim.Native.Nat.{ℕ, zero, suc, ◌+◌, ◌-◌, ◌%◌, ◌^◌, ◌≤◌, ◌<◌}
use native.Mathlib.Omega.{arith}
use borrow.Author.Tests.{eqb-true, leb-true, ltb-false, le-ltb, not-false}
use lib.Dec.{eqb, leb, ltb}
use lib.IntN.{ℤ, pos, negsuc}
use lib.ListN.{length, take, drop, replicate, length-replicate}
use lib.Seq.{length-take-le, take_all}
use Rattle.rules.proofs.Bools.{both_true}
use Rattle.order.specs.Order.{Bytes}
use Rattle.layout.specs.declared.Counts.{Counts}
use Rattle.layout.specs.Answer.{Answer}
use Rattle.layout.specs.Answer.{Accepted}
use Rattle.layout.specs.Answers.{accepting, left_by}
use Rattle.layout.specs.Fields.{Field, num, txt, gap, ident, s, size, many, bare_size}
use Rattle.layout.specs.Types.{Shape, indexed, row, uncompressed, compressed, unlisted, fitting, shape_of}
use Rattle.layout.specs.Types.{lengths_of, length_from, listings}
use Rattle.layout.proofs.Tables.{alike_all}
use Rattle.frame.specs.Frames.{allowed}
use Rattle.frame.proofs.Frames.{allowed_of}
use Rattle.turning.specs.Rows.{woven, numbers_in, text_in, Fit, fit-end, fit-num, fit-txt, fit-gap, fit-ident, Lettered}
use Rattle.turning.specs.inner.Codes.{text_fits}
use Rattle.tuples.specs.Readers.{is_record, only, read_answer, read_values, row_by, row_of}
use Rattle.tuples.specs.Writers.{Written, plain_bytes}
use Rattle.layout.proofs.Families.{IsRow}
use Rattle.rows.specs.Readers.{count_of, fields_by, lent_by, row_answer, row_numbers, row_text, characters_at, answered, RowAt}
use Rattle.rows.specs.Writers.{row_values, row_length, RowWritten}
use Rattle.rows.specs.Integers.{integer, pattern, integers, patterns, row_integers, InRange, Typed}
use Rattle.rows.specs.RowRead.{RowRead}
use Rattle.rows.specs.RowRead.{Read}
use Rattle.rows.proofs.Shapes.{is-row, no_text, Textual, textual, none_bare, fits_by, fixed-length}
use Rattle.rows.proofs.Writing.{lengths-row}
use Rattle.rows.proofs.Reading.{as_only}
use Rattle.rows.proofs.Views.{there-characters}
use Rattle.roundtrip.specs.Held.{Holds, Filled}
use Rattle.roundtrip.specs.Rows.{RowSound, RowBack}
use Rattle.roundtrip.proofs.Rows.{signed-pattern, pattern-below, row-answer, row-values}
use Rattle.roundtrip.proofs.Written.{written-kept, written_held}

-- ---- the lengths of a record are multiples of four, sixteen at least: one test over the listed types
abbrev by_fours : Shape → Bool
by_fours indexed = true
by_fours (row fs none) = eqb ((size fs + 14) % 4) 0 && leb 16 (size fs + 14)
by_fours (row fs (some least)) = eqb ((size fs + 14 + least) % 4) 0 && leb 16 (size fs + 14 + least)
by_fours (uncompressed f) = true
by_fours (compressed f) = true
by_fours unlisted = true

by-fours : (k : ℕ) → by_fours (shape_of k) ≡ true
by-fours = alike_all (λ k l. by_fours l.shape) (λ k l. true) (unfold listings in refl) (λ k. refl) (λ k. refl)

allowed-row : (fs : List Field) (x : Option ℕ) (n : ℕ) → by_fours (row fs x) ≡ true → fitting (length_from (row fs x)) n ≡ true → n ≤ 262144
    → allowed n ≡ true
allowed-row fs none n e f h =
    let p = both_true (eqb ((size fs + 14) % 4) 0) _ e in
    let is : n ≡ size fs + 14 = eqb-true n (size fs + 14) f in
    let four : (size fs + 14) % 4 ≡ 0 = eqb-true ((size fs + 14) % 4) 0 p.0 in
    let long : 16 ≤ size fs + 14 = leb-true 16 (size fs + 14) p.1 in
    allowed_of n (ap (λ (m : ℕ). m % 4) is ∙ four) (omega arith) h
allowed-row fs (some least) n e f h =
    let p = both_true (eqb ((size fs + 14 + least) % 4) 0) _ e in
    let q = both_true (leb (size fs + 14 + least) n) _ f in
    let four : (size fs + 14 + least) % 4 ≡ 0 = eqb-true ((size fs + 14 + least) % 4) 0 p.0 in
    let long : 16 ≤ size fs + 14 + least = leb-true 16 (size fs + 14 + least) p.1 in
    let more : size fs + 14 + least ≤ n = leb-true (size fs + 14 + least) n q.0 in
    let steps : (n - (size fs + 14 + least)) % 4 ≡ 0 = eqb-true ((n - (size fs + 14 + least)) % 4) 0 q.1 in
    allowed_of n (omega arith) (omega arith) h

-- ---- values woven from numbers and characters
none-taken : (m : ℕ) (ns : List ℕ) → take m ns ≡ take (0 + m) ns
none-taken m ns = let z : m ≡ 0 + m = omega arith in ap (λ (i : ℕ). take i ns) z

pub numbers-woven : (fs : List Field) (ns t : List ℕ) → many fs ≤ length ns → numbers_in (woven fs ns t) ≡ take (many fs) ns
numbers-woven [] ns t h = refl
numbers-woven (num g w ∷ fs) [] t h = absurd (omega (arith, h))
numbers-woven (num g w ∷ fs) (n ∷ ns) t h =
    let one : suc (many fs) ≡ 1 + many fs = omega arith in
    ap (λ (l : List ℕ). n ∷ l) (numbers-woven fs ns t (omega arith)) ∙ ap (λ (i : ℕ). take i (n ∷ ns)) one
numbers-woven (txt w ∷ fs) ns t h = numbers-woven fs ns t (omega arith) ∙ none-taken (many fs) ns
numbers-woven (gap w ∷ fs) ns t h = numbers-woven fs ns t (omega arith) ∙ none-taken (many fs) ns
numbers-woven (ident ∷ fs) ns t h = numbers-woven fs ns t (omega arith) ∙ none-taken (many fs) ns

lettered-woven : (fs : List Field) (ns t : List ℕ) → Bytes t → Lettered (woven fs ns t)
lettered-woven [] ns t b = tt
lettered-woven (num g w ∷ fs) ns t b = lettered-woven fs (drop 1 ns) t b
lettered-woven (txt w ∷ fs) ns t b = (b, lettered-woven fs ns t b)
lettered-woven (gap w ∷ fs) ns t b = lettered-woven fs ns t b
lettered-woven (ident ∷ fs) ns t b = lettered-woven fs ns t b

-- the characters: those handed over where the row has any, before or behind the attribute's place
text-woven : (fs : List Field) (ns t : List ℕ) → no_text fs ≡ false → text_in (woven (fs ++ (s 4 ∷ [])) ns t) ≡ t
text-woven [] ns t e = absurd (let z : ◌≡◌ {A = ℕ} 0 1 = cc in omega arith)
text-woven (num g w ∷ fs) ns t e = text-woven fs (drop 1 ns) t e
text-woven (txt w ∷ fs) ns t e = refl
text-woven (gap w ∷ fs) ns t e = text-woven fs ns t e
text-woven (ident ∷ fs) ns t e = text-woven fs ns t e

text-none : (fs : List Field) (ns t : List ℕ) → no_text fs ≡ true → text_in (woven (fs ++ (s 4 ∷ [])) ns t) ≡ []
text-none [] ns t e = refl
text-none (num g w ∷ fs) ns t e = text-none fs (drop 1 ns) t e
text-none (txt w ∷ fs) ns t e = absurd (let z : ◌≡◌ {A = ℕ} 0 1 = cc in omega arith)
text-none (gap w ∷ fs) ns t e = text-none fs ns t e
text-none (ident ∷ fs) ns t e = text-none fs ns t e

text-last : (fs gs : List Field) (m : ℕ) (ns t : List ℕ) → no_text fs ≡ true → text_in (woven (fs ++ (txt m ∷ gs)) ns t) ≡ t
text-last [] gs m ns t e = refl
text-last (num g w ∷ fs) gs m ns t e = text-last fs gs m (drop 1 ns) t e
text-last (txt w ∷ fs) gs m ns t e = absurd (let z : ◌≡◌ {A = ℕ} 0 1 = cc in omega arith)
text-last (gap w ∷ fs) gs m ns t e = text-last fs gs m ns t e
text-last (ident ∷ fs) gs m ns t e = text-last fs gs m ns t e

no_length : (t : List ℕ) → length t ≡ 0 → [] ≡ t
no_length [] e = refl
no_length (x ∷ t) e = absurd (omega (arith, e))

text-fixed : (fs : List Field) (ns t : List ℕ) (n : ℕ) → fitting (length_from (row fs none)) n ≡ true → n ≡ bare_size fs + length t + 14
    → (b : Bool) → no_text fs ≡ b → text_in (woven (fs ++ (s 4 ∷ [])) ns t) ≡ t
text-fixed fs ns t n e l true b = text-none fs ns t b ∙ no_length t (omega (arith, fixed-length fs n e, none_bare fs b, l))
text-fixed fs ns t n e l false b = text-woven fs ns t b

text-back : (q : Shape) (ns t : List ℕ) (n : ℕ) → IsRow q → Textual q → fitting (length_from q) n ≡ true
    → n ≡ bare_size (fields_by q) + length t + 14
    → text_in (woven (row_by q 0) ns t) ≡ t
text-back indexed ns t n z x e l = absurd z
text-back (row fs none) ns t n z x e l = text-fixed fs ns t n e l (no_text fs) refl
text-back (row fs (some least)) ns t n z x e l = text-last fs (s 4 ∷ []) (0 - (size fs + 4)) ns t x
text-back (uncompressed f) ns t n z x e l = absurd z
text-back (compressed f) ns t n z x e l = absurd z
text-back unlisted ns t n z x e l = absurd z

-- ---- what the writer takes: a record's type, numbers enough, a length that fits and isn't too long
pub record Taken (k : ℕ) (ns t : List ℕ) : Type 0 where
  pub type : is_record k ≡ true
  pub there : count_of k ≤ length ns
  pub fits : fitting (lengths_of k) (row_length k t) ≡ true
  pub most : row_length k t ≤ 262144

pub taken : {k : ℕ} {ns t : List ℕ} (o : Bool) {out left : List ℕ} {n : Counts} → RowWritten k ns t o out (Accepted n) left → Taken k ns t
taken {k} {ns} {t} o w =
    let c = written-kept (refl, (refl, (refl, (refl, (refl, tt))))) w in
    record {
      type = not-false _ c.0;
      there = ltb-false (length ns) (count_of k) c.1.0;
      fits = not-false _ c.1.1.0;
      most = ltb-false 262144 (row_length k t) c.1.1.1.0;
    }

module _ {k : ℕ} {ns t : List ℕ} (w : Taken k ns t) (g : RowSound k ns t) where
  is : IsRow (shape_of k)
  is = is-row (shape_of k) w.type

  fits-row : fitting (length_from (shape_of k)) (row_length k t) ≡ true
  fits-row = lengths-row k (row_length k t) w.fits

  even : by_fours (shape_of k) ≡ true
  even = by-fours k

  fill : (q : Shape) → shape_of k ≡ q → IsRow q → Filled k (row_values k ns t)
  fill indexed e z = absurd z
  fill (row fs x) e z =
      let n = row_length k t in
      let whole : row_length k t - 10 + 10 ≡ row_length k t = omega arith in
      let f = ap (λ (q : Shape). fitting (length_from q) (row_length k t)) (sym e) ∙ fits-row in
      record {
        fields = fs;
        characters = x;
        size = row_length k t - 10;
        code = g.code;
        shape = e;
        fits = ap (fitting (length_from (row fs x))) whole ∙ f;
        whole = ap allowed whole ∙ allowed-row fs x n (ap by_fours (sym e) ∙ even) f w.most;
        fit = subst (λ (q : Shape). Fit (row_by q (row_length k t - 10)) (row_values k ns t)) e g.values;
        lettered = lettered-woven (row_of k 0) ns t g.characters;
      }
  fill (uncompressed f) e z = absurd z
  fill (compressed f) e z = absurd z
  fill unlisted e z = absurd z

  filled_row : Filled k (row_values k ns t)
  filled_row = fill (shape_of k) refl is

  -- ---- a file that holds its tuple
  module _ {f : List ℕ} {p : ℕ} {o : Bool} (h : Holds f p o (plain_bytes o k (row_values k ns t))) where
    pub answer_back : read_answer (only k) f p ≡ accepting 1 0
    answer_back = row-answer filled_row h

    pub values-back : read_values f p ≡ row_values k ns t
    values-back = row-values filled_row h

    pub numbers-back : row_numbers f p ≡ take (count_of k) ns
    numbers-back = ap numbers_in values-back ∙ numbers-woven (row_of k 0) ns t w.there

    accepted : (lent : List ℕ) → count_of k ≤ length lent → row_answer k f p (length lent) ≡ accepting 1 0
    unfolding row_answer
    accepted lent m =
        ap₂ lent_by (le-ltb (length lent) (count_of k) m) (ap (λ (asks : ℕ → Bool). read_answer asks f p) (as_only k w.type) ∙ answer_back)

    read_back : (lent left : List ℕ) (r : RowRead) → count_of k ≤ length lent → RowAt k f p lent r left
        → (r ≡ Read (row_text k f p)) × (left ≡ take (count_of k) ns ++ drop (count_of k) lent)
    read_back lent left r m a =
        let e = accepted lent m in
        let l : length (take (count_of k) ns) ≡ count_of k = length-take-le (count_of k) ns w.there in (
          a.outcome ∙ ap (λ (x : Answer). answered x (row_text k f p)) e,
          a.memory
              ∙ ap₂ (λ (x : Answer) (xs : List ℕ). left_by x xs lent) e numbers-back
              ∙ ap (λ (i : ℕ). take (count_of k) ns ++ drop i lent) l,
        )

    pub characters-back : characters_at f (row_text k f p) ≡ t
    characters-back =
        there-characters k f p (sym (ap (λ (asks : ℕ → Bool). read_answer asks f p) (as_only k w.type) ∙ answer_back))
        ∙ ap text_in values-back
        ∙ text-back (shape_of k) ns t (row_length k t) is (textual k) fits-row refl

    pub row_back : RowBack k ns t f p
    row_back = record { numbers = numbers-back; read = read_back; characters = characters-back }

-- what the writer of rows wrote, its reader reads back
pub row-again : {k : ℕ} {ns t : List ℕ} {o : Bool} {out left f : List ℕ} {p : ℕ} {n : Counts} → RowSound k ns t
    → RowWritten k ns t o out (Accepted n) left
    → Holds f p o (take n.written left) → RowBack k ns t f p
row-again {o = o} g w h = row_back (taken o w) g (written_held (refl, (refl, (refl, (refl, (refl, tt))))) w h)

-- ---- a view of the row: integers, each in the range of its width and sign
-- a row whose characters are so many
abbrev widened : List Field → ℕ → List Field
widened [] m = []
widened (num g w ∷ fs) m = num g w ∷ widened fs m
widened (txt w ∷ fs) m = txt m ∷ widened fs m
widened (gap w ∷ fs) m = gap w ∷ widened fs m
widened (ident ∷ fs) m = ident ∷ widened fs m

below : (g : Bool) (w : ℕ) (z : ℤ) → InRange g w z → pattern g w z < 256 ^ w
below false w (pos n) h = h
below false w (negsuc n) h = absurd h
below true zero z h = absurd h
below true (suc w) z h = pattern-below w z h

fit-widened : (fs : List Field) (zs : List ℤ) (t : List ℕ) → Typed fs zs → Fit (widened fs (length t)) (woven fs (patterns fs zs) t)
fit-widened [] [] t h = fit-end
fit-widened [] (z ∷ zs) t h = absurd h
fit-widened (num g w ∷ fs) [] t h = absurd h
fit-widened (num g w ∷ fs) (z ∷ zs) t h = fit-num (below g w z h.0) (fit-widened fs zs t h.1)
fit-widened (txt w ∷ fs) zs t h = fit-txt refl (fit-widened fs zs t h)
fit-widened (gap w ∷ fs) zs t h = fit-gap (fit-widened fs zs t h)
fit-widened (ident ∷ fs) zs t h = fit-ident (fit-widened fs zs t h)

-- a row of as many characters as it says is itself
widened-fit : (fs : List Field) (t : List ℕ) → text_fits fs t ≡ true → widened (fs ++ (s 4 ∷ [])) (length t) ≡ fs ++ (s 4 ∷ [])
widened-fit [] t e = refl
widened-fit (num g w ∷ fs) t e = ap (λ (l : List Field). num g w ∷ l) (widened-fit fs t e)
widened-fit (txt w ∷ fs) t e =
    let b = both_true (eqb (length t) w) (text_fits fs t) e in
    ap₂ (λ (m : ℕ) (l : List Field). txt m ∷ l) (eqb-true (length t) w b.0) (widened-fit fs t b.1)
widened-fit (gap w ∷ fs) t e = ap (λ (l : List Field). gap w ∷ l) (widened-fit fs t e)
widened-fit (ident ∷ fs) t e = ap (λ (l : List Field). ident ∷ l) (widened-fit fs t e)

widened-last : (fs : List Field) (a m : ℕ) → no_text fs ≡ true → widened (fs ++ (txt a ∷ s 4 ∷ [])) m ≡ fs ++ (txt m ∷ s 4 ∷ [])
widened-last [] a m e = refl
widened-last (num g w ∷ fs) a m e = ap (λ (l : List Field). num g w ∷ l) (widened-last fs a m e)
widened-last (txt w ∷ fs) a m e = absurd (let z : ◌≡◌ {A = ℕ} 0 1 = cc in omega arith)
widened-last (gap w ∷ fs) a m e = ap (λ (l : List Field). gap w ∷ l) (widened-last fs a m e)
widened-last (ident ∷ fs) a m e = ap (λ (l : List Field). ident ∷ l) (widened-last fs a m e)

-- so is the row of a type, in the tuple that its characters make
as_wide : (q : Shape) (t : List ℕ) (n : ℕ) → IsRow q → Textual q → fitting (length_from q) n ≡ true
    → n ≡ bare_size (fields_by q) + length t + 14
    → widened (row_by q 0) (length t) ≡ row_by q (n - 10)
as_wide indexed t n z x e l = absurd z
as_wide (row fs none) t n z x e l =
    let m : length t ≡ length (replicate {A = ℕ} (size fs - bare_size fs) 0) =
    omega (arith, l, fixed-length fs n e, length-replicate {A = ℕ} (size fs - bare_size fs) 0) in
    widened-fit fs t (fits_by fs t (replicate (size fs - bare_size fs) 0) m ∙ x.1)
as_wide (row fs (some least)) t n z x e l =
    let m : length t ≡ n - 10 - (size fs + 4) = omega (arith, l, none_bare fs x) in
    widened-last fs (0 - (size fs + 4)) (length t) x ∙ ap (λ (i : ℕ). fs ++ (txt i ∷ s 4 ∷ [])) m
as_wide (uncompressed f) t n z x e l = absurd z
as_wide (compressed f) t n z x e l = absurd z
as_wide unlisted t n z x e l = absurd z

-- the integers are found again from their patterns
integer-back : (g : Bool) (w : ℕ) (z : ℤ) → InRange g w z → integer g w (pattern g w z) ≡ z
integer-back false w (pos n) h = refl
integer-back false w (negsuc n) h = absurd h
integer-back true zero z h = absurd h
integer-back true (suc w) z h = signed-pattern w z h

pub integers-back : (fs : List Field) (zs : List ℤ) → Typed fs zs → integers fs (patterns fs zs) ≡ zs
integers-back [] [] h = refl
integers-back [] (z ∷ zs) h = absurd h
integers-back (num g w ∷ fs) [] h = absurd h
integers-back (num g w ∷ fs) (z ∷ zs) h = ap₂ (λ (x : ℤ) (l : List ℤ). x ∷ l) (integer-back g w z h.0) (integers-back fs zs h.1)
integers-back (txt w ∷ fs) zs h = integers-back fs zs h
integers-back (gap w ∷ fs) zs h = integers-back fs zs h
integers-back (ident ∷ fs) zs h = integers-back fs zs h

length-patterns : (fs : List Field) (zs : List ℤ) → Typed fs zs → length (patterns fs zs) ≡ many fs
length-patterns [] [] h = refl
length-patterns [] (z ∷ zs) h = absurd h
length-patterns (num g w ∷ fs) [] h = absurd h
length-patterns (num g w ∷ fs) (z ∷ zs) h = omega (arith, length-patterns fs zs h.1)
length-patterns (txt w ∷ fs) zs h = omega (arith, length-patterns fs zs h)
length-patterns (gap w ∷ fs) zs h = omega (arith, length-patterns fs zs h)
length-patterns (ident ∷ fs) zs h = omega (arith, length-patterns fs zs h)

-- the fields of a view, as the integers zs of its row, and its characters t, in a file that holds what its writer writes of them
pub record Viewed (k : ℕ) (zs : List ℤ) (t f : List ℕ) (p : ℕ) : Type 0 where
  pub answer : read_answer (only k) f p ≡ accepting 1 0
  pub integers : row_integers k f p ≡ zs
  pub characters : characters_at f (row_text k f p) ≡ t

module _ (k : ℕ) (zs : List ℤ) (t : List ℕ) (c : k < 65536) (g : Typed (row_of k 0) zs) (b : Bytes t)
    (w : Taken k (patterns (row_of k 0) zs) t) where
  abbrev ns : List ℕ
  ns = patterns (row_of k 0) zs

  sound : RowSound k (patterns (row_of k 0) zs) t
  sound =
      let n = row_length k t in
      let wide = as_wide (shape_of k) t n (is-row (shape_of k) w.type) (textual k) (lengths-row k n w.fits) refl in
      record {
        code = c;
        values = subst (λ (fs : List Field). Fit fs (row_values k ns t)) wide (fit-widened (row_of k 0) zs t g);
        characters = b;
      }

  pub viewed : {f : List ℕ} {p : ℕ} {o : Bool} → Holds f p o (plain_bytes o k (row_values k (patterns (row_of k 0) zs) t)) → Viewed k zs t f p
  viewed h =
      let all = take_all (count_of k) ns (omega (arith, length-patterns (row_of k 0) zs g)) in
      record {
        answer = answer_back w sound h;
        integers = ap (integers (row_of k 0)) (numbers-back w sound h ∙ all) ∙ integers-back (row_of k 0) zs g;
        characters = characters-back w sound h;
      }

-- what the writer of a view wrote: by all rules of the row, or by 19 alone
pub again-row : (k : ℕ) (zs : List ℤ) (t : List ℕ) → k < 65536 → Typed (row_of k 0) zs → Bytes t
    → (o : Bool) {out left f : List ℕ} {p : ℕ} {n : Counts} → RowWritten k (patterns (row_of k 0) zs) t o out (Accepted n) left
    → Holds f p o (take n.written left) → Viewed k zs t f p
again-row k zs t c g b o w h = viewed k zs t c g b (taken o w) (written_held (refl, (refl, (refl, (refl, (refl, tt))))) w h)

pub again-plain : (k : ℕ) (zs : List ℤ) (t : List ℕ) → k < 65536 → Typed (row_of k 0) zs → Bytes t
    → not (is_record k) ≡ false → not (fitting (lengths_of k) (row_length k t)) ≡ false → ltb 262144 (row_length k t) ≡ false
    → (o : Bool) {out left f : List ℕ} {p : ℕ} {n : Counts}
    → Written [] (plain_bytes o k (row_values k (patterns (row_of k 0) zs) t)) out (Accepted n) left
    → Holds f p o (take n.written left) → Viewed k zs t f p
again-plain k zs t c g b e f l o w h =
    viewed k zs t c g b
    (record {
      type = not-false _ e;
      there = omega (arith, length-patterns (row_of k 0) zs g);
      fits = not-false _ f;
      most = ltb-false 262144 (row_length k t) l;
    })
    (written_held (refl, tt) w h)
