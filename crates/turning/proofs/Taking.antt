-- The loop over a row's codes that reads its numbers. Assumes nothing.
use mathlib.Core.Path.{◌≡◌, refl, sym, ap, ap₂, ◌∙◌}
use mathlib.Core.Bool.{Bool, true, false}
use mathlib.Core.List.{List, [], ◌∷◌, ◌++◌}
use mathlib.Core.Logic.{◌⊎◌}
use mathlib.Core.Option.{Option, some, none}
use Prim.Native.Nat.{ℕ, ◌+◌, ◌<◌, ◌≤◌, zero-le}
use native.Mathlib.Omega.{arith}
use lib.Dec.{eqb}
use lib.ListN.{length, get_or, drop, length-append}
use lib.Seq.{sets, length-sets, drop-drop}
use Rattle.order.proofs.Stores.{sets_append}
use Rattle.layout.specs.Fields.{Field, num, txt, gap, ident, width_of, size, takes, many}
use Rattle.layout.specs.inner.Codes.{field_of, fields_from, fields_of}
use Rattle.turning.specs.Rows.{values_of, numbers_in}
use Rattle.turning.specs.inner.Codes.{code_width, code_takes, field_numbers, code_numbers}
use Rattle.turning.proofs.Turned.{space_by, space-by, left, field-none, size_step, row-end}

-- ---- what each arm of the code reads: the number of its codes, or none
abbrev pub Took : Option Field → Bool → List ℕ → List ℕ → ℕ → ℕ → ℕ → List ℕ → Type 0
Took x o bs ns next w n now = (now ≡ sets ns next (code_numbers o x bs)) × (((w ≡ code_width x) × (0 < w)) × (n ≡ code_takes x))

module _ (k next : ℕ) (o : Bool) (bs ns : List ℕ) where
  pub took_text : k ≡ 99 → Took (field_of k) o bs ns next 30 0 ns
  unfolding field_of
  took_text a = rw a (refl, ((refl, omega arith), refl))

  space : (a b : Bool) → (space_by a b ≡ none → ⊥) → Took (space_by a b) o bs ns next 2 0 ns
  space true b h = (refl, ((refl, omega arith), refl))
  space false true h = (refl, ((refl, omega arith), refl))
  space false false h = absurd (h refl)

  pub took_space : ((k ≡ 50) ⊎ (k ≡ 115) → ⊥) → ((k ≡ 52) ⊎ (k ≡ 83) → ⊥) → (k ≡ 99 → ⊥) → (field_of k ≡ none → ⊥)
      → Took (field_of k) o bs ns next 2 0 ns
  took_space a b c h =
      let e = space-by a b c in
      rw e (space (eqb k 122) (eqb k 105) (rw e at h))

-- ---- one field
pub numbers_cons : (o : Bool) (f : Field) (fs : List Field) (bs : List ℕ)
    → numbers_in (values_of o (f ∷ fs) bs) ≡ field_numbers o f bs ++ numbers_in (values_of o fs (drop (width_of f) bs))
numbers_cons o (num g w) fs bs = refl
numbers_cons o (txt w) fs bs = refl
numbers_cons o (gap w) fs bs = refl
numbers_cons o ident fs bs = refl

length-field-numbers : (o : Bool) (f : Field) (bs : List ℕ) → length (field_numbers o f bs) ≡ takes f
length-field-numbers o (num g w) bs = refl
length-field-numbers o (txt w) bs = refl
length-field-numbers o (gap w) bs = refl
length-field-numbers o ident bs = refl

-- ---- a row has as many numbers as its fields take
pub length-numbers : (o : Bool) (fs : List Field) (bs : List ℕ) → length (numbers_in (values_of o fs bs)) ≡ many fs
length-numbers o [] bs = refl
length-numbers o (f ∷ fs) bs =
    ap length (numbers_cons o f fs bs)
    ∙ length-append (field_numbers o f bs) (numbers_in (values_of o fs (drop (width_of f) bs)))
    ∙ ap₂ ◌+◌ (length-field-numbers o f bs) (length-numbers o fs (drop (width_of f) bs))

-- ---- a code's field, if it has one, and the fields behind it
one_from : (x : Option Field) (fs : List Field) → length (fields_from x fs) ≤ 1 + length fs
one_from none fs = zero-le
one_from (some f) fs = omega arith

module _ (fs : List Field) where
  few : (x : Option Field) → code_takes x ≤ many (fields_from x fs)
  few none = zero-le
  few (some f) = omega arith

  module _ (w : ℕ) (some_bytes : w ≡ 0 → ⊥) where
    many-from : (x : Option Field) → w ≡ code_width x → many (fields_from x fs) ≡ code_takes x + many fs
    many-from none e = absurd (some_bytes e)
    many-from (some f) e = refl

    -- what was read, and what is left to read, is all
    read-from : (x : Option Field) → w ≡ code_width x → (o : Bool) (src ns : List ℕ) (from next : ℕ)
        → sets (sets ns next (code_numbers o x (drop from src))) (next + code_takes x) (numbers_in (values_of o fs (drop (from + w) src)))
        ≡ sets ns next (numbers_in (values_of o (fields_from x fs) (drop from src)))
    read-from none e o src ns from next = absurd (some_bytes e)
    read-from (some f) e o src ns from next =
        let bs = drop from src in
        let taken = field_numbers o f (drop from src) in
        let rest = numbers_in (values_of o fs (drop (width_of f) (drop from src))) in
        ap (λ (i : ℕ). sets (sets ns next taken) (next + takes f) (numbers_in (values_of o fs (drop (from + i) src)))) e
        ∙ ap (λ (l : List ℕ). sets (sets ns next taken) (next + takes f) (numbers_in (values_of o fs l)))
        (sym (drop-drop (width_of f) from src))
        ∙ ap (λ (i : ℕ). sets (sets ns next taken) (next + i) rest) (sym (length-field-numbers o f bs))
        ∙ sym (sets_append taken rest ns next)
        ∙ ap (sets ns next) (sym (numbers_cons o f fs bs))

-- ---- the code at i of a row
module _ (row : List ℕ) (i : ℕ) (more : i < length row) where
  abbrev behind : List Field
  behind = fields_of (drop (i + 1) row)

  abbrev here : Option Field
  here = field_of (get_or row i 0)

  pub takes-room : code_takes (field_of (get_or row i 0)) ≤ many (fields_of (drop i row))
  takes-room = rw (left row i more) (few behind here)

  module _ (w : ℕ) (is : w ≡ code_width (field_of (get_or row i 0))) (some_bytes : w ≡ 0 → ⊥) where
    pub many-step : many (fields_of (drop i row)) ≡ code_takes (field_of (get_or row i 0)) + many (fields_of (drop (i + 1) row))
    many-step = rw (left row i more) (many-from behind w some_bytes here is)

    pub read_step : (o : Bool) (src ns : List ℕ) (from next : ℕ)
        → sets (sets ns next (code_numbers o (field_of (get_or row i 0)) (drop from src))) (next + code_takes (field_of (get_or row i 0)))
        (numbers_in (values_of o (fields_of (drop (i + 1) row)) (drop (from + w) src)))
        ≡ sets ns next (numbers_in (values_of o (fields_of (drop i row)) (drop from src)))
    read_step o src ns from next = rw (left row i more) (read-from behind w some_bytes here is o src ns from next)

-- where no field is left, nothing is left to read
nothing_read : (fs : List Field) → fs ≡ [] → (o : Bool) (ns bs : List ℕ) (next : ℕ) → sets ns next (numbers_in (values_of o fs bs)) ≡ ns
nothing_read fs e o ns bs next = rw e

-- ---- a loop over a row in the order o stands at code i: what is left of the row's numbers, read, makes the whole
pub record Untaken (o : Bool) (src row lent whole numbers : List ℕ) (i next from : ℕ) : Type 0 where
  pub same : length numbers ≡ length lent
  pub each : length row ≤ i + length (fields_of (drop i row))
  pub read : from + size (fields_of (drop i row)) ≤ length src
  pub room : next + many (fields_of (drop i row)) ≤ length lent
  pub rest : sets numbers next (numbers_in (values_of o (fields_of (drop i row)) (drop from src))) ≡ whole

module _ {o : Bool} {src row lent whole numbers : List ℕ} {i next from : ℕ} (l : Untaken o src row lent whole numbers i next from) where
  -- at the row's end
  pub taken-end : length row ≤ i → numbers ≡ whole
  taken-end h = sym (nothing_read _ (row-end row i h) o numbers _ next) ∙ l.rest

  -- at a code, which has a field
  module _ (more : i < length row) where
    pub taken-some : field_of (get_or row i 0) ≡ none → ⊥
    taken-some e = absurd (omega (arith, l.each, more, ap length (field-none row i more e)))

    -- whose number is read
    pub taken-on : {now : List ℕ} {w n : ℕ} → now ≡ sets numbers next (code_numbers o (field_of (get_or row i 0)) (drop from src))
        → w ≡ code_width (field_of (get_or row i 0)) → 0 < w → n ≡ code_takes (field_of (get_or row i 0))
        → Untaken o src row lent whole now (i + 1) (next + n) (from + w)
    taken-on {now} {w} {n} put is wide takes-n =
        let some_bytes : w ≡ 0 → ⊥ = λ e. absurd (omega (arith, wide, e)) in
        record {
          same = rw put (simp length-sets l.same);
          each = omega (arith, l.each, ap length (left row i more), one_from (field_of (get_or row i 0)) (fields_of (drop (i + 1) row)));
          read = omega (arith, l.read, size_step row i more w is some_bytes);
          room = omega (arith, l.room, many-step row i more w is some_bytes, takes-n);
          rest = rw (put, takes-n) (read_step row i more w is some_bytes o src numbers from next) ∙ l.rest;
        }
