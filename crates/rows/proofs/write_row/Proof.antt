-- `rows::write_row` meets its contract: its rules in their order, then the tuple with the text in its row or behind its fields.
-- Assumes nothing.
use mathlib.Core.Path.{◌≡◌, sym, ap, ◌∙◌}
use mathlib.Core.Bool.{Bool, true}
use mathlib.Core.List.{List, [], ◌∷◌, ◌++◌}
use Prim.Native.Nat.{ℕ, ◌+◌, ◌<◌, ◌≤◌}
use native.Mathlib.Omega.{arith}
use borrow.Author.Rules.{rules}
use borrow.Author.Tests.{not-true, not-false}
use mir.Syntax.{w32}
use mir.Facts.{to_z-of_z}
use lib.ListN.{length, get_or}
use Rattle.order.specs.Order.{pattern_of}
use Rattle.order.proofs.Signed.{pattern-signed}
use Rattle.layout.specs.Answer.{Answer}
use Rattle.layout.specs.Answer.{Refused}
use Rattle.layout.specs.Fields.{Field, size, many, bare_size}
use Rattle.layout.specs.Types.{shape_of, lengths_of, least_of, step_of, more_of, fitting}
use Rattle.layout.specs.inner.Codes.{place_in, measures, measured}
use Rattle.tuples.specs.Readers.{is_record}
use Rattle.rows.specs.Readers.{fields_by}
use Rattle.rows.specs.Writers.{row_length, RowWritten}
use Rattle.rows.proofs.Shapes.{is-row, row_listed, row_measure, row_little, bare-size}
use Rattle.rows.proofs.Writing.{no_record, too_few, unfit, over, Kept, own_handable, own-written, behind_handable, behind-written}
use Rattle.rows.proofs.write_row.Statement.{statement}
use Rattle.rows.proofs.write_row.Tie as tie

-- ---- places: the function's start; from where all rules are kept back to where the row is measured
abbrev start : tie.After-is_record → tie.Start
start r = r.before.before.before.before

abbrev measuring : tie.Else-not-fits → tie.After-measure-measure
measuring e = e.before.before.before

abbrev kept_at : tie.After-signed4-attribute → tie.Else-not-fits
kept_at g = g.before.before.before

-- the type's row
abbrev fields : tie.After-is_record → List Field
fields r = fields_by (shape_of (start r).args.code)

abbrev typed_at : tie.After-measure-measure → tie.After-is_record
typed_at m = m.before.before.before

-- what is measured of the type
abbrev measuredFor : tie.After-is_record → List ℕ
measuredFor r =
    let n = lengths_of (start r).args.code in
    measured (fields r) ++ (least_of n ∷ step_of n ∷ more_of n ∷ [])

-- ---- whether it is a record's type
recorded : (r : tie.After-is_record) → r.is_record.result ≡ is_record (start r).args.code
recorded r = r.is_record.ensures

is : (e : tie.Else-not-is_record) → is_record (start e.before).args.code ≡ true
is e = sym (recorded e.before) ∙ not-false _ e.if-not-is_record.false-raw

returns : tie.Need-returns-then-not-is_record
returns c =
    let r = c.before.before in
    let a = (start r).args in
    rw c.refuse.ensures (no_record a.code a.numbers.now a.text.now a.msb a.out.now
    (sym (recorded r) ∙ not-true _ c.if-not-is_record.true-raw))

-- ---- its listing, and what the tables say of it
at-listing : (l : tie.After-listing_of) → l.listing_of.result ≡ place_in (start l.before.before).args.code
at-listing l = l.listing_of.ensures

measure-requires : tie.Need-measure-measure-requires
measure-requires c κs = let k = (start c.before.before).args.code in
    rw (at-listing c) (row_listed k (is-row (shape_of k) (is c.before)))

told : (m : tie.After-measure-measure) → m.measure-measure.result ≡ measuredFor (typed_at m)
told m =
    let k = (start (typed_at m)).args.code in
    m.measure-measure.ensures
    ∙ ap (λ (i : ℕ). get_or measures i []) (at-listing m.before)
    ∙ row_measure k (is-row (shape_of k) (is m.before.before))

many-told : (m : tie.After-measure-measure) → get_or m.measure-measure.result 0 0 ≡ many (fields (typed_at m))
many-told m = ap (λ (l : List ℕ). get_or l 0 0) (told m)

bare-told : (m : tie.After-measure-measure) → get_or m.measure-measure.result 2 0 ≡ bare_size (fields (typed_at m))
bare-told m = ap (λ (l : List ℕ). get_or l 2 0) (told m)

size-told : (m : tie.After-measure-measure) → get_or m.measure-measure.result 3 0 ≡ size (fields (typed_at m))
size-told m = ap (λ (l : List ℕ). get_or l 3 0) (told m)

returns-2 : tie.Need-returns-then-numbers-many
returns-2 c =
    let m = c.before.before in
    let a = (start (typed_at m)).args in
    rw c.refuse-then-numbers-many.ensures
    (too_few a.code a.numbers.now a.text.now a.msb a.out.now (is m.before.before) (many-told m)
    c.if-numbers-many.true)

-- ---- its length
abbrev length_at : tie.After-measure-measure → ℕ
length_at m = get_or m.measure-measure.result 2 0 + length (start (typed_at m)).args.text.now + 14

as-length : (m : tie.After-measure-measure) → length_at m ≡ row_length (start (typed_at m)).args.code (start (typed_at m)).args.text.now
as-length m = ap (λ (b : ℕ). b + length (start (typed_at m)).args.text.now + 14) (bare-told m)

fitted : (f : tie.After-fits)
    → let m = f.before.before in f.fits.result ≡ fitting (lengths_of (start (typed_at m)).args.code) (length_at m)
fitted f = f.fits.ensures

returns-3 : tie.Need-returns-then-not-fits
returns-3 c =
    let f = c.before.before in
    let m = f.before.before in
    let a = (start (typed_at m)).args in
    rw c.refuse-then-not-fits.ensures
    (unfit a.code a.numbers.now a.text.now a.msb a.out.now (is m.before.before) (many-told m) f.if-numbers-many.false
    (as-length m)
    (sym (fitted f) ∙ not-true _ c.if-not-fits.true-raw))

-- too long, by the answer that was given
overlong : (k : ℕ) (ns t : List ℕ) (o : Bool) (out : List ℕ) {r : Answer} → r ≡ Refused 11 0 → RowWritten k ns t o out (Refused 11 0) out
    → RowWritten k ns t o out r out
overlong k ns t o out e h = rw e h

-- ---- all rules are kept
kept : (e : tie.Else-not-fits)
    → let m = measuring e in
    let a = (start (typed_at m)).args in
    length_at m ≤ 262144 → Kept a.code a.numbers.now a.text.now (get_or m.measure-measure.result 0 0) (length_at m)
kept e h =
    let f = e.before in
    let m = f.before.before in
    record {
      type = is m.before.before;
      numbers = many-told m;
      there = f.if-numbers-many.false;
      whole = as-length m;
      fits = sym (fitted f) ∙ not-false _ e.if-not-fits.false-raw;
      most = h;
    }

-- the attribute's pattern is the number that was handed over
last : (g : tie.After-signed4-attribute)
    → let m = measuring (kept_at g) in
    pattern_of 4 g.signed4-attribute.result ≡ get_or (start (typed_at m)).args.numbers.now (get_or m.measure-measure.result 0 0) 0
last g =
    let m = measuring (kept_at g) in
    let s = (typed_at m).before.before.before in
    ap (pattern_of 4) g.signed4-attribute.ensures ∙ pattern-signed 4 _ (s.shared_slice_known-1.given (get_or m.measure-measure.result 0 0)).fits

own-less : (h : tie.Then-bare-measure) → let m = measuring (kept_at h.before) in bare_size (fields (typed_at m)) < size (fields (typed_at m))
own-less h = let m = measuring (kept_at h.before) in omega (arith, h.if-bare-measure.true, bare-told m, size-told m)

behind-full : (h : tie.Else-bare-measure) → let m = measuring (kept_at h.before) in size (fields (typed_at m)) ≤ bare_size (fields (typed_at m))
behind-full h = let m = measuring (kept_at h.before) in omega (arith, h.if-bare-measure.false, bare-told m, size-told m)

returns-5 : tie.Need-returns-then-bare-measure
returns-5 c =
    let w = c.before.before in
    let h = w.before.before.before in
    let g = h.before in
    own-written (kept (kept_at g.before) (search rules)) _ _ _
    (ap (pattern_of 4) (to_z-of_z {w = w32} {z = g.signed4-attribute.result} (record { sfits = g.signed4-attribute.type_inv })) ∙ last g.before)
    (own-less h.before) w.write_tuple.ensures

returns-6 : tie.Need-returns
returns-6 c =
    let w = c.before.before in
    let h = w.before.before.before in
    let g = h.before in
    behind-written (kept (kept_at g.before) (search rules)) _ _ _
    (ap (pattern_of 4) (to_z-of_z {w = w32} {z = g.signed4-attribute.result} (record { sfits = g.signed4-attribute.type_inv })) ∙ last g.before)
    (behind-full h.before) w.write_tuple-2.ensures

-- the row is small, and a slice's length is far from the largest number
few_bytes : (m : tie.After-measure-measure) → get_or m.measure-measure.result 2 0 ≤ 255
few_bytes m =
    let k = (start (typed_at m)).args.code in
    omega (arith, bare-told m, bare-size (fields (typed_at m)), row_little k (is-row (shape_of k) (is m.before.before)))

pub write_row_spec : {M : Type 1} → statement M
write_row_spec =
    tie.close
    (tie.spec
    (λ c κs. search rules)
    (λ c κs. search rules)
    returns
    (λ c κs. search rules)
    measure-requires
    (λ c. search rules)
    (λ c κs. search rules)
    returns-2
    (λ c. search rules)
    (λ c. omega (arith, few_bytes c.before))
    (λ c. omega (arith, few_bytes c.before))
    (λ c κs. search rules)
    (λ c κs. search rules)
    returns-3
    (λ c κs. search rules)
    (λ c. let e = c.before.before in
    let f = e.before in
    let m = f.before.before in
    let a = (start (typed_at m)).args in
    overlong a.code a.numbers.now a.text.now a.msb a.out.now (search rules)
    (over a.code a.numbers.now a.text.now a.msb a.out.now (is m.before.before) (many-told m) f.if-numbers-many.false
    (as-length m)
    (sym (fitted f) ∙ not-false _ e.if-not-fits.false-raw) (search rules)))
    (λ c. search rules)
    (λ c. search rules)
    (λ c κs. search rules)
    (λ c. search rules)
    (λ c κs. let h = c.before.before in own_handable (kept (kept_at h.before.before) (search rules)) (own-less h.before))
    (λ c. search rules)
    returns-5
    (λ c κs. let h = c.before.before in behind_handable (kept (kept_at h.before.before) (search rules)) (behind-full h.before))
    (λ c. search rules)
    returns-6)
