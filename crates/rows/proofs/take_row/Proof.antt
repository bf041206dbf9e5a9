-- `rows::take_row` meets its contract: the fields' numbers and the attribute, one behind the other; 19 where fewer are lent. Assumes
-- nothing.
use mathlib.Core.Path.{◌≡◌, ap, ◌∙◌}
use mathlib.Core.List.{List, [], ◌∷◌, ◌++◌}
use Prim.Native.Nat.{ℕ, ◌+◌, ◌-◌, ◌≤◌, ◌<◌}
use native.Mathlib.Omega.{arith}
use borrow.Author.Rules.{rules}
use lib.ListN.{length, get_or, drop}
use lib.Seq.{sets}
use Rattle.layout.specs.Fields.{Field, size, many, before_text, bare_size}
use Rattle.layout.specs.Types.{shape_of, lengths_of, least_of, step_of, more_of}
use Rattle.layout.specs.Types as types
use Rattle.layout.specs.inner.Codes.{place_in, rowed, measures, measured}
use Rattle.turning.specs.Rows.{values_of, numbers_in}
use Rattle.layout.proofs.Families.{row-rowed}
use Rattle.rows.specs.inner.Listed.{listed_fields}
use Rattle.rows.specs.Readers.{fields_by}
use Rattle.rows.proofs.Shapes.{row_listed, row-fields, row_measure, bare-size, before-size}
use Rattle.rows.proofs.Reading.{opened-row, opened_in, opened-long, text-there, untaken, taken}
use Rattle.rows.proofs.take_row.Statement.{statement}
use Rattle.rows.proofs.take_row.Tie as tie

-- ---- places: the function's start, and where the row is measured
abbrev start : tie.After-listing_of-listing → tie.Start
start l = l.before.before.before

abbrev measuring : tie.After-read4 → tie.After-measure-measure
measuring c = c.before.before.before.before.before.before

abbrev attribute : tie.After-slice_known-2-1 → tie.Start
attribute c = start c.before.before.before.before.before.before

-- the fields of the row
abbrev fields : tie.After-listing_of-listing → List Field
fields l = fields_by (shape_of (start l).args.code)

-- what is measured of the type
abbrev measuredFor : tie.After-listing_of-listing → List ℕ
measuredFor l =
    let n = lengths_of (start l).args.code in
    measured (fields l) ++ (least_of n ∷ step_of n ∷ more_of n ∷ [])

-- ---- the listing is that of the type asked for
at-listing : (l : tie.After-listing_of-listing) → l.listing_of-listing.result ≡ place_in (start l).args.code
at-listing l = l.listing_of-listing.ensures

listed : (l : tie.After-listing_of-listing) → l.listing_of-listing.result < types.listed
listed l = let d = start l in rw (at-listing l) (row_listed d.args.code (opened-row d.requires))

early : (l : tie.After-listing_of-listing) → l.listing_of-listing.result < rowed
early l = let d = start l in rw (at-listing l) (row-rowed d.args.code (opened-row d.requires))

-- what the tables say of it
told : (m : tie.After-measure-measure) → m.measure-measure.result ≡ measuredFor m.before
told m =
    let d = start m.before in
    m.measure-measure.ensures ∙ ap (λ (i : ℕ). get_or measures i []) (at-listing m.before) ∙ row_measure d.args.code (opened-row d.requires)

many-told : (m : tie.After-measure-measure) → get_or m.measure-measure.result 0 0 ≡ many (fields m.before)
many-told m = ap (λ (l : List ℕ). get_or l 0 0) (told m)

before-told : (m : tie.After-measure-measure) → get_or m.measure-measure.result 1 0 ≡ before_text (fields m.before)
before-told m = ap (λ (l : List ℕ). get_or l 1 0) (told m)

bare-told : (m : tie.After-measure-measure) → get_or m.measure-measure.result 2 0 ≡ bare_size (fields m.before)
bare-told m = ap (λ (l : List ℕ). get_or l 2 0) (told m)

in_row : (l : tie.After-listing_of-listing) → listed_fields l.listing_of-listing.result ≡ fields l
in_row l = let d = start l in ap listed_fields (at-listing l) ∙ row-fields d.args.code (opened-row d.requires)

-- ---- the places of the tuple are the file's
inside : (d : tie.Start)
    → (d.args.place + d.args.whole ≤ length d.args.file.now) × (size (fields_by (shape_of d.args.code)) + 14 ≤ d.args.whole)
inside d = (opened_in d.requires, opened-long d.requires)

returns : tie.Need-returns-then-numbers-many
returns c =
    let m = c.before.before in
    let d = start m.before in
    rw c.refuse.ensures (untaken d.requires d.args.numbers.now _ (many-told m) c.if-numbers-many.true)

read-listed-requires : tie.Need-read_listed-requires
read-listed-requires c κs =
    let e = c.before in
    let m = e.before in
    let d = start m.before in
    let it = in_row m.before in
    (early m.before, (rw it (omega (arith, (inside d).0, (inside d).1)), rw it (omega (arith, many-told m, e.if-numbers-many.false))))

returns-2 : tie.Need-returns
returns-2 c =
    let q = c.before.before.before in
    let e = q.before.before in
    let m = e.before in
    let d = start m.before in
    let a = d.args in
    taken d.requires a.numbers.now _ (many-told m) e.if-numbers-many.false _ _
    (λ i. record {
      place = ap (λ (n : ℕ). a.place + 6 + n) (before-told m) i;
      length = (ap (λ (n : ℕ). a.whole - 14 - n) (bare-told m) ∙ text-there d.requires) i;
    })
    (λ i. sets
    ((q.read_listed.ensures
    ∙ ap (λ (fs : List Field). sets a.numbers.now 0 (numbers_in (values_of a.msb fs (drop (a.place + 6) a.file.now))))
    (in_row m.before))
    i)
    (get_or m.measure-measure.result 0 0)
    (c.read4.ensures i ∷ []))

-- the tuple's length and the row's measures, behind the attribute
abbrev started : tie.After-read4 → tie.Start
started c = start (measuring c).before

pub take_row_spec : {M : Type 1} → statement M
take_row_spec =
    tie.close
    (tie.spec
    (λ c κs. search rules)
    (λ c κs. listed c)
    (λ c. search rules)
    (λ c κs. search rules)
    returns
    (λ c. let d = start c.before.before in omega (arith, (inside d).0, (inside d).1, d.well_formed.0.0))
    read-listed-requires
    (λ c. let d = attribute c in omega (arith, (inside d).0, d.well_formed.0.0))
    (λ c. let d = attribute c in omega (arith, (inside d).1))
    (λ c κs. let d = attribute c in omega (arith, (inside d).0, (inside d).1))
    (λ c. search rules)
    (λ c. search rules)
    (λ c. let d = started c in omega (arith, (inside d).0, (inside d).1, d.well_formed.0.0))
    (λ c. search rules)
    (λ c. let d = started c in
    omega (arith, (inside d).0, (inside d).1, d.well_formed.0.0, before-told (measuring c), before-size (fields (measuring c).before)))
    (λ c. let d = started c in omega (arith, (inside d).1))
    (λ c. search rules)
    (λ c. let d = started c in omega (arith, (inside d).1, bare-told (measuring c), bare-size (fields (measuring c).before)))
    (λ c. search rules)
    returns-2)
