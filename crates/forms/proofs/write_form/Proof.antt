-- `forms::write_form` meets its contract: each type's writer, by its code and its listing. Assumes nothing.
use mathlib.Core.Path.{◌≡◌, sym, ap, ◌∙◌}
use mathlib.Core.Bool.{false}
use native.Mathlib.Omega.{arith}
use borrow.Author.Rules.{rules}
use lib.ListN.{length, drop}
use lib.Seq.{sets}
use Rattle.order.specs.Order.{Bytes}
use Rattle.order.proofs.Laws.{bytes_of_lem}
use Rattle.layout.specs.Types.{shape_of, in_class, index, listed}
use Rattle.layout.specs.inner.Codes.{place_in, has_words}
use Rattle.layout.proofs.Families.{plain-shape}
use Rattle.frame.specs.Frames.{tup_at}
use Rattle.content.specs.Forms.{form_bytes}
use Rattle.ping_forms.proofs.Placed.{none-index, measured-index, measured-whole}
use Rattle.forms.proofs.Texts.{raw-shape, by_row}
use Rattle.forms.proofs.write_form.Statement.{statement}
use Rattle.forms.proofs.write_form.Tie as tie

-- places, named by what has been done there
abbrev known : tie.After-is_compressed → tie.After-shared_slice_known-1
known c = c.before.before.before.before

abbrev start : tie.Else-is_compressed → tie.Start
start c = (known c.before).before

abbrev no_words : tie.After-is_ping → tie.Else-is_compressed
no_words c = c.before

abbrev no_ping : tie.After-listing_of-listing → tie.After-is_ping
no_ping c = c.before.before

-- the file's elements are bytes
bytes : (k : tie.After-shared_slice_known-1) → Bytes k.args.file.now
bytes k = bytes_of_lem k.args.file.now (λ i. (k.shared_slice_known-1.given i).fits)

returns : tie.Need-returns-then-in_class
returns c =
    let s = c.before.before.before.before in
    let e = sym c.in_class.ensures ∙ c.if-in_class.true in
    ((measured-index s.requires.0 e).0, ap (sets s.args.out.now s.args.to) (sym (none-index s.requires.0 e)))

write-compressed-requires : tie.Need-write_compressed-requires
write-compressed-requires c κs =
    let k = c.before in
    let asked = k.before in
    let p = (known asked).requires in
    (p.0, (sym asked.is_compressed.ensures ∙ k.if-is_compressed.true, p.1))

-- neither of the index class nor a compressed ping: its form is as long as it is
outside : (c : tie.Else-is_compressed) → in_class index (start c).args.code ≡ false
outside c = let i = c.before.before in sym i.in_class.ensures ∙ i.if-in_class.false

wordless : (c : tie.Else-is_compressed) → has_words (shape_of (start c).args.code) ≡ false
wordless c = sym c.is_compressed.ensures ∙ c.if-is_compressed.false

whole : (c : tie.Else-is_compressed) →
    let a = (start c).args in
    a.whole ≡ length (form_bytes a.msb (tup_at a.msb (drop a.at a.file.now)))
whole c = (measured-whole (start c).requires.0 (bytes (known c.before)) (outside c) (wordless c)).0

plain-requires : tie.Need-write_form-requires
plain-requires c κs =
    let k = c.before in
    let asked = k.before in
    let d = no_words asked in
    let p = (start d).requires in
    (p.0, (plain-shape _ (sym asked.is_ping.ensures ∙ k.if-is_ping.true) (wordless d), omega (arith, whole d, p.1)))

returns-3 : tie.Need-returns-then-is_ping
returns-3 c =
    let w = c.before.before in
    (whole (no_words w.before.before.before), w.write_form.ensures)

-- its listing, as the code looked it up
placed : (c : tie.After-listing_of-listing) → c.listing_of-listing.result ≡ place_in (start (no_words (no_ping c))).args.code
placed c = c.listing_of-listing.ensures

write-raw-requires : tie.Need-write_raw-requires
write-raw-requires c κs =
    let l = c.before.before in
    let d = no_words (no_ping l) in
    let p = (start d).requires in
    (p.0, (raw-shape _ (outside d) (sym (placed l) ∙ (search rules)), omega (arith, whole d, p.1)))

write-row-requires : tie.Need-write_row-requires
write-row-requires c κs =
    let l = c.before.before in
    let u = l.before in
    let asked = u.before in
    let d = no_words asked in
    let p = (start d).requires in
    let other : l.listing_of-listing.result ≡ listed → ⊥ = search rules in (
      p.0,
      (
        by_row _ (outside d) (sym asked.is_ping.ensures ∙ u.if-is_ping.false) (λ e. other (placed l ∙ e)),
        (placed l, omega (arith, whole d, p.1)),
      ),
    )

returns-5 : tie.Need-returns
returns-5 c =
    let w = c.before.before in
    (whole (no_words (no_ping w.before.before.before)), w.write_row.ensures)

pub write_form_spec : {M : Type 1} → statement M
write_form_spec =
    tie.close
    (tie.spec
    (λ c κs. search rules)
    returns
    (λ c κs. search rules)
    write-compressed-requires
    (λ c. search rules)
    (λ c. search rules)
    (λ c κs. search rules)
    plain-requires
    (λ c. search rules)
    returns-3
    (λ c κs. search rules)
    write-raw-requires
    (λ c. search rules)
    (λ c. let w = c.before.before in (whole (no_words (no_ping w.before.before.before)), w.write_raw.ensures))
    write-row-requires
    (λ c. search rules)
    returns-5)
