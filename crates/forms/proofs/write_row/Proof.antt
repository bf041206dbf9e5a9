-- `forms::write_row` meets its contract: size, type and fields; the characters; attribute and backlink. Assumes nothing.
use mathlib.Core.Path.{◌≡◌, sym, ap, ◌∙◌}
use mathlib.Core.List.{List}
use Prim.Native.Nat.{ℕ, ◌+◌, ◌≤◌}
use native.Mathlib.Omega.{arith}
use borrow.Author.Rules.{rules}
use lib.ListN.{length}
use Rattle.layout.specs.Fields.{Field, size}
use Rattle.forms.specs.inner.Parts.{listed_fields}
use Rattle.intake.proofs.Judges.{sound-fits}
use Rattle.ping_forms.proofs.Placed.{most}
use Rattle.forms.proofs.Texts.{row_listed, row-fields}
use Rattle.ping_forms.proofs.Written.{row_written}
use Rattle.forms.proofs.write_row.Statement.{statement}
use Rattle.forms.proofs.write_row.Tie as tie

-- places, named by what has been done there
abbrev text-found : tie.After-close_form-arg-1 → tie.After-text_place-text
text-found c = c.before.before.before.before.before.before.before.before.before

-- the tuple stands in the file, and its characters behind its fields
abbrev Room : tie.After-text_place-text → Type 0
Room c =
    let a = c.args in
    (16 ≤ a.whole) × (a.whole ≤ 262144) × (a.at + a.whole ≤ length a.file.now)
    × (c.text_place-text.result ≡ 6 + size (listed_fields a.listing))

room : (c : tie.After-text_place-text) → Room c
room c =
    let p = c.requires in
    let r = most p.0 in
    (r.0, r.1, r.2, c.text_place-text.ensures.0 ∙ ap (λ (i : ℕ). 6 + size (listed_fields i)) (sym p.1.1.0))

open-form-requires : tie.Need-open_form-requires
open-form-requires c κs =
    let d = c.before in
    let r = room d in
    let p = d.requires in (
      row_listed p.1.0 p.1.1.0,
      (omega (arith, d.text_place-text.ensures.1), (omega (arith, d.text_place-text.ensures.1), (omega arith, omega arith))),
    )

copy-requires : tie.Need-copy-requires
copy-requires c κs =
    let d = c.before.before.before.before.before in
    let r = room d in
    (omega (arith, d.text_place-text.ensures.1), omega (arith, d.text_place-text.ensures.1))

close-form-requires : tie.Need-close_form-requires
close-form-requires c κs =
    let r = room (text-found c) in
    (omega arith, (omega arith, omega arith))

returns : tie.Need-returns
returns c =
    let back = c.before.before in
    let text = back.before.before.before.before in
    let fields = text.before.before.before.before in
    let d = fields.before.before in
    let p = d.requires in
    let a = d.args in
    row_written p.0 a.out.now _ a.to p.1.0.fields p.1.0.text p.1.0.shape (listed_fields a.listing)
    (row-fields p.1.0 p.1.1.0)
    d.text_place-text.result ((room d).3 ∙ ap (λ (fs : List Field). 6 + size fs) (row-fields p.1.0 p.1.1.0))
    (rw (back.close_form.ensures, text.copy.ensures, fields.open_form.ensures))

pub write_row_spec : {M : Type 1} → statement M
write_row_spec =
    tie.close
    (tie.spec
    (λ c κs. let p = c.requires in (p.1.0, sound-fits p.0))
    (λ c. search rules)
    open-form-requires
    (λ c. search rules)
    (λ c. search rules)
    (λ c. search rules)
    copy-requires
    (λ c. search rules)
    (λ c. search rules)
    close-form-requires
    (λ c. search rules)
    returns)
