-- `forms::measure_form` meets its contract: none, the tuple's own length and type, or a compressed ping's. Assumes nothing.
use mathlib.Core.Path.{sym, ◌∙◌}
use borrow.Author.Rules.{rules}
use Rattle.order.specs.Order.{Bytes}
use Rattle.order.proofs.Laws.{bytes_of_lem}
use Rattle.ping_forms.proofs.Placed.{measured-index, measured-whole, type-within, type-whole}
use Rattle.forms.proofs.measure_form.Statement.{statement}
use Rattle.forms.proofs.measure_form.Tie as tie

-- the file's elements are bytes
bytes : (k : tie.After-shared_slice_known-1) → Bytes k.args.file.now
bytes k = bytes_of_lem k.args.file.now (λ i. (k.shared_slice_known-1.given i).fits)

returns : tie.Need-returns-then-in_class
returns c =
    let s = c.before.before.before in
    let e = sym c.in_class.ensures ∙ c.if-in_class.true in
    let m = measured-index s.requires e in
    record { bytes = m.0; twice = m.1; code = type-within s.requires e }

measure-compressed-requires : tie.Need-measure_compressed-requires
measure-compressed-requires c κs =
    let asked = c.before in
    (asked.requires, sym asked.is_compressed.ensures ∙ c.if-is_compressed.true)

returns-3 : tie.Need-returns
returns-3 c =
    let asked = c.before in
    let i = asked.before in
    let k = i.before.before in
    let e = sym i.in_class.ensures ∙ i.if-in_class.false in
    let h = sym asked.is_compressed.ensures ∙ c.if-is_compressed.false in
    let m = measured-whole k.requires (bytes k) e h in
    record { bytes = m.0; twice = m.1; code = type-whole k.requires (bytes k) e h }

pub measure_form_spec : {M : Type 1} → statement M
measure_form_spec =
    tie.close
    (tie.spec
    (λ c κs. search rules)
    returns
    (λ c κs. search rules)
    measure-compressed-requires
    (λ c. search rules)
    returns-3)
