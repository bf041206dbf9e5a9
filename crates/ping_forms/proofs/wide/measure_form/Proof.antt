-- `ping_forms::wide::measure_form` meets its contract: by its words packed, or by its number of samples; and its type. Assumes nothing.
use mathlib.Core.Path.{◌≡◌, sym, ◌∙◌}
use mathlib.Core.Bool.{true, false}
use Prim.Native.Nat.{◌+◌, ◌*◌, ◌≤◌}
use native.Mathlib.Omega.{arith}
use borrow.Author.Rules.{rules}
use lib.ListN.{length}
use Rattle.order.specs.Order.{Bytes}
use Rattle.order.proofs.Laws.{bytes_of_lem}
use Rattle.ping_forms.proofs.Placed.{most}
use Rattle.ping_forms.proofs.Words32.{long, words-part, length-packed, length-sampled, type-packed, type-sampled}
use Rattle.ping_forms.proofs.wide.measure_form.Statement.{statement}
use Rattle.ping_forms.proofs.wide.measure_form.Tie as tie

-- the ping has room for its header and its last 8 bytes, and stands in the file
abbrev Room : tie.Start → Type 0
Room s = let a = s.args in (40 ≤ a.whole) × (a.whole ≤ 262144) × (a.at + a.whole ≤ length a.file.now)

room : (s : tie.Start) → Room s
room s = (long s.requires, (most s.requires).1, (most s.requires).2)

-- the file's elements are bytes
bytes : (k : tie.After-shared_slice_known-1) → Bytes k.args.file.now
bytes k = bytes_of_lem k.args.file.now (λ i. (k.shared_slice_known-1.given i).fits)

-- its last word is a run: so many words, packed
packed : (c : tie.After-count_packed) →
    let a = c.args in
    28 + 4 * c.count_packed.result + 8 ≤ 2 * a.whole
packed c =
    let e = c.before.before in
    (length-packed e.requires (bytes e.before.before) (sym e.ends_in_run.ensures ∙ search rules) _ c.count_packed.ensures).1

returns-2 : tie.Need-returns
returns-2 c =
    let k = c.before in
    let e = k.before in
    let s = e.before.before.before in
    let ran : e.ends_in_run.result ≡ false = search rules in
    let h = sym e.ends_in_run.ensures ∙ ran in
    let m = length-sampled s.requires (bytes e.before.before) h _ c.read4-count.ensures in
    record { bytes = m.0; twice = m.1; code = type-sampled s.requires (bytes e.before.before) h }

pub measure_form_spec : {M : Type 1} → statement M
measure_form_spec =
    tie.close
    (tie.spec
    (λ c. search rules)
    (λ c. search rules)
    (λ c. let r = room c.before in omega arith)
    (λ c. let r = room c.before in omega arith)
    (λ c. let r = room c.before in omega arith)
    (λ c. let r = room c.before in omega arith)
    (λ c κs. let p = words-part c.requires in (p.0, p.1))
    (λ c κs. (words-part c.requires).2)
    (λ c. let r = room c.before.before.before.before.before in omega (arith, packed c))
    (λ c. let r = room c.before.before.before.before.before in omega (arith, packed c))
    (λ c. let r = room c.before.before.before.before.before in omega (arith, packed c))
    (λ c.
    let e = c.before.before in
    let ran : e.ends_in_run.result ≡ true = search rules in
    let h = sym e.ends_in_run.ensures ∙ ran in
    let m = length-packed e.requires (bytes e.before.before) h _ c.count_packed.ensures in
    record { bytes = m.0; twice = m.1; code = type-packed e.requires (bytes e.before.before) h })
    (λ c. search rules)
    (λ c κs. let r = room c.before.before.before.before in omega arith)
    (λ c. search rules)
    (λ c. search rules)
    (λ c. search rules)
    (λ c. search rules)
    returns-2)
