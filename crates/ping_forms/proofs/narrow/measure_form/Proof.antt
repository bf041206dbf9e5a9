-- `ping_forms::narrow::measure_form` meets its contract: by its words packed, or by its number of samples; and its type. Assumes nothing.
use mathlib.Core.Path.{◌≡◌, sym, ap, ◌∙◌}
use mathlib.Core.List.{List}
use Prim.Native.Nat.{ℕ, ◌+◌, ◌*◌, ◌%◌, ◌≤◌}
use native.Mathlib.Omega.{arith}
use borrow.Author.Rules.{rules}
use lib.ListN.{length, drop}
use Rattle.order.specs.Order.{Bytes}
use Rattle.order.proofs.Laws.{bytes_of_lem}
use Rattle.frame.specs.Frames.{tup_at}
use Rattle.content.specs.Forms.{form_bytes}
use Rattle.ping_forms.specs.inner.Parts.{held_at, stays_by}
use Rattle.ping_forms.proofs.Placed.{most}
use Rattle.ping_forms.proofs.Words16.{long, held-part, length-packed, length-counted, type-packed, type-counted}
use Rattle.ping_forms.proofs.narrow.measure_form.Statement.{statement}
use Rattle.ping_forms.proofs.narrow.measure_form.Tie as tie
use Rattle.samples.specs.inner.Narrow.{words_by, respelled}
use Rattle.samples.specs.inner.Packing.{packed}

-- the file's elements are bytes
bytes : (k : tie.After-shared_slice_known-1) → Bytes k.args.file.now
bytes k = bytes_of_lem k.args.file.now (λ i. (k.shared_slice_known-1.given i).fits)

-- the ping has room for its header and its last 8 bytes, and stands in the file
abbrev Room : tie.Start → Type 0
Room s = let a = s.args in (40 ≤ a.whole) × (a.whole ≤ 262144) × (a.at + a.whole ≤ length a.file.now)

room : (s : tie.Start) → Room s
room s = (long s.args.encoded s.requires, (most s.requires).1, (most s.requires).2)

-- its words, and whether it stays compressed
held : (c : tie.After-stays_packed) →
    let s = c.before.before.before.before in
    let a = s.args in
    c.stays_packed.result ≡ stays_by a.encoded (held_at (words_by a.encoded) a.msb a.file.now a.at a.whole)
held c =
    let e = c.before.before in
    let a = e.args in
    c.stays_packed.ensures ∙ ap (stays_by a.encoded) e.words_end-end.ensures.words

-- measured by its words
abbrev form : tie.Start → List ℕ
form s = let a = s.args in form_bytes a.msb (tup_at a.msb (drop a.at a.file.now))

by-words : (c : tie.After-count_packed-bytes) →
    let m = c.count_packed-bytes.result in
    let s = c.before.before.before.before.before.before in
    (28 + (2 * m + (2 * m) % 4) + 8 ≡ length (form s)) × (28 + (2 * m + (2 * m) % 4) + 8 ≤ s.args.whole)
by-words c =
    let t = c.before in
    let k = t.before in
    let e = k.before.before in
    let known = e.before in
    let s = known.before in
    length-packed s.args.encoded s.requires (bytes known) (sym (held k) ∙ t.if-stays_packed.true) c.count_packed-bytes.result
    (c.count_packed-bytes.ensures ∙ ap (λ (ws : List ℕ). length (packed 256 respelled ws)) e.words_end-end.ensures.words)

returns : tie.Need-returns-then-stays_packed
returns c =
    let counted = c.before in
    let m = by-words counted in
    let t = counted.before in
    let known = t.before.before.before.before in
    let s = known.before in
    record {
      bytes = m.0;
      twice = omega (arith, m.1);
      code = c.type_of.ensures ∙ type-packed s.args.encoded s.requires (bytes known) (sym (held t.before) ∙ t.if-stays_packed.true);
    }

returns-2 : tie.Need-returns
returns-2 c =
    let t = c.before in
    let k = t.before in
    let known = k.before.before.before in
    let s = known.before in
    let h = sym (held k) ∙ t.if-stays_packed.false in
    let m = length-counted s.args.encoded s.requires (bytes known) h c.read4-count.result c.read4-count.ensures in
    record { bytes = m.0; twice = m.1; code = type-counted s.args.encoded s.requires (bytes known) h }

pub measure_form_spec : {M : Type 1} → statement M
measure_form_spec =
    tie.close
    (tie.spec
    (λ c κs. search rules)
    (λ c. let r = room c.before.before in omega arith)
    (λ c. let r = room c.before.before in omega (arith, c.words_end-end.ensures.most))
    (λ c. let r = room c.before.before in omega (arith, c.words_end-end.ensures.least))
    (λ c. let r = room c.before.before in omega (arith, c.words_end-end.ensures.least))
    (λ c. let r = room c.before.before in omega (arith, c.words_end-end.ensures.most))
    (λ c κs. let e = c.before in let s = e.before.before in let p = held-part s.args.encoded s.requires e.words_end-end.ensures in
    (p.0, (p.1, p.2)))
    (λ c κs. let e = c.before.before.before in let s = e.before.before in
    (held-part s.args.encoded s.requires e.words_end-end.ensures).2)
    (λ c. let r = room c.before.before.before.before.before.before in omega (arith, (by-words c).1))
    (λ c. let r = room c.before.before.before.before.before.before in omega (arith, (by-words c).1))
    (λ c. let r = room c.before.before.before.before.before.before in omega (arith, (by-words c).1))
    (λ c. let r = room c.before.before.before.before.before.before in omega (arith, (by-words c).1))
    (λ c κs. search rules)
    returns
    (λ c. let r = room c.before.before.before.before.before in omega arith)
    (λ c κs. let r = room c.before.before.before.before.before in omega arith)
    (λ c. search rules)
    (λ c. search rules)
    (λ c. search rules)
    (λ c. search rules)
    returns-2)
