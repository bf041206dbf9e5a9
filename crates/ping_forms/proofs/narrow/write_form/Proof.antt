-- `ping_forms::narrow::write_form` meets its contract: by whether the ping stays compressed. Assumes nothing.
use mathlib.Core.Path.{◌≡◌, sym, ap, subst, ◌∙◌}
use mathlib.Core.Bool.{Bool, false}
use Prim.Native.Nat.{◌+◌, ◌≤◌}
use native.Mathlib.Omega.{arith}
use borrow.Author.Rules.{rules}
use lib.ListN.{length}
use Rattle.order.specs.Order.{Bytes}
use Rattle.order.proofs.Laws.{bytes_of_lem}
use Rattle.layout.specs.Families.{type_c}
use Rattle.samples.specs.inner.Narrow.{words_by}
use Rattle.intake.specs.inner.Sound.{SoundHere}
use Rattle.ping_forms.specs.inner.Parts.{held_at, WordsEnd, stays_by}
use Rattle.ping_forms.proofs.Placed.{most}
use Rattle.ping_forms.proofs.Words16.{long, held-part, unencoded, length-counted}
use Rattle.ping_forms.proofs.narrow.write_form.Statement.{statement}
use Rattle.ping_forms.proofs.narrow.write_form.Tie as tie

-- the file's elements are bytes
bytes : (k : tie.After-shared_slice_known-1) → Bytes k.args.file.now
bytes k = bytes_of_lem k.args.file.now (λ i. (k.shared_slice_known-1.given i).fits)

-- the ping has room for its header and its last 8 bytes, and stands in the file
abbrev Room : tie.Start → Type 0
Room s = let a = s.args in (40 ≤ a.whole) × (a.whole ≤ 262144) × (a.at + a.whole ≤ length a.file.now)

room : (s : tie.Start) → Room s
room s = (long s.args.encoded s.requires.0, (most s.requires.0).1, (most s.requires.0).2)

abbrev start : tie.After-words_end-end → tie.Start
start c = c.before.before.before

-- whether it stays compressed, by its words
held : (c : tie.After-stays_packed) →
    let s = start c.before.before in
    let a = s.args in
    c.stays_packed.result ≡ stays_by a.encoded (held_at (words_by a.encoded) a.msb a.file.now a.at a.whole)
held c =
    let e = c.before.before in
    c.stays_packed.ensures ∙ ap (stays_by (start e).args.encoded) e.words_end-end.ensures.words

write-packed-requires : tie.Need-write_packed-requires
write-packed-requires c κs =
    let t = c.before in
    let k = t.before in
    let e = k.before.before in
    let p = (start e).requires in
    (p.0, (e.words_end-end.ensures, (sym (held k) ∙ t.if-stays_packed.true, p.1)))

-- a ping that doesn't is a C-16 ping
abbrev Plain : tie.After-words_end-end → Bool → Type 0
Plain e b =
    let a = (start e).args in
    SoundHere a.msb a.file.now a.at a.whole (type_c (words_by b))
    × WordsEnd (words_by b) a.msb a.file.now a.at a.whole e.words_end-end.result
    × (stays_by b (held_at (words_by b) a.msb a.file.now a.at a.whole) ≡ false)

plain : (c : tie.Else-stays_packed) → Plain c.before.before.before false
plain c =
    let k = c.before in
    let e = k.before.before in
    let s = start e in
    let stays = sym (held k) ∙ c.if-stays_packed.false in
    subst (Plain e) (unencoded s.args.encoded _ stays) (s.requires.0, e.words_end-end.ensures, stays)

write-sampled-requires : tie.Need-write_sampled-requires
write-sampled-requires c κs =
    let r = c.before in
    let t = r.before in
    let k = t.before in
    let known = k.before.before.before.before in
    let s = known.before in
    let g = plain t in
    let m = length-counted s.args.encoded s.requires.0 (bytes known) (sym (held k) ∙ t.if-stays_packed.false) _ r.read4-count.ensures in
    (g.0, (g.1, (g.2, (omega (arith, r.read4-count.ensures), omega (arith, m.0, s.requires.1)))))

returns-2 : tie.Need-returns
returns-2 c =
    let w = c.before.before in
    let r = w.before.before in
    let t = r.before in
    let k = t.before in
    let known = k.before.before.before.before in
    let s = known.before in (
      (length-counted s.args.encoded s.requires.0 (bytes known) (sym (held k) ∙ t.if-stays_packed.false) _
          r.read4-count.ensures).0,
      w.write_sampled.ensures,
    )

pub write_form_spec : {M : Type 1} → statement M
write_form_spec =
    tie.close
    (tie.spec
    (λ c κs. search rules)
    (λ c. let r = room (start c) in omega arith)
    (λ c. let r = room (start c) in omega (arith, c.words_end-end.ensures.most))
    (λ c. let r = room (start c) in omega (arith, c.words_end-end.ensures.least))
    (λ c. let r = room (start c) in omega (arith, c.words_end-end.ensures.least))
    (λ c. let r = room (start c) in omega (arith, c.words_end-end.ensures.most))
    (λ c κs. let e = c.before in let p = held-part (start e).args.encoded (start e).requires.0 e.words_end-end.ensures in
    (p.0, (p.1, p.2)))
    write-packed-requires
    (λ c. search rules)
    (λ c. c.write_packed.ensures)
    (λ c. let r = room (start c.before.before.before) in omega arith)
    (λ c κs. let r = room (start c.before.before.before) in omega arith)
    (λ c. search rules)
    (λ c. search rules)
    (λ c. search rules)
    (λ c. search rules)
    write-sampled-requires
    (λ c. search rules)
    returns-2)
