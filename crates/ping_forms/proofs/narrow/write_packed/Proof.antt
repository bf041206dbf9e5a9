-- `ping_forms::narrow::write_packed` meets its contract: its words packed, and a space; size, type, header and number of samples before
-- them; attribute and backlink behind them. Assumes nothing.
use mathlib.Core.Path.{◌≡◌, refl, ap, subst, ◌∙◌}
use mathlib.Core.Bool.{false}
use mathlib.Core.List.{List, ◌++◌}
use Prim.Native.Nat.{ℕ, ◌+◌, ◌-◌, ◌*◌, ◌%◌, ◌≤◌}
use native.Mathlib.Omega.{arith}
use borrow.Author.Rules.{rules}
use lib.ListN.{length, take, drop, replicate, length-replicate}
use lib.Seq.{sets}
use Rattle.order.specs.Order.{num_of, bytes_of, Bytes}
use Rattle.order.proofs.Laws.{bytes_of_lem}
use Rattle.order.proofs.Stores.{stored-behind}
use Rattle.layout.specs.Types.{ping_row}
use Rattle.turning.specs.Rows.{turned}
use Rattle.frame.specs.inner.Framing.{opening_bytes, close_bytes}
use Rattle.samples.specs.inner.Narrow.{words_by, respelled}
use Rattle.samples.specs.inner.Packing.{packed, PackedAt}
use Rattle.ping_forms.specs.inner.Parts.{held_at}
use Rattle.ping_forms.proofs.Placed.{most}
use Rattle.ping_forms.proofs.Words16.{long, held-part, length-packed, packed-stored}
use Rattle.ping_forms.proofs.narrow.write_packed.Statement.{statement}
use Rattle.ping_forms.proofs.narrow.write_packed.Tie as tie

-- the file's elements are bytes
bytes : (k : tie.After-shared_slice_known-1) → Bytes k.args.file.now
bytes k = bytes_of_lem k.args.file.now (λ i. (k.shared_slice_known-1.given i).fits)

-- its words, packed, and the bytes that they and a space fill
abbrev packing-of : tie.Start → List ℕ
packing-of s = let a = s.args in packed 256 respelled (held_at (words_by a.encoded) a.msb a.file.now a.at a.whole)

abbrev filled : tie.Start → ℕ
filled s = 2 * length (packing-of s) + (2 * length (packing-of s)) % 4

-- the ping has room for its header and its last 8 bytes, and stands in the file; its form has room too
pub record Room (s : tie.Start) : Type 0 where
  pub least : 40 ≤ s.args.whole
  pub most : s.args.whole ≤ 262144
  pub there : s.args.at + s.args.whole ≤ length s.args.file.now
  pub ends : (30 ≤ s.args.end) × (s.args.end + 8 ≤ s.args.whole)
  pub words : filled s + 36 ≤ s.args.whole
  pub room : s.args.to + 36 + filled s ≤ length s.args.out.now

room : (k : tie.After-shared_slice_known-1) → Room k.before
room k =
    let s = k.before in
    let p = s.requires in
    let m = length-packed s.args.encoded p.0 (bytes k) p.1.1.0 (length (packing-of s)) refl in
    record {
      least = long s.args.encoded p.0;
      most = (most p.0).1;
      there = (most p.0).2;
      ends = (p.1.0.least, p.1.0.most);
      words = omega (arith, m.1);
      room = omega (arith, m.0, p.1.1.1);
    }

-- places, named by what has been done there
abbrev known : tie.After-pack_words-behind → tie.After-shared_slice_known-1
known c = c.before.before.before.before

abbrev packing : tie.After-put_space-tail → tie.After-pack_words-behind
packing c = c.before.before.before.before

abbrev spaced : tie.After-close_form-arg-1 → tie.After-put_space-tail
spaced c = c.before.before.before

abbrev closed : tie.After-type_of → tie.After-close_form
closed c = c.before.before.before.before

abbrev opened : tie.After-store4-arg-1 → tie.After-open_ping
opened c = c.before.before.before.before

-- where the packed words end
behind : (c : tie.After-pack_words-behind) → let s = (known c).before in c.pack_words-behind.result ≡ s.args.to + 28 + 2 * length (packing-of s)
behind c =
    let s = (known c).before in
    c.pack_words-behind.ensures.0
    ∙ ap (λ (ws : List ℕ). s.args.to + 28 + 2 * length (packed 256 respelled ws)) s.requires.1.0.words

-- and the space behind them
tail : (c : tie.After-put_space-tail) → let s = (known (packing c)).before in c.put_space-tail.result ≡ s.args.to + 28 + filled s
tail c = let p = packing c in let e = behind p in omega (arith, c.put_space-tail.ensures.0)

pack-words-requires : tie.Need-pack_words-behind-requires
pack-words-requires c κs =
    let k = c.before.before.before in
    let s = k.before in
    let e = ap (λ (ws : List ℕ). length (packed 256 respelled ws)) s.requires.1.0.words in
    ((held-part s.args.encoded s.requires.0 s.requires.1.0).2, omega (arith, e, (room k).room))

put-space-requires : tie.Need-put_space-tail-requires
put-space-requires c κs =
    let p = c.before.before.before in
    let r = room (known p) in
    let e = behind p in
    (omega (arith, r.room), omega arith)

close-form-requires : tie.Need-close_form-requires
close-form-requires c κs =
    let t = spaced c in
    let r = room (known (packing t)) in
    let e = tail t in
    (omega (arith, r.least, r.there), (omega (arith, r.room), omega (arith, r.words, r.most)))

open-ping-requires : tie.Need-open_ping-requires
open-ping-requires c κs =
    let t = spaced (closed c).before in
    let r = room (known (packing t)) in
    let e = tail t in
    (omega (arith, r.least, r.there), (omega (arith, r.room), (omega arith, omega (arith, r.words, r.most))))

returns : tie.Need-returns
returns c =
    let store = c.before.before in
    let n = store.before in
    let o = opened n in
    let type = o.before in
    let back = closed type in
    let t = spaced back.before in
    let p = packing t in
    let k = known p in
    let s = k.before in
    let a = s.args in
    let us = packing-of s in
    let q = p.pack_words-behind.result in
    let j = t.put_space-tail.result - a.to + 8 in
    let size : j ≡ 36 + filled s = omega (arith, tail t) in
    let count = n.read4-count.result in
    let l = p.pack_words-behind.new.out in
    let end = close_bytes false j (num_of a.msb (take 4 (drop (a.at + (a.whole - 8)) a.file.now))) in
    let gap : List ℕ = replicate ((2 * length us) % 4) 0 in
    let even : q - (a.to + 28) ≡ 2 * length us = omega (arith, behind p) in
    let fill : ℕ → List ℕ → List ℕ = λ i x. sets
    (sets x a.to (opening_bytes false j i (turned a.msb ping_row (drop (a.at + 6) a.file.now)))) (a.to + 24)
    (bytes_of false 4 count) in
    let closing =
    back.close_form.ensures
    ∙ ap (λ (x : List ℕ). sets x t.put_space-tail.result end)
    (t.put_space-tail.ensures.1 ∙ ap (λ (i : ℕ). sets l q (replicate (i % 4) 0)) even)
    ∙ stored-behind gap end l q t.put_space-tail.result
    (omega (arith, t.put_space-tail.ensures.0, length-replicate {A = ℕ} ((2 * length us) % 4) 0)) in
    let m = length-packed a.encoded s.requires.0 (bytes k) s.requires.1.1.0 (length us) refl in (
      omega (arith, m.0, size),
      packed-stored a.msb a.file.now a.at a.whole (bytes k) a.out.now _ a.to j count q l a.encoded s.requires.0
          s.requires.1.1.0 (behind p) size n.read4-count.ensures
          (subst (λ (ws : List ℕ). PackedAt 2 a.out.now (a.to + 28) (packed 256 respelled ws) l q) s.requires.1.0.words
          p.pack_words-behind.ensures.1)
          (store.store4.ensures
          ∙ ap (λ (x : List ℕ). sets x (a.to + 24) (bytes_of false 4 count)) o.open_ping.ensures
          ∙ ap (fill type.type_of.result) closing
          ∙ ap (λ (i : ℕ). fill i (sets l q (gap ++ end))) type.type_of.ensures),
    )

pub write_packed_spec : {M : Type 1} → statement M
write_packed_spec =
    tie.close
    (tie.spec
    (λ c. let r = room c.before in omega (arith, r.least, r.there))
    (λ c. let r = room c.before in omega (arith, r.ends, r.there))
    (λ c. let r = room c.before in omega (arith, r.ends))
    (λ c. let r = room c.before in omega (arith, r.ends))
    (λ c. let r = room c.before in omega (arith, r.ends, r.there))
    (λ c. let r = room c.before.before.before in omega (arith, r.room))
    pack-words-requires
    (λ c. let r = room (known c.before.before.before) in omega (arith, r.room))
    (λ c. omega (arith, behind c.before.before.before))
    put-space-requires
    (λ c. omega (arith, tail c.before.before))
    (λ c. let r = room (known (packing c.before.before)) in omega (arith, tail c.before.before, r.words, r.most))
    (λ c. let r = room (known (packing c.before.before)) in omega (arith, r.least))
    (λ c. let r = room (known (packing c.before.before)) in omega (arith, r.there))
    close-form-requires
    (λ c κs. search rules)
    open-ping-requires
    (λ c. let r = room (known (packing (spaced (closed c.before.before.before).before))) in omega (arith, r.there, r.least))
    (λ c κs. let r = room (known (packing (spaced (closed c.before.before.before).before))) in omega (arith, r.least, r.there))
    (λ c. let r = room (known (packing (spaced (closed (opened c).before).before))) in omega (arith, r.room))
    (λ c κs. let r = room (known (packing (spaced (closed (opened c).before).before))) in omega (arith, r.room))
    (λ c. search rules)
    returns)
