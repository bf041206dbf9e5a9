-- `ping_forms::wide::write_packed` meets its contract: its words packed; size, type, header and number of samples before them; attribute
-- and backlink behind them. Assumes nothing.
use mathlib.Core.Path.{refl, ap, ◌∙◌}
use mathlib.Core.Bool.{false}
use mathlib.Core.List.{List}
use Prim.Native.Nat.{ℕ, ◌+◌, ◌-◌, ◌*◌, ◌≤◌}
use native.Mathlib.Omega.{arith}
use borrow.Author.Rules.{rules}
use lib.ListN.{length, take, drop}
use lib.Seq.{sets}
use Rattle.order.specs.Order.{num_of, bytes_of, Bytes}
use Rattle.order.proofs.Laws.{bytes_of_lem}
use Rattle.layout.specs.Types.{ping_row}
use Rattle.turning.specs.Rows.{turned}
use Rattle.frame.specs.inner.Framing.{opening_bytes, close_bytes}
use Rattle.samples.specs.Words.{all_words}
use Rattle.samples.specs.Runs.{radix}
use Rattle.samples.specs.inner.Packing.{packed, same}
use Rattle.ping_forms.specs.inner.Parts.{part_at}
use Rattle.ping_forms.proofs.Placed.{most}
use Rattle.ping_forms.proofs.Words32.{long, words-part, length-packed, packed-stored}
use Rattle.ping_forms.proofs.wide.write_packed.Statement.{statement}
use Rattle.ping_forms.proofs.wide.write_packed.Tie as tie

-- the file's elements are bytes
bytes : (k : tie.After-shared_slice_known-1) → Bytes k.args.file.now
bytes k = bytes_of_lem k.args.file.now (λ i. (k.shared_slice_known-1.given i).fits)

-- its words, packed
abbrev packing-of : tie.Start → List ℕ
packing-of s = let a = s.args in packed radix same (all_words 4 a.msb (part_at a.file.now a.at a.whole 28))

-- the ping has room for its header and its last 8 bytes, and stands in the file; its form has room too
pub record Room (s : tie.Start) : Type 0 where
  pub least : 40 ≤ s.args.whole
  pub most : s.args.whole ≤ 262144
  pub there : s.args.at + s.args.whole ≤ length s.args.file.now
  pub words : length (packing-of s) ≤ 131072
  pub room : s.args.to + 36 + 4 * length (packing-of s) ≤ length s.args.out.now

room : (k : tie.After-shared_slice_known-1) → Room k.before
room k =
    let p = k.requires in
    let m = length-packed p.0 (bytes k) p.1.0 _ refl in
    record {
      least = long p.0;
      most = (most p.0).1;
      there = (most p.0).2;
      words = omega (arith, m.1, (most p.0).1);
      room = omega (arith, m.0, p.1.1);
    }

-- places, named by what has been done there
abbrev known : tie.After-pack_words-end → tie.After-shared_slice_known-1
known c = c.before.before.before.before

abbrev packing : tie.After-close_form-arg-1 → tie.After-pack_words-end
packing c = c.before.before.before

abbrev closed : tie.After-open_ping-arg-1 → tie.After-close_form
closed c = c.before.before.before

abbrev opened : tie.After-store4-arg-1 → tie.After-open_ping
opened c = c.before.before.before.before

pack-words-requires : tie.Need-pack_words-end-requires
pack-words-requires c κs =
    let k = c.before.before.before in
    ((words-part k.requires.0).2, omega (arith, (room k).room))

add-bytes : tie.Need-overflow_add-bytes
add-bytes c = let p = c.before.before in omega (arith, p.pack_words-end.ensures.0, (room (known p)).words)

close-form-requires : tie.Need-close_form-requires
close-form-requires c κs =
    let p = packing c in
    let r = room (known p) in (
      omega (arith, r.least, r.there),
      (omega (arith, r.room, p.pack_words-end.ensures.0), omega (arith, p.pack_words-end.ensures.0, r.words)),
    )

open-ping-requires : tie.Need-open_ping-requires
open-ping-requires c κs =
    let p = packing (closed c).before in
    let r = room (known p) in (
      omega (arith, r.least, r.there),
      (omega (arith, r.room), (omega (arith, p.pack_words-end.ensures.0), omega (arith, p.pack_words-end.ensures.0, r.words))),
    )

returns : tie.Need-returns
returns c =
    let store = c.before.before in
    let n = store.before in
    let o = opened n in
    let back = closed o.before in
    let p = packing back.before in
    let k = known p in
    let s = k.before in
    let a = s.args in
    let q = p.pack_words-end.result in
    let j = q - a.to + 8 in
    let count = n.read4-count.result in
    let tail = close_bytes false j (num_of a.msb (take 4 (drop (a.at + (a.whole - 8)) a.file.now))) in
    let head : List ℕ → List ℕ = λ x. sets x a.to (opening_bytes false j 10010
    (turned a.msb ping_row (drop (a.at + 6) a.file.now))) in
    let fill : List ℕ → List ℕ = λ x. sets x (a.to + 24) (bytes_of false 4 count) in
    let packed-there = p.pack_words-end.new.out in
    let m = length-packed s.requires.0 (bytes k) s.requires.1.0 _ refl in (
      omega (arith, m.0, p.pack_words-end.ensures.0),
      packed-stored s.requires.0 (bytes k) a.out.now _ a.to s.requires.1.0 j count q packed-there p.pack_words-end.ensures.0 refl
          n.read4-count.ensures p.pack_words-end.ensures.1
          (store.store4.ensures ∙ ap fill (o.open_ping.ensures ∙ ap head back.close_form.ensures)),
    )

pub write_packed_spec : {M : Type 1} → statement M
write_packed_spec =
    tie.close
    (tie.spec
    (λ c. search rules)
    (λ c. search rules)
    (λ c. let r = room c.before in omega (arith, r.there))
    (λ c. let r = room c.before in omega (arith, r.least))
    (λ c. let r = room c.before in omega (arith, r.least))
    (λ c. let r = room c.before in omega (arith, r.there))
    (λ c. search rules)
    pack-words-requires
    (λ c. search rules)
    add-bytes
    (λ c. let r = room (known c.before.before) in omega (arith, r.least, r.there))
    close-form-requires
    open-ping-requires
    (λ c. search rules)
    (λ c κs. let r = room (known (packing (closed c.before.before.before).before)) in omega (arith, r.least, r.there))
    (λ c. search rules)
    (λ c κs. let r = room (known (packing (closed (opened c).before).before)) in omega (arith, r.room))
    (λ c. search rules)
    returns)
