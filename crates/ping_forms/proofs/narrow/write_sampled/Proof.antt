-- `ping_forms::narrow::write_sampled` meets its contract: size, type and header; a U-16 sample for each; attribute and backlink. Assumes
-- nothing.
use mathlib.Core.Path.{refl, ap}
use mathlib.Core.Bool.{false}
use mathlib.Core.List.{List}
use Prim.Native.Nat.{ℕ, ◌+◌, ◌*◌, ◌≤◌}
use native.Mathlib.Omega.{arith}
use borrow.Author.Rules.{rules}
use lib.ListN.{length}
use Rattle.order.specs.Order.{Bytes}
use Rattle.order.proofs.Laws.{bytes_of_lem}
use Rattle.samples.specs.Runs.{decode, behind}
use Rattle.ping_forms.proofs.Placed.{most}
use Rattle.ping_forms.proofs.Words16.{long, held-part, counted, numbered, length-sampled, sampled-stored}
use Rattle.ping_forms.proofs.narrow.write_sampled.Statement.{statement}
use Rattle.ping_forms.proofs.narrow.write_sampled.Tie as tie

-- the file's elements are bytes
bytes : (k : tie.After-shared_slice_known-1) → Bytes k.args.file.now
bytes k = bytes_of_lem k.args.file.now (λ i. (k.shared_slice_known-1.given i).fits)

-- the ping has room for its header and its last 8 bytes, and stands in the file; its form is not twice as long
pub record Room (s : tie.Start) : Type 0 where
  pub least : 40 ≤ s.args.whole
  pub most : s.args.whole ≤ 262144
  pub there : s.args.at + s.args.whole ≤ length s.args.file.now
  pub ends : (30 ≤ s.args.end) × (s.args.end + 8 ≤ s.args.whole)
  pub some : 32 ≤ s.args.bytes
  pub few : s.args.bytes ≤ 2 * s.args.whole

room : (k : tie.After-shared_slice_known-1) → Room k.before
room k =
    let s = k.before in
    let p = s.requires in
    let m = length-sampled p.0 (bytes k) p.1.1.0 _ refl in
    record {
      least = long false p.0;
      most = (most p.0).1;
      there = (most p.0).2;
      ends = (p.1.0.least, p.1.0.most);
      some = omega (arith, p.1.1.1.0);
      few = omega (arith, m.1, p.1.1.1.0);
    }

-- places, named by what has been done there
abbrev known : tie.After-spread_words-arg-1 → tie.After-shared_slice_known-1
known c = c.before.before.before.before.before.before.before

abbrev spread : tie.After-slice_known-3-1 → tie.After-spread_words
spread c = c.before.before

spread-words-requires : tie.Need-spread_words-requires
spread-words-requires c κs =
    let k = known c in
    let s = k.before in
    let p = s.requires in
    let r = room k in
    let w = p.1.0.words in
    let far = ap (λ (ws : List ℕ). behind 0 (decode 256 ws)) w in
    let many = ap (λ (ws : List ℕ). length (decode 256 ws)) w in (
      (held-part false p.0 p.1.0).2,
      (
        omega (arith, far, numbered p.0 p.1.1.0),
        (omega (arith, many, counted p.0, p.1.1.1.0), omega (arith, p.1.1.1.1, r.some)),
      ),
    )

returns : tie.Need-returns
returns c =
    let back = c.before.before in
    let pairs = spread back.before.before in
    let header = pairs.before.before.before.before in
    let k = known pairs.before in
    let s = k.before in
    let a = s.args in
    sampled-stored s.requires.0 (bytes k) s.requires.1.1.0 a.out.now a.to a.bytes s.requires.1.1.1.0
    header.open_ping.ensures pairs.spread_words.ensures s.requires.1.0.words back.close_form.ensures

pub write_sampled_spec : {M : Type 1} → statement M
write_sampled_spec =
    tie.close
    (tie.spec
    (λ c. let r = room c.before in omega (arith, r.least, r.there))
    (λ c. let r = room c.before in omega (arith, r.ends, r.there))
    (λ c. let r = room c.before in omega (arith, r.ends))
    (λ c. let r = room c.before in omega (arith, r.ends))
    (λ c. let r = room c.before in omega (arith, r.ends, r.there))
    (λ c. let r = room c.before.before in omega (arith, r.some))
    (λ c. let k = c.before.before in let r = room k in omega (arith, r.some, k.requires.1.1.1.1))
    (λ c κs. let k = c.before.before.before in let r = room k in let p = k.requires in
    (omega (arith, r.least, r.there), (omega (arith, p.1.1.1.1, r.some), (omega (arith, r.some), omega (arith, r.few, r.most)))))
    (λ c. let k = known c in let r = room k in omega (arith, r.some, k.requires.1.1.1.1))
    spread-words-requires
    (λ c. let r = room (known (spread c).before) in omega (arith, r.least))
    (λ c. let r = room (known (spread c).before) in omega (arith, r.there))
    (λ c κs. let k = known (spread c.before).before in let r = room k in let p = k.requires in
    (omega (arith, r.least, r.there), (omega (arith, p.1.1.1.1, r.some), omega (arith, r.few, r.most))))
    (λ c. search rules)
    returns)
