-- `ping_forms::wide::write_sampled` meets its contract: size, type and header; a pair for each sample; attribute and backlink. Assumes
-- nothing.
use Prim.Native.Nat.{◌+◌, ◌*◌, ◌≤◌}
use mathlib.Core.Path.{refl}
use native.Mathlib.Omega.{arith}
use borrow.Author.Rules.{rules}
use lib.ListN.{length}
use Rattle.order.specs.Order.{Bytes}
use Rattle.order.proofs.Laws.{bytes_of_lem}
use Rattle.ping_forms.proofs.Placed.{most}
use Rattle.ping_forms.proofs.Words32.{long, words-part, counted, length-sampled, sampled-stored}
use Rattle.ping_forms.proofs.wide.write_sampled.Statement.{statement}
use Rattle.ping_forms.proofs.wide.write_sampled.Tie as tie

-- places, named by what has been done there
abbrev known : tie.After-slice_known-2-1 → tie.After-shared_slice_known-1
known c = c.before.before.before.before.before

abbrev opened : tie.After-close_form-arg-1 → tie.After-slice_known-2-1
opened c = c.before.before.before.before.before.before

-- the file's elements are bytes
bytes : (k : tie.After-shared_slice_known-1) → Bytes k.args.file.now
bytes k = bytes_of_lem k.args.file.now (λ i. (k.shared_slice_known-1.given i).fits)

-- the ping has room for its header and its last 8 bytes, and stands in the file; its form is not twice as long
abbrev Room : tie.Start → Type 0
Room s = let a = s.args in
    (40 ≤ a.whole) × (a.whole ≤ 262144) × (a.at + a.whole ≤ length a.file.now) × (32 ≤ a.bytes) × (a.bytes ≤ 2 * a.whole)

room : (k : tie.After-shared_slice_known-1) → Room k.before
room k =
    let p = k.requires in
    let r = most p.0 in
    let m = length-sampled p.0 (bytes k) p.1.0 _ refl in
    (long p.0, r.1, r.2, omega (arith, p.1.1.0), omega (arith, m.1, p.1.1.0))

spread-words-requires : tie.Need-spread_words-requires
spread-words-requires c κs =
    let k = known c.before.before in
    let s = k.before in
    let r = room k in
    ((words-part s.requires.0).2, (omega (arith, counted s.requires.0, s.requires.1.1.0), omega arith))

returns : tie.Need-returns
returns c =
    let back = c.before.before in
    let pairs = back.before.before.before.before in
    let header = pairs.before.before.before.before.before in
    let k = header.before.before.before in
    let s = k.before in
    sampled-stored s.requires.0 (bytes k) s.args.out.now _ s.args.to s.requires.1.0 s.args.bytes s.requires.1.1.0
    (rw (back.close_form.ensures, pairs.spread_words.ensures, header.open_ping.ensures))

pub write_sampled_spec : {M : Type 1} → statement M
write_sampled_spec =
    tie.close
    (tie.spec
    (λ c. search rules)
    (λ c. search rules)
    (λ c. search rules)
    (λ c κs. let r = room c.before.before in (omega arith, (omega arith, (omega arith, omega arith))))
    (λ c. search rules)
    (λ c. let r = room (known c) in omega arith)
    (λ c. let r = room (known c) in omega arith)
    (λ c. let r = room (known c) in omega arith)
    (λ c. let r = room (known c) in omega arith)
    (λ c. search rules)
    spread-words-requires
    (λ c. let r = room (known c.before.before.before.before.before) in omega arith)
    (λ c κs. let r = room (known (opened c)) in (omega arith, (omega arith, omega arith)))
    (λ c. search rules)
    returns)
