-- `ping_forms::wide::write_form` meets its contract: by whether the ping's last word is a run. Assumes nothing.
use mathlib.Core.Path.{◌≡◌, sym, ◌∙◌}
use mathlib.Core.Bool.{false}
use Prim.Native.Nat.{◌+◌, ◌≤◌}
use native.Mathlib.Omega.{arith}
use borrow.Author.Rules.{rules}
use lib.ListN.{length}
use Rattle.order.specs.Order.{Bytes}
use Rattle.order.proofs.Laws.{bytes_of_lem}
use Rattle.ping_forms.proofs.Placed.{most}
use Rattle.ping_forms.proofs.Words32.{long, words-part, length-sampled}
use Rattle.ping_forms.proofs.wide.write_form.Statement.{statement}
use Rattle.ping_forms.proofs.wide.write_form.Tie as tie

-- the file's elements are bytes
bytes : (k : tie.After-shared_slice_known-1) → Bytes k.args.file.now
bytes k = bytes_of_lem k.args.file.now (λ i. (k.shared_slice_known-1.given i).fits)

-- the ping has room for its header and its last 8 bytes, and stands in the file
abbrev Room : tie.Start → Type 0
Room s = let a = s.args in (40 ≤ a.whole) × (a.whole ≤ 262144) × (a.at + a.whole ≤ length a.file.now)

room : (s : tie.Start) → Room s
room s = (long s.requires.0, (most s.requires.0).1, (most s.requires.0).2)

write-packed-requires : tie.Need-write_packed-requires
write-packed-requires c κs =
    let k = c.before in
    let e = k.before in
    let p = e.requires in
    (p.0, (sym e.ends_in_run.ensures ∙ search rules, omega (arith, p.1)))

write-sampled-requires : tie.Need-write_sampled-requires
write-sampled-requires c κs =
    let r = c.before in
    let k = r.before in
    let e = k.before in
    let known = e.before.before.before in
    let p = known.requires in
    let ran : e.ends_in_run.result ≡ false = search rules in
    let ends = sym e.ends_in_run.ensures ∙ ran in
    let m = length-sampled p.0 (bytes known) ends _ r.read4-count.ensures in
    (p.0, (ends, (omega (arith, r.read4-count.ensures), omega (arith, m.0, p.1))))

returns-2 : tie.Need-returns
returns-2 c =
    let w = c.before.before in
    let r = w.before.before in
    let k = r.before in
    let e = k.before in
    let known = e.before.before.before in
    let ran : e.ends_in_run.result ≡ false = search rules in
    let ends = sym e.ends_in_run.ensures ∙ ran in
    ((length-sampled known.requires.0 (bytes known) ends _ r.read4-count.ensures).0, w.write_sampled.ensures)

pub write_form_spec : {M : Type 1} → statement M
write_form_spec =
    tie.close
    (tie.spec
    (λ c. let r = room c.before.before in omega arith)
    (λ c. let r = room c.before.before in omega arith)
    (λ c. let r = room c.before.before in omega arith)
    (λ c. let r = room c.before.before in omega arith)
    (λ c. let r = room c.before.before in omega arith)
    (λ c. let r = room c.before.before in omega arith)
    (λ c κs. let p = words-part c.requires.0 in (p.0, p.1))
    write-packed-requires
    (λ c. search rules)
    (λ c. c.write_packed.ensures)
    (λ c. let r = room c.before.before.before.before.before in omega arith)
    (λ c κs. let r = room c.before.before.before.before.before in omega arith)
    (λ c. search rules)
    (λ c. search rules)
    (λ c. search rules)
    (λ c. search rules)
    write-sampled-requires
    (λ c. search rules)
    returns-2)
