-- `ping_forms::plain::write_form` meets its contract: size, type and header; the samples; attribute and backlink. Assumes nothing.
use mathlib.Core.Path.{◌≡◌, ap, ◌∙◌}
use mathlib.Core.Bool.{true}
use Prim.Native.Nat.{ℕ, ◌+◌, ◌≤◌}
use native.Mathlib.Omega.{arith}
use borrow.Author.Rules.{rules}
use lib.ListN.{length}
use Rattle.order.proofs.Laws.{bytes_of_lem}
use Rattle.layout.specs.Types.{fitting, lengths_u}
use Rattle.layout.specs.inner.Codes.{family_of}
use Rattle.ping_forms.specs.inner.Parts.{part_at}
use Rattle.ping_forms.proofs.Placed.{most, part_length_lem, fits-plain, long-plain}
use Rattle.ping_forms.proofs.Written.{plain-written}
use Rattle.ping_forms.proofs.plain.write_form.Statement.{statement}
use Rattle.ping_forms.proofs.plain.write_form.Tie as tie

-- places, named by what has been done there
abbrev start : tie.After-slice_known-2-1 → tie.Start
start c = c.before.before.before.before.before.before

-- the ping has room for its header and its last 8 bytes, and stands in the file
abbrev Room : tie.Start → Type 0
Room s = let a = s.args in (36 ≤ a.whole) × (a.whole ≤ 262144) × (a.at + a.whole ≤ length a.file.now)

room : (s : tie.Start) → Room s
room s = let r = most s.requires.0 in (long-plain s.requires.0 _ s.requires.1.0, r.1, r.2)

-- how many bytes its samples have
abbrev many : tie.Start → ℕ
many s = let a = s.args in length (part_at a.file.now a.at a.whole 24)

fill : (s : tie.Start) → many s + 32 ≡ s.args.whole
fill s = let r = room s in let l = part_length_lem s.requires.0 24 (omega arith) in omega (arith, l)

fits : (s : tie.Start) → fitting (lengths_u (family_of s.args.code)) (many s + 32) ≡ true
fits s = ap (fitting (lengths_u (family_of s.args.code))) (fill s) ∙ fits-plain s.requires.0 _ s.requires.1.0

open-ping-requires : tie.Need-open_ping-requires
open-ping-requires c κs =
    let r = room c.before.before.before in
    (omega arith, (omega arith, (omega arith, omega arith)))

turn-samples-requires : tie.Need-turn_samples-requires
turn-samples-requires c κs =
    let s = start c.before.before in
    let r = room s in
    (omega (arith, fill s), (s.requires.1.0, fits s))

close-form-requires : tie.Need-close_form-requires
close-form-requires c κs =
    let r = room (start c.before.before.before.before.before.before) in
    (omega arith, (omega arith, omega arith))

returns : tie.Need-returns
returns c =
    let back = c.before.before in
    let samples = back.before.before.before.before in
    let header = samples.before.before.before.before.before in
    let known = header.before.before.before in
    let s = known.before in
    let a = s.args in
    let bytes = bytes_of_lem a.file.now (λ i. (known.shared_slice_known-1.given i).fits) in
    plain-written s.requires.0 a.out.now _ a.to bytes _ s.requires.1.0
    (rw (back.close_form.ensures, samples.turn_samples.ensures, header.open_ping.ensures))

pub write_form_spec : {M : Type 1} → statement M
write_form_spec =
    tie.close
    (tie.spec
    (λ c. let r = room c.before.before in omega arith)
    open-ping-requires
    (λ c. search rules)
    (λ c. search rules)
    (λ c. let r = room (start c) in omega arith)
    (λ c. let r = room (start c) in omega arith)
    (λ c. let r = room (start c) in omega arith)
    (λ c. search rules)
    turn-samples-requires
    (λ c. search rules)
    (λ c. search rules)
    close-form-requires
    (λ c. search rules)
    returns)
