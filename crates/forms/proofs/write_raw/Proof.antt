-- `forms::write_raw` meets its contract: size and type, the data, the backlink. Assumes nothing.
use Prim.Native.Nat.{◌+◌, ◌≤◌}
use native.Mathlib.Omega.{arith}
use borrow.Author.Rules.{rules}
use lib.ListN.{length}
use Rattle.ping_forms.proofs.Placed.{most}
use Rattle.ping_forms.proofs.Written.{raw-written}
use Rattle.forms.proofs.write_raw.Statement.{statement}
use Rattle.forms.proofs.write_raw.Tie as tie

-- places, named by what has been done there
abbrev start : tie.After-copy-arg-1 → tie.Start
start c = c.before.before.before.before.before.before.before

-- the tuple stands in the file, and is no longer than a tuple may be
abbrev Room : tie.Start → Type 0
Room s = let a = s.args in (16 ≤ a.whole) × (a.whole ≤ 262144) × (a.at + a.whole ≤ length a.file.now)

room : (s : tie.Start) → Room s
room s = most s.requires.0

open-frame-requires : tie.Need-open_frame-requires
open-frame-requires c κs = let r = room c.before.before.before in (omega arith, (omega arith, omega arith))

copy-requires : tie.Need-copy-requires
copy-requires c κs = let r = room (start c) in (omega arith, omega arith)

cast-store4 : tie.Need-overflow_cast-whole
cast-store4 c = let r = room (start c.before.before.before.before) in omega arith

returns : tie.Need-returns
returns c =
    let back = c.before.before in
    let body = back.before.before.before.before in
    let front = body.before.before.before.before in
    let p = front.requires in
    raw-written p.0 _ _ _ p.1.0 (rw (back.store4.ensures, body.copy.ensures, front.open_frame.ensures))

pub write_raw_spec : {M : Type 1} → statement M
write_raw_spec =
    tie.close
    (tie.spec
    open-frame-requires
    (λ c. search rules)
    (λ c. search rules)
    (λ c. search rules)
    copy-requires
    (λ c. search rules)
    (λ c. search rules)
    cast-store4
    (λ c κs. search rules)
    (λ c. search rules)
    returns)
