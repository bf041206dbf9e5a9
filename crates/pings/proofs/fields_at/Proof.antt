-- `pings::fields_at` meets its contract: header and attribute are read at their places; number of values and length by its part.
-- Assumes nothing.
use mathlib.Core.Path.{◌∙◌}
use Prim.Native.Nat.{◌+◌, ◌≤◌}
use native.Mathlib.Omega.{arith}
use mir.Syntax.{w32}
use mir.Facts.{to_z-of_z}
use lib.ListN.{length}
use Rattle.pings.proofs.Reading.{whole-there, part_sound}
use Rattle.pings.proofs.Fielding.{fields-there}
use Rattle.pings.proofs.fields_at.Statement.{statement}
use Rattle.pings.proofs.fields_at.Tie as tie

-- the ping has room for its fields, and stands in the file
room : (k : tie.After-shared_slice_known-1) → let a = k.args in
    (36 ≤ a.whole) × (a.whole ≤ 262144) × (a.place + a.whole ≤ length a.file.now)
room k = let s = k.requires in whole-there s s.asks

returns : tie.Need-returns
returns c =
    let n = c.before in
    let t = n.before in
    let g = t.before in
    let h = g.before in
    let s = h.requires in
    fields-there s _ _ _ _ _ h.header_at.ensures
    (to_z-of_z {w = w32} {z = g.signed4_at.result} (record { sfits = g.signed4_at.type_inv }) ∙ g.signed4_at.ensures)
    t.kind_of.ensures n.count_values.ensures c.length_by.ensures

pub fields_at_spec : {M : Type 1} → statement M
fields_at_spec =
    tie.close
    (tie.spec
    (λ c. let r = room c in omega arith)
    (λ c. let r = room c in omega arith)
    (λ c. let r = room c in omega arith)
    (λ c. let r = room c in omega arith)
    (λ c. let r = room c in omega arith)
    (λ c. let r = room c in omega arith)
    (λ c κs. let r = room c.before in omega arith)
    (λ c κs. let r = room c.before.before in omega arith)
    (λ c κs. c.requires.asks)
    (λ c κs. let s = c.requires in part_sound s s.asks)
    (λ c κs. let s = c.requires in part_sound s s.asks)
    returns)
