-- `linked::quantity_at` meets its contract: the row that is found is the channel's. Assumes nothing.
use mathlib.Core.Path.{◌≡◌, sym, ap, ap₂, ◌∙◌}
use mathlib.Core.List.{[]}
use Prim.Native.Nat.{ℕ, ◌<◌}
use native.Mathlib.Omega.{arith}
use borrow.Author.Rules.{rules}
use lib.ListN.{length, get_or}
use Rattle.links.specs.Links.{id_of, place_of}
use Rattle.links.specs.inner.Tables.{channel_of, channels_in}
use Rattle.links.proofs.Rows.{rows_at}
use Rattle.intake.specs.inner.Tallies.{named_at}
use Rattle.quantities.specs.Quantities.{quantity_by, quantity_of}
use Rattle.linked.proofs.quantity_at.Statement.{statement}
use Rattle.linked.proofs.quantity_at.Tie as tie

-- the row that is found is the named channel's, and one of those that are used
found : (c : tie.After-find_near-found) → let a = c.args in
    c.find_near-found.result ≡ place_of id_of (named_at a.msb a.file.now a.at).0 (channels_in a.used a.rows.now)
found c = rw c.named_at-named.ensures at c.find_near-found.ensures

below : (c : tie.After-find_near-found) → c.find_near-found.result < c.args.used
below c = omega (arith, found c, c.requires.1.1.1.0)

mul-row : tie.Need-offset_bounds-rows-found
mul-row c =
    let s = c.before.before.before.before in
    let h : c.find_near-found.result < length s.args.rows.now = omega (arith, below c, s.requires.1.0) in
    search rules

returns : tie.Need-returns
returns c =
    let m = c.before.before in
    let k = m.before.before in
    let a = k.args in
    c.quantity_by.ensures
    ∙ ap₂ quantity_by m.maker_of.ensures c.narrow.ensures
    ∙ ap quantity_of
    (sym (rows_at channel_of a.rows.now a.used k.find_near-found.result [] (below k))
    ∙ ap (λ (i : ℕ). get_or (channels_in a.used a.rows.now) i (channel_of [])) (found k))

pub quantity_at_spec : {M : Type 1} → statement M
quantity_at_spec =
    tie.close
    (tie.spec
    (λ c κs. search rules)
    (λ c κs. search rules)
    mul-row
    (λ c. let s = c.before.before.before.before in omega (arith, below c, s.requires.1.0))
    (λ c. search rules)
    (λ c κs. search rules)
    (λ c. search rules)
    (λ c κs. search rules)
    (λ c κs. search rules)
    returns)
