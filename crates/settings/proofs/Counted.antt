-- The linked pings of a file are as many as its rows. Assumes nothing.
use mathlib.Core.Path.{◌≡◌, refl, sym, ap, ap₂, ◌∙◌}
use mathlib.Core.Bool.{Bool, cond}
use mathlib.Core.List.{List, [], ◌∷◌}
use mathlib.Core.Option.{Option, some, none}
use Prim.Native.Nat.{ℕ, ◌+◌}
use lib.ListN.{length, length-append}
use Rattle.layout.specs.Types.{says_of}
use Rattle.frame.specs.Frames.{Tup, length_of}
use Rattle.frame.specs.Files.{is_msb}
use Rattle.frame.specs.Tuples.{tuples_of}
use Rattle.links.specs.Links.{Links, start, note}
use Rattle.content.specs.Items.{Item, plain, ping, raw, link_by, item_of, digest}
use Rattle.linked.specs.Linked.{linked_here, linked_from, linked_of}
use Rattle.settings.specs.Settings.{role_item, role_of, settings_of}
use Rattle.settings.specs.Governing.{pings_among}
use Rattle.settings.proofs.Roles.{is_ping_role, no_ping, ping-role}
use Rattle.settings.proofs.Governing.{rows-many}

one-linked : (s : Links) (at : ℕ) (i : Option Item) → length (linked_here s at i) ≡ cond (is_ping_role (role_item i)) 1 0
one-linked s at none = refl
one-linked s at (some (plain k vs)) = ap (λ (p : Bool). cond p 1 0) (sym (no_ping k (link_by (says_of k) vs)))
one-linked s at (some (ping q)) = refl
one-linked s at (some (raw k d)) = refl

count-linked : (o : Bool) (s : Links) (at : ℕ) (ts : List Tup) → length (linked_from o s at ts) ≡ pings_among ts
unfolding linked_from pings_among role_of
count-linked o s at [] = refl
count-linked o s at (t ∷ ts) =
    let s⁺ = note s (digest o t) in
    length-append (linked_here s at (item_of o t)) (linked_from o s⁺ (at + length_of t) ts)
    ∙ ap₂ (λ (x y : ℕ). x + y) (one-linked s at (item_of o t) ∙ ap (λ (p : Bool). cond p 1 0) (ping-role o t))
    (count-linked o s⁺ (at + length_of t) ts)

pub linked-rows : (f : List ℕ) → length (linked_of f) ≡ length (settings_of f)
unfolding linked_of
linked-rows f = count-linked (is_msb f) start 4 (tuples_of f) ∙ sym (rows-many f)
