-- The pings of a file and their channels hang on its content alone: `contents`. Assumes nothing.
use mathlib.Core.Path.{◌≡◌, refl, sym, ap, ◌∙◌}
use mathlib.Core.Bool.{Bool}
use mathlib.Core.List.{List, [], ◌∷◌, ◌++◌, map, filter_map}
use mathlib.Core.Option.{Option, Option-elim, some, none}
use Prim.Native.Nat.{ℕ, ◌+◌}
use Rattle.frame.specs.Frames.{Tup, length_of}
use Rattle.frame.specs.Files.{is_msb}
use Rattle.frame.specs.Tuples.{tuples_of}
use Rattle.links.specs.declared.Channel.{Channel}
use Rattle.links.specs.Links.{Links, start, note}
use Rattle.links.proofs.Linked.{note-nothing}
use Rattle.content.specs.Pings.{Ping}
use Rattle.content.specs.Items.{Item, plain, ping, raw, item_of, digest_of, digest_item, digest}
use Rattle.linked.specs.Linked.{Linked, channel_for, linked_here, linked_from, linked_of}
use Rattle.linked.specs.Contents.{items_of, pairs_of, Contents}

abbrev pair : Linked → Ping × Channel
pair l = (l.ping, l.channel)

-- of a content, behind what was declared so far
pairs_in : Links → List Item → List (Ping × Channel)
pairs_in s [] = []
pairs_in s (plain k vs ∷ c) = pairs_in (note s (digest_of (plain k vs))) c
pairs_in s (ping q ∷ c) = (q, channel_for s q) ∷ pairs_in (note s (digest_of (ping q))) c
pairs_in s (raw k d ∷ c) = pairs_in (note s (digest_of (raw k d))) c

pairs-from : (o : Bool) (s : Links) (at : ℕ) (ts : List Tup) → map pair (linked_from o s at ts) ≡ pairs_in s (filter_map (item_of o) ts)
unfolding linked_from filter_map pairs_in
pairs-from o s at [] = refl
pairs-from o s at (t ∷ ts) = by (item_of o t) _ (pairs-from o (note s (digest o t)) (at + length_of t) ts)
  where
    by : (i : Option Item) (ls : List Linked) → map pair ls ≡ pairs_in (note s (digest_item i)) (filter_map (item_of o) ts)
        → map pair (linked_here s at i ++ ls) ≡ pairs_in s (Option-elim i (filter_map (item_of o) ts) (λ b. b ∷ filter_map (item_of o) ts))
    by none ls h = h ∙ ap (λ (x : Links). pairs_in x (filter_map (item_of o) ts)) (note-nothing s)
    by (some (plain k vs)) ls h = h
    by (some (ping q)) ls h = ap (λ (l : List (Ping × Channel)). (q, channel_for s q) ∷ l) h
    by (some (raw k d)) ls h = h

-- of a file
pairs_of_lem : (f : List ℕ) → pairs_of f ≡ pairs_in start (items_of f)
unfolding linked_of
pairs_of_lem f = pairs-from (is_msb f) start 4 (tuples_of f)

pub contents : Contents
contents = record { same = λ f g e. pairs_of_lem f ∙ ap (pairs_in start) e ∙ sym (pairs_of_lem g) }
