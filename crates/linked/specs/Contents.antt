-- The pings of a file and their channels hang on its content alone. Assumes nothing.
use Rattle.std.specs.Prelude.{◌≡◌, ℕ}
use mathlib.Core.List.{List, map, filter_map}
use Rattle.frame.specs.Files.{is_msb}
use Rattle.frame.specs.Tuples.{tuples_of}
use Rattle.links.specs.declared.Channel.{Channel}
use Rattle.content.specs.Pings.{Ping}
use Rattle.content.specs.Items.{Item, item_of}
use Rattle.linked.specs.Linked.{Linked, linked_of}

-- the contents of a file's tuples, in order; those of the index class have none
abbrev pub items_of : List ℕ → List Item
items_of f = filter_map (item_of (is_msb f)) (tuples_of f)

-- its listed pings, each with its channel, in order
abbrev pub pairs_of : List ℕ → List (Ping × Channel)
pairs_of f = map (λ (l : Linked). (l.ping, l.channel)) (linked_of f)

pub record Contents : Type 0 where
  -- whatever their byte orders
  pub same : (f g : List ℕ) → items_of f ≡ items_of g → pairs_of f ≡ pairs_of g
