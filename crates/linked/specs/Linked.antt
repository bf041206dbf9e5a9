-- The listed pings of a file, each with the channel that the declarations before it give it; and asking for one of them. Assumes nothing.
use Rattle.std.specs.Prelude.{ℕ, ◌+◌, Bool, true, false, List, [], ◌∷◌, ◌++◌, eqb, get_or}
use Rattle.std.proofs.Math.Option.{Option, some, none}
use Rattle.layout.specs.declared.Counts.{Counts}
use Rattle.layout.specs.Answer.{Answer}
use Rattle.layout.specs.Answer.{Accepted, Refused}
use Rattle.frame.specs.Frames.{Tup, length_of}
use Rattle.frame.specs.Files.{is_msb}
use Rattle.frame.specs.Tuples.{tuples_of}
use Rattle.links.specs.declared.Channel.{Channel}
use Rattle.links.specs.Links.{Links, start, note, place_of, id_of}
use Rattle.content.specs.Pings.{Ping}
use Rattle.content.specs.Items.{Item, plain, ping, raw, item_of, number_at, digest}
use Rattle.intake.specs.Check.{check_file}
use Rattle.intake.specs.Asking.{no_channel}

-- a ping, its place and its channel
pub record Linked : Type 0 where
  pub place : ℕ
  pub ping : Ping
  pub channel : Channel

-- the channel that a ping's header names, among those declared before it
abbrev pub channel_for : Links → Ping → Channel
channel_for s q = get_or s.channels (place_of id_of (number_at q.head 2) s.channels) no_channel

-- ---- those of tuples one behind the other
-- a listed ping is one, and no other tuple is
abbrev pub linked_here : Links → ℕ → Option Item → List Linked
linked_here s at none = []
linked_here s at (some (plain k vs)) = []
linked_here s at (some (ping q)) = record { place = at; ping = q; channel = channel_for s q } ∷ []
linked_here s at (some (raw k d)) = []

-- the first tuple at a place, behind what was declared so far
unfoldable pub linked_from : Bool → Links → ℕ → List Tup → List Linked
linked_from o s at [] = []
linked_from o s at (t ∷ ts) = linked_here s at (item_of o t) ++ linked_from o (note s (digest o t)) (at + length_of t) ts

-- those of a file, in file order
unfoldable pub linked_of : List ℕ → List Linked
linked_of f = linked_from (is_msb f) start 4 (tuples_of f)

-- ---- the one that stands at a place
unfoldable pub standing : ℕ → List Linked → Option Linked
standing p [] = none
standing p (l ∷ ls) = elim (eqb l.place p) [ true ↦ some l | false ↦ standing p ls ]

-- ---- asking for it, as for a ping's channel and sounder: the check's refusals for the whole file, then 9 where no listed ping starts;
-- the ping with its channel, and what the file counts
pub data Sought : Type 0 where
  sought : Linked → Counts → Sought
  refused : ℕ → ℕ → Sought

abbrev pub sought_by : ℕ → Counts → Option Linked → Sought
sought_by p n none = refused 9 p
sought_by p n (some l) = sought l n

abbrev pub sought_in : List ℕ → ℕ → Answer → Sought
sought_in f p (Accepted n) = sought_by p n (standing p (linked_of f))
sought_in f p (Refused c q) = refused c q

unfoldable pub sought_at : List ℕ → ℕ → Sought
sought_at f p = sought_in f p (check_file f)
