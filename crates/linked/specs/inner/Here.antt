-- A linked ping at a place of an accepted file, by its bytes; and the channels that are kept of the tuples before a place. Assumes nothing.
use Rattle.std.specs.Prelude.{Option, Some, None, ◌≡◌, ℕ, ◌+◌, ◌-◌, ◌≤◌, Bool, true, false, List, ◌++◌, length, take, drop}
use Rattle.std.proofs.Math.Option.{some, none}
use Rattle.layout.specs.Types.{shape_of, is_ping}
use Rattle.frame.specs.Frames.{tup_at}
use Rattle.links.specs.declared.Channel.{Channel}
use Rattle.links.specs.Links.{new_channels, most_channels}
use Rattle.links.specs.inner.Tables.{channels_in}
use Rattle.samples.specs.Judging.{dropping}
use Rattle.content.specs.Pings.{Ping}
use Rattle.content.specs.Items.{digest}
use Rattle.pings.specs.inner.Handing.{part_samples, SoundPart}
use Rattle.quantities.specs.Quantities.{quantity_of}
use Rattle.quantities.specs.inner.Codes.{family_of}
use Rattle.linked.specs.declared.Spot.{Spot}
use Rattle.linked.specs.Linked.{Linked, linked_of, standing}

-- the bytes between the header and the attribute of a ping of n bytes at p
abbrev pub part_at : List ℕ → ℕ → ℕ → List ℕ
part_at f p n = take (p + n - 8 - (p + 24)) (drop (p + 24) f)

-- the part of a listed ping of type k and of n bytes at p, in the byte order o, that keeps its own rules
pub record PartHere (f : List ℕ) (p : ℕ) (o : Bool) (n k : ℕ) : Type 0 where
  pub listed : is_ping k ≡ true
  pub long : 36 ≤ n
  pub fits : p + n ≤ length f
  pub sound : SoundPart k o (part_at f p n)
  pub few : length (part_samples (shape_of k) o (part_at f p n)) ≤ 32764
  pub rising : dropping (part_samples (shape_of k) o (part_at f p n)) ≡ false

-- it says this ping's family and samples
pub record SaysPing (f : List ℕ) (p : ℕ) (o : Bool) (n k : ℕ) (q : Ping) : Type 0 where
  pub family : q.family ≡ family_of k
  pub samples : q.samples ≡ part_samples (shape_of k) o (part_at f p n)

abbrev pub SpotHere : List ℕ → Spot → Type 0
SpotHere f x = PartHere f x.at x.msb x.whole x.code

-- what is found at a place: the linked ping there, by its bytes and by what its channel's samples are; or that none stands there
pub record FoundPing (f : List ℕ) (p : ℕ) (x : Spot) : Type 0 where
  pub linked : Linked
  pub stands : standing p (linked_of f) ≡ some linked
  pub place : linked.place ≡ x.at
  pub quantity : quantity_of linked.channel ≡ x.quantity
  pub here : SpotHere f x
  pub says : SaysPing f x.at x.msb x.whole x.code linked.ping

abbrev pub FoundAt : List ℕ → ℕ → Option Spot → Type 0
FoundAt f p (Some x) = FoundPing f p x
FoundAt f p None = standing p (linked_of f) ≡ none

-- ---- what the tuple at a place declares
abbrev pub new_here : Bool → List ℕ → ℕ → List Channel
new_here o f at = new_channels (digest o (tup_at o (drop at f))).link

-- past it: so many rows are used, and they keep what it declares too
pub record Past (used : ℕ) (rows : List (List ℕ)) (new : List Channel) (n : ℕ) (next : List (List ℕ)) : Type 0 where
  pub many : n ≡ used + length new
  pub declared : channels_in n next ≡ channels_in used rows ++ new
  pub long : length next ≡ most_channels
