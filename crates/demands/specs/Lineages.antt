-- Demand 2 in words, of the links: the one channel that a ping names, that channel's one sounder, and what asking gives. Assumes
-- nothing.
use Rattle.std.specs.Prelude.{◌≡◌, Bool, true, List, ◌∷◌, ◌++◌, ℕ, ◌+◌, length}
use Rattle.layout.specs.Types.{is_ping}
use Rattle.layout.specs.declared.Maker.{Maker}
use Rattle.layout.specs.declared.Maker.TheVariants.{Biosonics, Simrad}
use Rattle.layout.specs.declared.SoftwareChannel.{SoftwareChannel}
use Rattle.layout.specs.declared.Counts.{Counts}
use Rattle.layout.specs.declared.DocumentId.{DocumentId}
use Rattle.frame.specs.Frames.{Tup, frames}
use Rattle.frame.specs.Files.{is_msb}
use Rattle.frame.specs.Tuples.{tuples_of}
use Rattle.links.specs.declared.Sounder.{Sounder}
use Rattle.links.specs.declared.Channel.{Channel}
use Rattle.links.specs.Links.{Link}
use Rattle.content.specs.Pings.{Ping}
use Rattle.content.specs.Items.{number_at, digest}
use Rattle.intake.specs.Asked.{Asked}
use Rattle.intake.specs.Asking.{ask_at}

-- ---- one tuple among others
pub record Among (xs : List Tup) : Type 0 where
  pub before : List Tup
  pub it : Tup
  pub behind : List Tup
  pub split : xs ≡ before ++ (it ∷ behind)

-- exactly one of these tuples is of this kind, and where it stands
pub record Sole (P : Tup → Type 0) (xs : List Tup) : Type 0 where
  pub one : Among xs
  pub is : P one.it
  pub only : (a : Among xs) → P a.it → a.before ≡ one.before

-- ---- a lineage
-- a channel tuple that declares c, and a sounder tuple that declares d
pub record ChannelTuple (o : Bool) (c : SoftwareChannel) (t : Tup) : Type 0 where
  pub it : Channel
  pub declares : (digest o t).link ≡ Link.channel it
  pub named : it.id ≡ c

pub record SounderTuple (o : Bool) (d : DocumentId) (t : Tup) : Type 0 where
  pub it : Sounder
  pub declares : (digest o t).link ≡ Link.sounder it
  pub named : it.doc ≡ d

-- a maker's echosounder and channel tuples have these types
abbrev pub sounder_type : Maker → ℕ
sounder_type Biosonics = 100
sounder_type Simrad = 200

abbrev pub channel_type : Maker → ℕ
channel_type Biosonics = 1000
channel_type Simrad = 2000

-- the parents of what names a channel behind these tuples: the one tuple that declares it, and the one tuple before that which
-- declares the sounder it names; both are of one maker, and so of that maker's types
pub record Lineage (o : Bool) (xs : List Tup) (c : SoftwareChannel) : Type 0 where
  pub channel : Sole (ChannelTuple o c) xs
  pub sounder : Sole (SounderTuple o channel.is.it.parent) channel.one.before
  pub maker : Maker
  pub made : (channel.is.it.maker ≡ maker) × (sounder.is.it.maker ≡ maker)
  pub typed : (channel.one.it.kind ≡ channel_type maker) × (sounder.one.it.kind ≡ sounder_type maker)

-- ---- a listed ping
-- the channel that a ping's header names
abbrev pub channel_in : Ping → SoftwareChannel
channel_in q = record { 0 = number_at q.head 2 }

-- a ping of a listed type
abbrev pub Listed : Tup → Type 0
Listed t = is_ping t.kind ≡ true

-- ---- asking
-- the place behind the mark and these tuples
abbrev pub place_after : Bool → List Tup → ℕ
place_after o xs = 4 + length (frames o xs)

-- the parents and their places, the channel's sampling rate and what its samples are, for the answer
abbrev pub gives : {o : Bool} {xs : List Tup} {c : SoftwareChannel} → Lineage o xs c → Counts → Asked
gives {o} {xs} {c} g n =
    let it = g.channel.is.it in
    Asked.Parents c (place_after o g.channel.one.before) it.rate it.samples it.parent (place_after o g.sounder.one.before)
    n

-- what asking at a ping gives: the channel that it names, the channel's lineage, and the answer by these
pub record Answered (f : List ℕ) (a : Among (tuples_of f)) (n : Counts) : Type 0 where
  pub channel : SoftwareChannel
  pub names : (digest (is_msb f) a.it).link ≡ Link.names channel
  pub lineage : Lineage (is_msb f) a.before channel
  pub answer : ask_at f (place_after (is_msb f) a.before) ≡ gives lineage n
