-- Asking for a linked ping and asking for a ping's channel and sounder say the same. Assumes nothing.
use Rattle.std.specs.Prelude.{◌≡◌, ℕ, List}
use Rattle.layout.specs.declared.DocumentId.{DocumentId}
use Rattle.layout.specs.declared.SoftwareChannel.{SoftwareChannel}
use Rattle.content.specs.Items.{number_at}
use Rattle.intake.specs.Asked.{Asked}
use Rattle.intake.specs.Asked.{Parents, Refused}
use Rattle.intake.specs.Asking.{ask_at}
use Rattle.linked.specs.Linked.{Linked, Sought, sought, refused, sought_at}

-- a linked ping stands at the place, its header names the channel c, and its channel is the one of that identifier, sampling rate r,
-- samples k and sounder d
pub record AsTold (p : ℕ) (l : Linked) (c : SoftwareChannel) (r k : ℕ) (d : DocumentId) : Type 0 where
  pub place : l.place ≡ p
  pub named : number_at l.ping.head 2 ≡ c.0
  pub channel : l.channel.id ≡ c
  pub rate : l.channel.rate ≡ r
  pub samples : l.channel.samples ≡ k
  pub sounder : l.channel.parent ≡ d

-- both find a ping, with the same channel and the same counts; or both refuse, by the same code and at the same place
abbrev pub Alike : ℕ → Sought → Asked → Type 0
Alike p (sought l n) (Parents c cp r k d dp m) = AsTold p l c r k d × (n ≡ m)
Alike p (sought l n) (Refused c q) = ⊥
Alike p (refused b s) (Parents c cp r k d dp m) = ⊥
Alike p (refused b s) (Refused c q) = (b ≡ c) × (s ≡ q)

pub record AsAsking : Type 0 where
  pub alike : (f : List ℕ) (p : ℕ) → Alike p (sought_at f p) (ask_at f p)
