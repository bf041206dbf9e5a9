-- A sound tuple's part by what is read at its places; what a tuple of a part says to the links. Assumes nothing.
use mathlib.Core.Path.{◌≡◌, refl, sym, ap, ◌∙◌}
use mathlib.Core.Bool.{Bool, true, false, cond}
use mathlib.Core.List.{List, []}
use mathlib.Core.Option.{Option, some, none}
use Prim.Native.Nat.{ℕ}
use borrow.Author.Tests.{eq-eqb, ne_eqb}
use lib.Dec.{eqb}
use lib.ListN.{length, drop}
use Rattle.layout.specs.declared.SoftwareChannel.{SoftwareChannel}
use Rattle.layout.specs.declared.Maker.{Maker}
use Rattle.layout.specs.declared.Says.{Says}
use Rattle.layout.specs.declared.Says.TheVariants as says
use Rattle.layout.specs.Types.{Shape, indexed, row, uncompressed, compressed, unlisted, listings, has_samples, is_ping, shape_of, says_of}
use Rattle.layout.proofs.Tables.{alike_all}
use Rattle.turning.specs.Rows.{values_of}
use Rattle.frame.specs.Frames.{Tup, tup_at}
use Rattle.links.specs.declared.Channel.{Channel}
use Rattle.links.specs.declared.Sounder.{Sounder}
use Rattle.links.specs.Links.{Link, new_channels}
use Rattle.links.specs.Links
use Rattle.content.specs.Items
use Rattle.content.specs.Items.{Item, row_in, item_by, item_of, unless, link_by, digest_of, digest_item, digest}
use Rattle.intake.specs.inner.Tallies.{sounder_at, channel_at, named_at}
use Rattle.intake.specs.inner.Sound.{SoundHere}
use Rattle.intake.proofs.Judges.{sound-fits, link-by}
use Rattle.settings.specs.declared.Role.{Role}
use Rattle.settings.specs.declared.Role.TheVariants.{Ping, Threshold, Attitude, ForAll, Declares, Other}
use Rattle.settings.specs.Settings.{role_by, role_item, role_of}

-- ---- a tuple's part by its shape and what it says to the links
ping_by : Link → Role
ping_by Links.none = Other
ping_by (Links.sounder s) = Other
ping_by (Links.channel c) = Other
ping_by (Links.names c) = Ping c

role_shape : Shape → ℕ → Link → Role
role_shape indexed k l = Other
role_shape (row fs x) k l = role_by k l
role_shape (uncompressed f) k l = ping_by l
role_shape (compressed f) k l = ping_by l
role_shape unlisted k l = Other

role-shape : (o : Bool) (t : Tup) → role_of o t ≡ role_shape (shape_of t.kind) t.kind (digest o t).link
unfolding role_of item_of role_shape ping_by digest_of
role-shape o t = by (shape_of t.kind)
  where
    by : (q : Shape) → role_item (item_by q o t) ≡ role_shape q t.kind (digest_item (item_by q o t)).link
    by indexed = refl
    by (row fs x) = refl
    by (uncompressed f) = refl
    by (compressed f) = refl
    by unlisted = refl

-- ---- by what its type says: one test over the listed types. `all` where the channel named means all
module _ (all : Bool) (c : SoftwareChannel) (s : Maker → Sounder) (d : Maker → Channel) where
  link_said : Says → Link
  link_said says.Nothing = Links.none
  link_said (says.Sounder m) = Links.sounder (s m)
  link_said (says.Channel m) = Links.channel (d m)
  link_said says.Names = Links.names c
  link_said says.NamesOrAll = unless all (Links.names c)

  abbrev pub role_said : Says → Bool → Role
  role_said says.Nothing pings = Other
  role_said (says.Sounder m) pings = Other
  role_said (says.Channel m) pings = Declares (d m)
  role_said says.Names pings = cond pings (Ping c) (Threshold c)
  role_said says.NamesOrAll pings = cond all ForAll (Attitude c)

tested : (all : Bool) (c : SoftwareChannel) (s : Maker → Sounder) (d : Maker → Channel) (k : ℕ)
    → role_shape (shape_of k) k (link_said all c s d (says_of k)) ≡ role_said all c s d (says_of k) (has_samples (shape_of k))
unfolding role_shape ping_by link_said
tested true c s d =
    alike_all (λ k l. role_shape l.shape k (link_said true c s d l.says))
    (λ k l. role_said true c s d l.says (has_samples l.shape)) (unfold listings in refl) (λ k. refl) (λ k. refl)
tested false c s d =
    alike_all (λ k l. role_shape l.shape k (link_said false c s d l.says))
    (λ k l. role_said false c s d l.says (has_samples l.shape)) (unfold listings in refl) (λ k. refl) (λ k. refl)

module _ {o : Bool} {f : List ℕ} {at n k : ℕ} (h : SoundHere o f at n k) where
  abbrev here : Tup
  here = tup_at o (drop at f)

  abbrev named : SoftwareChannel
  named = named_at o f at

  abbrev all : Bool
  all = eqb named.0 65535

  abbrev pub role_read : Says → Bool → Role
  role_read a pings = role_said all named (sounder_at o f at) (channel_at o f at) a pings

  link-read : (a : Says) → says_of k ≡ a → (digest o here).link ≡ link_said all named (sounder_at o f at) (channel_at o f at) a
  unfolding link_said
  link-read says.Nothing e = link-by h.here (sound-fits h) e
  link-read (says.Sounder m) e = link-by h.here (sound-fits h) e
  link-read (says.Channel m) e = link-by h.here (sound-fits h) e
  link-read says.Names e = link-by h.here (sound-fits h) e
  link-read says.NamesOrAll e = link-by h.here (sound-fits h) e

  -- the part of the tuple there is what is read
  pub role-read : (a : Says) (pings : Bool) → says_of k ≡ a → is_ping k ≡ pings → role_read a pings ≡ role_of o (tup_at o (drop at f))
  unfolding is_ping
  role-read a pings e p =
      sym (role-shape o here
      ∙ ap (λ (j : ℕ). role_shape (shape_of j) j (digest o here).link) h.here.kind
      ∙ ap (role_shape (shape_of k) k) (link-read (says_of k) refl)
      ∙ tested all named (sounder_at o f at) (channel_at o f at) k
      ∙ ap (λ (b : Says). role_read b (has_samples (shape_of k))) e
      ∙ ap (role_read a) p)

  -- an attitude of all channels, and of one
  pub role-all : says_of k ≡ says.NamesOrAll → (named_at o f at).0 ≡ 65535 → ForAll ≡ role_of o (tup_at o (drop at f))
  role-all e d = sym (ap (λ (b : Bool). cond b ForAll (Attitude named)) (eq-eqb named.0 65535 d)) ∙ role-read says.NamesOrAll _ e refl

  pub role-attitude : says_of k ≡ says.NamesOrAll → ((named_at o f at).0 ≡ 65535 → ⊥)
      → Attitude (named_at o f at) ≡ role_of o (tup_at o (drop at f))
  role-attitude e d =
      sym (ap (λ (b : Bool). cond b ForAll (Attitude named)) (ne_eqb named.0 65535 d)) ∙ role-read says.NamesOrAll _ e refl

-- ---- what a tuple of a part says to the links
abbrev pub LinkOf : Role → Link → Type 0
LinkOf (Ping c) l = l ≡ Links.names c
LinkOf (Threshold c) l = l ≡ Links.names c
LinkOf (Attitude c) l = l ≡ Links.names c
LinkOf ForAll l = new_channels l ≡ []
LinkOf (Declares c) l = l ≡ Links.channel c
LinkOf Other l = new_channels l ≡ []

row-link : (k : ℕ) (l : Link) → LinkOf (role_by k l) l
row-link k Links.none = by (eqb k 40)
  where
    by : (b : Bool) → LinkOf (cond b ForAll Other) Links.none
    by true = refl
    by false = refl
row-link k (Links.sounder s) = refl
row-link k (Links.channel c) = refl
row-link k (Links.names c) = by (eqb k 10100) (eqb k 40)
  where
    by : (a b : Bool) → LinkOf (cond a (Threshold c) (cond b (Attitude c) Other)) (Links.names c)
    by true b = refl
    by false true = refl
    by false false = refl

item-link : (i : Option Item) → LinkOf (role_item i) (digest_item i).link
unfolding digest_of
item-link none = refl
item-link (some (Items.plain k vs)) = row-link k (link_by (says_of k) vs)
item-link (some (Items.ping q)) = refl
item-link (some (Items.raw k d)) = refl

pub role-link : (o : Bool) (t : Tup) → LinkOf (role_of o t) (digest o t).link
unfolding role_of
role-link o t = item-link (item_of o t)

-- ---- a listed ping's part is a ping, and no other's is
abbrev pub is_ping_role : Role → Bool
is_ping_role (Ping c) = true
is_ping_role (Threshold c) = false
is_ping_role (Attitude c) = false
is_ping_role ForAll = false
is_ping_role (Declares c) = false
is_ping_role Other = false

pub no_ping : (k : ℕ) (l : Link) → is_ping_role (role_by k l) ≡ false
no_ping k Links.none = by (eqb k 40)
  where
    by : (b : Bool) → is_ping_role (cond b ForAll Other) ≡ false
    by true = refl
    by false = refl
no_ping k (Links.sounder s) = refl
no_ping k (Links.channel c) = refl
no_ping k (Links.names c) = by (eqb k 10100) (eqb k 40)
  where
    by : (a b : Bool) → is_ping_role (cond a (Threshold c) (cond b (Attitude c) Other)) ≡ false
    by true b = refl
    by false true = refl
    by false false = refl

pub ping-role : (o : Bool) (t : Tup) → is_ping_role (role_of o t) ≡ is_ping t.kind
unfolding role_of item_of is_ping
ping-role o t = by (shape_of t.kind)
  where
    by : (q : Shape) → is_ping_role (role_item (item_by q o t)) ≡ has_samples q
    by indexed = refl
    by (row fs x) = no_ping t.kind (link_by (says_of t.kind) (values_of o (row_in fs x (length t.body)) t.body))
    by (uncompressed f) = refl
    by (compressed f) = refl
    by unlisted = refl
