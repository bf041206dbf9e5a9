-- A loop over an accepted file that tells something of its linked pings: what it carries at a place, behind the tuples noted so far, alone
-- (`Telling`) and with the rows of the channels declared so far (`Along`). Assumes nothing.
use mathlib.Core.Path.{◌≡◌, refl, sym, ap, subst, ◌∙◌}
use mathlib.Core.Bool.{Bool, true, false}
use mathlib.Core.List.{List, [], ◌∷◌, ◌++◌}
use Prim.Native.Nat.{ℕ, ◌+◌, ◌-◌, ◌≤◌, ◌<◌}
use native.Mathlib.Omega.{arith}
use lib.ListN.{length, drop, get_or}
use Rattle.layout.specs.Types.{is_ping}
use Rattle.frame.specs.Frames.{Tup, length_of, len_at, kind_at, tup_at}
use Rattle.frame.specs.Files.{limit, is_msb}
use Rattle.frame.specs.Tuples.{tuples_of}
use Rattle.frame.proofs.Places.{Whole}
use Rattle.links.specs.declared.Channel.{Channel}
use Rattle.links.specs.Links.{Links, start, id_of, place_of, Apart, note, most_channels}
use Rattle.links.specs.inner.Tables.{channel_of, channels_in}
use Rattle.content.specs.Items.{item_of, digest}
use Rattle.intake.specs.inner.Tallies.{named_at}
use Rattle.intake.specs.inner.Sound.{SoundHere, Accepts}
use Rattle.intake.proofs.Loops.{Passing, passing-begin, passing-within, passing-sound, passing-whole, passing-linked, passing-again}
use Rattle.intake.proofs.Loops.{passing-tells, passing-less, passing-done, accepted-small}
use Rattle.quantities.specs.declared.Quantity.{Quantity}
use Rattle.quantities.specs.Quantities.{quantity_of}
use Rattle.linked.specs.Linked.{Linked, channel_for, linked_here, linked_from, linked_of}
use Rattle.linked.specs.inner.Here.{PartHere, SaysPing, new_here, Past}
use Rattle.linked.proofs.Kept.{Keeping, keeping-begin, keeping-room, keeping-apart, keeping-named, keeping-more, keeping-past}
use Rattle.linked.proofs.Pings.{Pinged, pinged, none-linked, one-linked, ping-names, part-here, says-ping}

-- ---- what the loop tells of the linked pings to come is the whole
pub record Telling {A : Type 0} (told : List Linked → A) (whole : A) (f : List ℕ) (o : Bool) (at : ℕ) : Type 0 where
  pub accepted : Accepts f
  pub msb : o ≡ is_msb f
  pub from : 4 ≤ at
  pub links : Links
  pub passing : Passing (λ (p : ℕ) (ts : List Tup). told (linked_from o links p ts)) whole o f at links

-- behind the mark
pub telling-begin : {A : Type 0} (told : List Linked → A) (f : List ℕ) (o : Bool) → Accepts f → o ≡ is_msb f
    → Telling told (told (linked_of f)) f o 4
unfolding linked_of
telling-begin told f o a e =
    record {
      accepted = a;
      msb = e;
      from = omega arith;
      links = start;
      passing =
          subst (λ (x : Bool). Passing (λ p ts. told (linked_from o start p ts)) (told (linked_from x start 4 (tuples_of f))) o f 4 start) e
          (passing-begin (λ p ts. told (linked_from o start p ts)) f o a e);
    }

module _ {A : Type 0} {told : List Linked → A} {whole : A} {f : List ℕ} {o : Bool} {at : ℕ} (g : Telling told whole f o at) where
  -- at the end of the file all is told
  pub telling-done : length f ≤ at → told [] ≡ whole
  unfolding linked_from
  telling-done h = passing-done g.passing h

  pub telling-within : (at ≤ length f) × (length f ≤ limit)
  telling-within = (passing-within g.passing, accepted-small f g.accepted)

  -- before it, a sound and linked tuple stands at the place
  module _ (h : at < length f) where
    abbrev t : Tup
    t = tup_at o (drop at f)

    pub telling-whole : Whole o f at (len_at o (drop at f))
    telling-whole = passing-whole g.passing h

    pub telling-less : (n : ℕ) → n ≡ len_at o (drop at f) → length f - (at + n) < length f - at
    telling-less n e = passing-less g.passing h n e

    module _ (n k : ℕ) (en : n ≡ len_at o (drop at f)) (ek : k ≡ kind_at o (drop at f)) where
      pub telling-sound : SoundHere o f at n k
      telling-sound = rw (en, ek) (passing-sound g.passing h)

      -- behind it
      go : (later : List Linked → A) → ((ls : List Linked) → told (linked_here g.links at (item_of o t) ++ ls) ≡ later ls)
          → Telling later whole f o (at + n)
      unfolding linked_from
      go later x =
          let s⁺ = note g.links (digest o t) in
          record {
            accepted = g.accepted;
            msb = g.msb;
            from = omega (arith, g.from);
            links = s⁺;
            passing =
                passing-again g.passing h n en (λ p ts. later (linked_from o s⁺ p ts))
                (λ ts. x (linked_from o s⁺ (at + length_of t) ts));
          }

      -- no tuple but a listed ping is one of them
      pub telling-other : is_ping k ≡ false → Telling told whole f o (at + n)
      telling-other z = go told (λ ls. ap (λ (x : List Linked). told (x ++ ls)) (none-linked telling-sound g.links z))

      -- a listed ping is the next of them
      module _ (z : is_ping k ≡ true) where
        abbrev it : Pinged telling-sound
        it = pinged telling-sound z

        pub linked-at : Linked
        linked-at = record { place = at; ping = it.it; channel = channel_for g.links it.it }

        here : linked_here g.links at (item_of o t) ≡ linked-at ∷ []
        unfolding linked-at
        here = one-linked telling-sound z g.links

        pub telling-ping : (later : List Linked → A) → ((ls : List Linked) → told (linked-at ∷ ls) ≡ later ls)
            → Telling later whole f o (at + n)
        telling-ping later x = go later (λ ls. ap (λ (y : List Linked). told (y ++ ls)) here ∙ x ls)

        -- with it and those behind it the whole is told
        pub telling-tells : (B : Type 0) → ((ls : List Linked) → told (linked-at ∷ ls) ≡ whole → B) → B
        unfolding linked_from
        telling-tells B x =
            passing-tells g.passing h B
            (λ ts e. let ls = linked_from o (note g.links (digest o t)) (at + length_of t) ts in
            x ls (sym (ap (λ (y : List Linked). told (y ++ ls)) here) ∙ e))

        pub telling-stop : (a : A) → ((ls : List Linked) → told (linked-at ∷ ls) ≡ a) → a ≡ whole
        telling-stop a x = telling-tells (a ≡ whole) (λ ls e. sym (x ls) ∙ e)

        -- it stands at the place, and its part of the file says it
        pub linked-place : linked-at.place ≡ at
        unfolding linked-at
        linked-place = refl

        pub linked-part : PartHere f at o n k
        linked-part = part-here telling-sound z g.accepted g.msb g.from

        pub linked-says : SaysPing f at o n k linked-at.ping
        unfolding linked-at
        linked-says = says-ping telling-sound z g.accepted g.msb g.from

-- ---- and the rows keep the channels declared so far
pub record Along {A : Type 0} (told : List Linked → A) (whole : A) (f : List ℕ) (o : Bool) (at used : ℕ)
    (rows : List (List ℕ)) : Type 0 where
  pub telling : Telling told whole f o at
  pub keeping : Keeping used rows telling.links

pub along-begin : {A : Type 0} (told : List Linked → A) (f : List ℕ) (o : Bool) (rows : List (List ℕ)) → Accepts f → o ≡ is_msb f
    → length rows ≡ most_channels
    → Along told (told (linked_of f)) f o 4 0 rows
unfolding telling-begin
along-begin told f o rows a e l = record { telling = telling-begin told f o a e; keeping = keeping-begin rows l }

module _ {A : Type 0} {told : List Linked → A} {whole : A} {f : List ℕ} {o : Bool} {at used : ℕ} {rows : List (List ℕ)}
    (g : Along told whole f o at used rows) where
  pub along-rows : (used ≤ length rows) × Apart id_of (channels_in used rows)
  along-rows = (keeping-room g.keeping, keeping-apart g.keeping g.telling.passing.steady)

  module _ (h : at < length f) where
    pub along-room : used + length (new_here o f at) ≤ most_channels
    along-room = keeping-more g.keeping o f at (passing-linked g.telling.passing h)

    module _ (n k : ℕ) (en : n ≡ len_at o (drop at f)) (ek : k ≡ kind_at o (drop at f)) where
      -- past the tuple
      module _ (m : ℕ) (next : List (List ℕ)) (p : Past used rows (new_here o f at) m next) where
        past : Keeping m next (note g.telling.links (digest o (tup_at o (drop at f))))
        past = keeping-past g.keeping o f at (passing-linked g.telling.passing h) m next p

        pub along-other : is_ping k ≡ false → Along told whole f o (at + n) m next
        unfolding telling-other go
        along-other z = record { telling = telling-other g.telling h n k en ek z; keeping = past }

        pub along-ping : (z : is_ping k ≡ true) (later : List Linked → A)
            → ((ls : List Linked) → told (linked-at g.telling h n k en ek z ∷ ls) ≡ later ls)
            → Along later whole f o (at + n) m next
        unfolding telling-ping go
        along-ping z later x = record { telling = telling-ping g.telling h n k en ek z later x; keeping = past }

      -- a listed ping's channel is on a row, which says what its samples are
      module _ (z : is_ping k ≡ true) where
        pub along-named : place_of id_of (named_at o f at).0 (channels_in used rows) < used
        along-named =
            keeping-named g.keeping _ (named_at o f at) (passing-linked g.telling.passing h)
            (ping-names (telling-sound g.telling h n k en ek) z)

        pub along-quantity : (x : Quantity)
            → x ≡ quantity_of (get_or (channels_in used rows) (place_of id_of (named_at o f at).0 (channels_in used rows)) (channel_of []))
            → quantity_of (linked-at g.telling h n k en ek z).channel ≡ x
        unfolding linked-at
        along-quantity x e =
            let cs = g.telling.links.channels in
            sym
            (e
            ∙ ap (λ (y : List Channel). quantity_of (get_or y (place_of id_of (named_at o f at).0 y) (channel_of []))) g.keeping.declared
            ∙ ap (λ (i : ℕ). quantity_of (get_or cs (place_of id_of i cs) (channel_of [])))
            (sym (pinged (telling-sound g.telling h n k en ek) z).named))
