-- The loops of this crate: the count of the linked pings, and the search for the one that stands at a place. Assumes nothing.
use mathlib.Core.Path.{◌≡◌, refl, sym, ◌∙◌}
use mathlib.Core.Bool.{Bool, true, false, true≢false}
use mathlib.Core.List.{List, []}
use mathlib.Core.Option.{some, none}
use Prim.Native.Nat.{ℕ, ◌+◌, ◌≤◌, ◌<◌}
use native.Mathlib.Omega.{arith}
use lib.ListN.{length, drop, get_or}
use Rattle.layout.specs.Types.{is_ping}
use Rattle.frame.specs.Frames.{len_at, kind_at}
use Rattle.frame.specs.Files.{is_msb}
use Rattle.links.specs.Links.{id_of, place_of}
use Rattle.links.specs.inner.Tables.{channel_of, channels_in}
use Rattle.intake.specs.inner.Tallies.{named_at}
use Rattle.intake.specs.inner.Sound.{Accepts}
use Rattle.quantities.specs.declared.Quantity.{Quantity}
use Rattle.quantities.specs.Quantities.{quantity_of}
use Rattle.linked.specs.Linked.{Linked, linked_of, standing}
use Rattle.linked.specs.inner.Here.{FoundPing, new_here, Past}
use Rattle.linked.proofs.Places.{stands_here, stands-later}
use Rattle.linked.proofs.Along.{Telling, telling-begin, telling-done, telling-whole, telling-ping, telling-other, telling-stop}
use Rattle.linked.proofs.Along.{linked-at, linked-place, linked-part, linked-says, Along, along-other, along-ping, along-quantity}

-- ---- the count: the pings counted and those to come are all
pub record Counting (f : List ℕ) (o : Bool) (at n : ℕ) : Type 0 where
  pub telling : Telling (λ (ls : List Linked). n + length ls) (0 + length (linked_of f)) f o at
  pub few : n ≤ at

pub counting-begin : (f : List ℕ) (o : Bool) → Accepts f → o ≡ is_msb f → Counting f o 4 0
counting-begin f o a e = record { telling = telling-begin (λ ls. 0 + length ls) f o a e; few = omega arith }

module _ {f : List ℕ} {o : Bool} {at n : ℕ} (g : Counting f o at n) where
  pub counting-done : length f ≤ at → n ≡ length (linked_of f)
  counting-done h = omega (arith, telling-done g.telling h)

  module _ (h : at < length f) (m k : ℕ) (em : m ≡ len_at o (drop at f)) (ek : k ≡ kind_at o (drop at f)) where
    pub counting-ping : is_ping k ≡ true → Counting f o (at + m) (n + 1)
    counting-ping z =
        record {
          telling = telling-ping g.telling h m k em ek z (λ ls. n + 1 + length ls) (λ ls. omega arith);
          few = omega (arith, g.few, em, (telling-whole g.telling h).long);
        }

    pub counting-other : is_ping k ≡ false → Counting f o (at + m) n
    counting-other z = record { telling = telling-other g.telling h m k em ek z; few = omega (arith, g.few) }

-- ---- the search: the one among those to come is the one among all
pub record Seeking (f : List ℕ) (o : Bool) (p at used : ℕ) (rows : List (List ℕ)) : Type 0 where
  pub along : Along (standing p) (standing p (linked_of f)) f o at used rows

module _ {f : List ℕ} {o : Bool} {p at used : ℕ} {rows : List (List ℕ)} (g : Seeking f o p at used rows) where
  pub seeking_none : length f ≤ at → standing p (linked_of f) ≡ none
  unfolding standing
  seeking_none h = sym (telling-done g.along.telling h)

  module _ (h : at < length f) (n k : ℕ) (en : n ≡ len_at o (drop at f)) (ek : k ≡ kind_at o (drop at f)) where
    -- a listed ping at the place is it
    pub seeking_here : (z : is_ping k ≡ true) → at ≡ p → (x : Quantity)
        → x ≡ quantity_of (get_or (channels_in used rows) (place_of id_of (named_at o f at).0 (channels_in used rows)) (channel_of []))
        → FoundPing f p (record { at = at; msb = o; whole = n; code = k; quantity = x })
    seeking_here z e x q =
        let it = linked-at g.along.telling h n k en ek z in
        let place = linked-place g.along.telling h n k en ek z in
        record {
          linked = it;
          stands = sym (telling-stop g.along.telling h n k en ek z (some it) (λ ls. stands_here it ls p (place ∙ e)));
          place = place;
          quantity = along-quantity g.along h n k en ek z x q;
          here = linked-part g.along.telling h n k en ek z;
          says = linked-says g.along.telling h n k en ek z;
        }

    -- any other tuple isn't
    pub seeking_again : (at ≡ p → is_ping k ≡ false) → (m : ℕ) (next : List (List ℕ)) → Past used rows (new_here o f at) m next
        → Seeking f o p (at + n) m next
    seeking_again c m next q = by (is_ping k) refl
      where
        by : (b : Bool) → is_ping k ≡ b → Seeking f o p (at + n) m next
        by true z =
            let place = linked-place g.along.telling h n k en ek z in
            record {
              along =
                  along-ping g.along h n k en ek m next q z (standing p)
                  (λ ls. stands-later (linked-at g.along.telling h n k en ek z) ls p (λ e. true≢false (sym z ∙ c (sym place ∙ e))));
            }
        by false z = record { along = along-other g.along h n k en ek m next q z }
