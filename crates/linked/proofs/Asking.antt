-- Asking for a linked ping and asking for a ping's channel and sounder say the same: `as_asking`. Assumes nothing.
use mathlib.Core.Path.{◌≡◌, refl, sym, ap, subst, ◌∙◌}
use mathlib.Core.Bool.{Bool, true, false}
use mathlib.Core.List.{List, ◌++◌}
use mathlib.Core.Option.{Option, some, none}
use Prim.Native.Nat.{ℕ, zero, suc, ◌+◌, ◌<◌}
use native.Mathlib.Omega.{arith}
use borrow.Author.Tests.{eqb-true, eqb-false, ne_eqb, ltb-false}
use lib.Dec.{eqb}
use lib.ListN.{length, drop, length-drop}
use Rattle.rules.proofs.Laws.{clear}
use Rattle.layout.specs.declared.Counts.{Counts}
use Rattle.layout.specs.Answer.{Answer}
use Rattle.layout.specs.Answer.{Accepted, Refused}
use Rattle.layout.specs.declared.SoftwareChannel.{SoftwareChannel}
use Rattle.layout.specs.Verdict.{Fine}
use Rattle.layout.specs.Answers.{is_accepted}
use Rattle.layout.proofs.Verdicts.{both-fine}
use Rattle.frame.specs.Frames.{Tup, length_of, len_at, tup_at}
use Rattle.frame.specs.Files.{is_msb}
use Rattle.frame.proofs.Places.{Whole, framing-whole}
use Rattle.links.specs.Links.{Links, id_of, note}
use Rattle.links.proofs.Parents.{one, named-declared}
use Rattle.links.proofs.Rows.{one_place}
use Rattle.content.specs.Items.{Item, plain, ping, raw, item_of, number_at, digest_of, digest_item, digest}
use Rattle.content.specs.Pings.{Ping}
use Rattle.intake.specs.Check.{Course, begin, end_rules, counts_of, ending, past, onward, after, turn, check_from, check_file}
use Rattle.intake.specs.Asking.{no_channel, course_to, ask_item, ask_course, ask_accepted, ask_checked, ask_at}
use Rattle.intake.proofs.Accepted.{refusal}
use Rattle.intake.proofs.Asks.{Fair, fair}
use Rattle.intake.proofs.Loops.{Passing, passing-begin, passing-again, passing-stop, passing-done, passing-linked}
use Rattle.intake.proofs.Seeks.{taken}
use Rattle.intake.proofs.Turns.{emptied, turn-parts, parts-judged, settle, from_suc, to_here, to_end, to_next}
use Rattle.linked.specs.Linked.{Linked, channel_for, linked_here, linked_from, linked_of, standing, sought_by, sought_in, sought_at}
use Rattle.linked.specs.Asking.{Alike, AsAsking}
use Rattle.linked.proofs.Places.{stands_here, stands-later, stands-behind}

-- no other tuple's is the one at a place
skipped : (s : Links) (at p : ℕ) (i : Option Item) (ls : List Linked) → (at ≡ p → ⊥) → standing p (linked_here s at i ++ ls) ≡ standing p ls
skipped s at p none ls h = refl
skipped s at p (some (plain k vs)) ls h = refl
skipped s at p (some (ping q)) ls h = stands-later _ ls p h
skipped s at p (some (raw k d)) ls h = refl

module _ (f : List ℕ) (p : ℕ) (n : Counts) where
  abbrev o : Bool
  o = is_msb f

  abbrev whole : Option Linked
  whole = standing p (linked_of f)

  abbrev Left : Course → Type 0
  Left w = Passing (λ (q : ℕ) (ts : List Tup). standing p (linked_from o w.links q ts)) whole o f w.at w.links

  -- where a course of the accepted rest stands
  module _ (w : Course) (k : ℕ) (m : Counts) (e : check_from (suc k) o f w ≡ Accepted m) (g : Left w) where
    abbrev t : Tup
    t = tup_at o (drop w.at f)

    abbrev size : ℕ
    size = len_at o (drop w.at f)

    x : Fair o f w
    x = fair o f w k m e

    w_whole : Whole o f w.at size
    w_whole = framing-whole o f w.at x.framed

    low : w.at < length f
    low = omega (arith, w_whole.long, w_whole.fits)

    -- the turn goes past the tuple
    turned : turn o f w ≡ onward (length f) (past o w t size) (digest o t).ends
    turned =
        let left : emptied (drop w.at f) ≡ Fine =
        rw (ne_eqb (length (drop w.at f)) 0 (λ z. omega (arith, length-drop w.at f, low))) in
        turn-parts o f w
        ∙ ap (after o (length f) w t size) (both-fine (both-fine left x.framed) (parts-judged o w t x.judged))

    -- ---- the place asked for
    module _ (here : w.at ≡ p) where
      abbrev behind : List Tup → List Linked
      behind ts = linked_from o (note w.links (digest o t)) (w.at + length_of t) ts

      none-behind : (ts : List Tup) → standing p (behind ts) ≡ none
      none-behind ts = stands-behind o (note w.links (digest o t)) (w.at + length_of t) p ts (omega (arith, here))

      -- by the content of the tuple there
      settled : (i : Option Item) → item_of o t ≡ i → (a : Option Linked)
          → ((ts : List Tup) → standing p (linked_here w.links w.at i ++ behind ts) ≡ a)
          → Alike p (sought_by p n a) (ask_item w p n i)
          → Alike p (sought_by p n whole) (ask_item w p n i)
      unfolding linked_from
      settled i e a h r =
          subst (λ (y : Option Linked). Alike p (sought_by p n y) (ask_item w p n i))
          (passing-stop g low a
          (λ ts. ap (λ (y : Option Item). standing p (linked_here w.links w.at y ++ behind ts)) e ∙ h ts))
          r

      -- the channel that a ping names is the one found for it
      found : (q : Ping) → item_of o t ≡ some (ping q) → id_of (channel_for w.links q) ≡ number_at q.head 2
      unfolding digest_of
      found q i =
          let c : SoftwareChannel = record { 0 = number_at q.head 2 } in
          let link = ap (λ (y : Option Item). (digest_item y).link) i in
          let it =
          one id_of c.0 w.links.channels g.steady.ids
          (named-declared w.links (digest o t).link c (passing-linked g low) link) in
          ap id_of (one_place it no_channel) ∙ it.keyed

      by-item : (i : Option Item) → item_of o t ≡ i → Alike p (sought_by p n whole) (ask_item w p n i)
      by-item none e = settled none e none none-behind (refl, refl)
      by-item (some (plain c vs)) e = settled (some (plain c vs)) e none none-behind (refl, refl)
      by-item (some (ping q)) e =
          let l : Linked = record { place = w.at; ping = q; channel = channel_for w.links q } in
          settled (some (ping q)) e (some l) (λ ts. stands_here l (behind ts) p here) (
            record {
              place = here;
              named = refl;
              channel = λ j. record { 0 = found q e j };
              rate = refl;
              samples = refl;
              sounder = refl;
            },
            refl,
          )
      by-item (some (raw c d)) e = settled (some (raw c d)) e none none-behind (refl, refl)

      asked_here : Alike p (sought_by p n whole) (ask_course f p n (course_to (suc k) o f p w))
      asked_here =
          rw (to_here k o f p w here)
          (by-item (item_of o (tup_at o (drop p f))) (ap (λ (q : ℕ). item_of o (tup_at o (drop q f))) here))

    -- ---- another place: the tuple is passed
    module _ (other : w.at ≡ p → ⊥) where
      next : Left (past o w t size)
      unfolding linked_from
      next = passing-again g low size refl _ (λ ts. skipped w.links w.at p (item_of o t) _ other)

      -- an acceptance leaves no byte behind the tuple
      ended : ending (length f) (past o w t size) ≡ Accepted m → whole ≡ none
      unfolding ending linked_from standing
      ended z =
          let v = past o w t size in
          let c = clear is_accepted (end_rules (length f) v) (Accepted (counts_of v)) (Accepted m) (refl, (refl, (refl, tt))) z refl in
          sym (passing-done next (ltb-false v.at (length f) c.0.0))

      asked-on : ((v : Course) → Left v → check_from k o f v ≡ Accepted m
          → Alike p (sought_by p n whole) (ask_course f p n (course_to k o f p v)))
          → Alike p (sought_by p n whole) (ask_course f p n (course_to (suc k) o f p w))
      asked-on ih = by (digest o t).ends turned (sym (from_suc k o f w) ∙ e)
        where
          by : (b : Bool) → turn o f w ≡ onward (length f) (past o w t size) b → settle k o f (turn o f w) ≡ Accepted m
              → Alike p (sought_by p n whole) (ask_course f p n (course_to (suc k) o f p w))
          by true u z =
              rw (to_end k o f p w other _ u, ended (sym (ap (settle k o f) u) ∙ z)) (refl, refl)
          by false u z =
              rw (to_next k o f p w other _ u) (ih _ next (sym (ap (settle k o f) u) ∙ z))

  -- ---- from a course on
  from : (k : ℕ) (w : Course) (m : Counts) → Left w → check_from k o f w ≡ Accepted m
      → Alike p (sought_by p n whole) (ask_course f p n (course_to k o f p w))
  unfolding check_from
  from zero w m g e = refusal 4 w.at m e
  from (suc k) w m g e = by (eqb w.at p) refl (λ v l z. from k v m l z)
    where
      by : (b : Bool) → eqb w.at p ≡ b
          → ((v : Course) → Left v → check_from k o f v ≡ Accepted m → Alike p (sought_by p n whole) (ask_course f p n (course_to k o f p v)))
          → Alike p (sought_by p n whole) (ask_course f p n (course_to (suc k) o f p w))
      by true h ih = asked_here w k m e g (eqb-true _ _ h)
      by false h ih = asked-on w k m e g (eqb-false _ _ h) ih

pub as_asking : AsAsking
unfolding sought_at ask_at ask_accepted linked_of
as_asking = record { alike = λ f p. by f p (check_file f) refl }
  where
    by : (f : List ℕ) (p : ℕ) (a : Answer) → check_file f ≡ a → Alike p (sought_in f p a) (ask_checked f p a)
    by f p (Refused c q) e = (refl, refl)
    by f p (Accepted n) e =
        from f p n (length f) begin n (passing-begin _ f (is_msb f) (record { counts = n; answer = e }) refl) (taken f n e).rest
