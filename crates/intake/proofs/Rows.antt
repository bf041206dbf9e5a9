-- Asking where the tally stands at a tuple of an accepted file: a listed ping's rows are declared, and what they say is what
-- the course says. Assumes nothing.
use mathlib.Core.Path.{◌≡◌, refl, sym, ap, ◌∙◌}
use mathlib.Core.Bool.{Bool, true, false, cond, true≢false}
use mathlib.Core.Logic.{inl, inr}
use mathlib.Core.List.{List, []}
use mathlib.Core.Option.{Option, some}
use Prim.Native.Nat.{ℕ, ◌%◌, ◌<◌, ◌≤◌}
use native.Mathlib.Omega.{arith}
use borrow.Author.Tests.{not-false}
use lib.ListN.{length, drop, get_or}
use Rattle.layout.specs.Families.{Family}
use Rattle.layout.proofs.Families.{OfFamily, ping-shape}
use Rattle.layout.specs.declared.Counts.{Counts}
use Rattle.layout.specs.declared.SoftwareChannel.{SoftwareChannel}
use Rattle.layout.specs.Types.{Shape, indexed, row, uncompressed, compressed, unlisted, shape_of, has_samples, is_ping}
use Rattle.layout.specs.Types.{Length, lengths_of, length_from, fitting}
use Rattle.layout.proofs.Tables.{lengths-from}
use Rattle.layout.proofs.Verdicts.{passes}
use Rattle.frame.specs.Frames.{kind_at, len_at, tup_at}
use Rattle.frame.proofs.Places.{Whole, framing-whole}
use Rattle.links.specs.declared.Channel.{Channel}
use Rattle.links.specs.Links.{Link, Links, place_of, id_of, doc_of, Steady}
use Rattle.links.specs.inner.Tables.{sounder_of, channel_of, tuple_of, sounders_in, channels_in, tuples_in}
use Rattle.links.proofs.Parents.{Parents, parents_of, named-declared}
use Rattle.links.proofs.Rows.{rows-length, rows_at, one_place, one_below}
use Rattle.content.specs.Pings.{Ping, content_u, content_c}
use Rattle.content.specs.Items.{Item, ping, item_by, item_of, number_at, head_rules, digest_of, digest_item, digest}
use Rattle.content.proofs.Fine.{upward-least}
use Rattle.content.proofs.Families.{plain-least, some_sample_bytes}
use Rattle.content.proofs.Places.{fits-place, header}
use Rattle.intake.specs.declared.Tally.{Tally}
use Rattle.intake.specs.Asked.{Asked}
use Rattle.intake.specs.Asking.{no_channel, channel_nth, channel_for, sounder_nth, parents_in, ask_item}
use Rattle.intake.specs.inner.Tallies.{Tables, Sized, course_of, Standing, ping_at, named_at, ask_where, AskIn}
use Rattle.intake.proofs.Asks.{Fair}

module _ (o : Bool) (f : List ℕ) (w : Tally) (c : Tables) (s : Standing w) (l : Sized c) (g : Fair o f (course_of w c))
    (h : Steady (course_of w c).links) where
  at : ℕ
  at = w.at

  k : ℕ
  k = kind_at o (drop w.at f)

  n : ℕ
  n = len_at o (drop w.at f)

  whole : Whole o f w.at n
  unfolding n
  whole = framing-whole o f w.at g.framed

  fits : fitting (lengths_of k) n ≡ true
  unfolding n k
  fits = sym (fits-place o f w.at n whole) ∙ not-false _ (passes (head_rules o (tup_at o (drop w.at f))) g.judged.head).0

  -- ---- a listed ping: the channel that its header names
  pub record Pinged : Type 0 where
    pub it : Ping
    pub item : item_of o (tup_at o (drop w.at f)) ≡ some (ping it)
    pub named : number_at it.head 2 ≡ (named_at o f w.at).0

  fits_by : {q : Shape} → shape_of k ≡ q → fitting (length_from q) n ≡ true
  fits_by e = ap (λ (l : Length). fitting l n) (sym (lengths-from k ∙ ap length_from e)) ∙ fits

  pinged_u : (p : Family) → shape_of k ≡ uncompressed p → Pinged
  unfolding item_of content_u k
  pinged_u p e =
      record {
        it = content_u p o (tup_at o (drop w.at f)).body;
        item = ap (λ (q : Shape). item_by q o (tup_at o (drop w.at f))) e;
        named = header o f w.at n whole (omega (arith, plain-least p n (fits_by e), some_sample_bytes p));
      }

  pinged_c : (p : Family) → shape_of k ≡ compressed p → Pinged
  unfolding item_of content_c k
  pinged_c p e =
      record {
        it = content_c p o (tup_at o (drop w.at f)).body;
        item = ap (λ (q : Shape). item_by q o (tup_at o (drop w.at f))) e;
        named = header o f w.at n whole (omega (arith, upward-least 40 n _ (fits_by e)));
      }

  pinged : ping_at o f w.at ≡ true → Pinged
  unfolding k
  pinged e = by_shape (ping-shape k e)
    where
      by_shape : OfFamily (shape_of k) → Pinged
      by_shape (p, inl z) = pinged_u p z
      by_shape (p, inr z) = pinged_c p z

  -- ---- its rows
  x : SoftwareChannel
  x = named_at o f w.at

  links : Links
  links = (course_of w c).links

  parents : Pinged → Parents links x
  unfolding links x digest_of
  parents p =
      let e : (digest o (tup_at o (drop w.at f))).link ≡ Link.names (named_at o f w.at) =
      ap (λ (i : Option Item). (digest_item i).link) p.item ∙ ap (λ (i : ℕ). Link.names (record { 0 = i })) p.named in
      parents_of links (named_at o f w.at) h
      (named-declared links (digest o (tup_at o (drop w.at f))).link (named_at o f w.at) g.judged.linking e)

  sounder-room : w.sounders ≤ length c.sounders
  sounder-room = omega (arith, s.sounders, l.sounders)

  channel-room : w.channels ≤ length c.channels
  channel-room = omega (arith, s.channels, l.channels)

  below_c : Pinged → channel_nth (course_of w c) x < w.channels
  unfolding links
  below_c p = omega (arith, one_below (parents p).channel, rows-length channel_of c.channels w.channels channel-room)

  below_s : Pinged → sounder_nth (course_of w c) (channel_for (course_of w c) x).parent < w.sounders
  unfolding links
  below_s p =
      let e =
      ap (λ (y : Channel). place_of doc_of y.parent.0 (course_of w c).links.sounders) (one_place (parents p).channel no_channel) in
      omega (arith, e, one_below (parents p).sounder, rows-length sounder_of c.sounders w.sounders sounder-room)

  pub ask_in : AskIn o f w c
  unfolding n
  ask_in =
      record {
        left = omega (arith, whole.long, whole.fits);
        sounder_room = sounder-room;
        channel_room = channel-room;
        declared = λ e. let p = pinged e in unfold x in (below_c p, below_s p);
      }

  -- ---- a listed ping's parents, by the course
  by-ping : (m : Counts) (p : Pinged)
      → ask_item (course_of w c) w.at m (item_of o (tup_at o (drop w.at f))) ≡ parents_in (course_of w c) (named_at o f w.at) m
  by-ping m p = ap (ask_item (course_of w c) w.at m) p.item ∙ ap (λ (y : ℕ). parents_in (course_of w c) (record { 0 = y }) m) p.named

  -- any other tuple gives 9
  by-other : (m : Counts) → ping_at o f w.at ≡ false
      → ask_item (course_of w c) w.at m (item_of o (tup_at o (drop w.at f))) ≡ Asked.Refused 9 w.at
  unfolding item_of is_ping k
  by-other m e = by_shape (shape_of k) e
    where
      by_shape : (q : Shape) → has_samples q ≡ false
          → ask_item (course_of w c) w.at m (item_by q o (tup_at o (drop w.at f))) ≡ Asked.Refused 9 w.at
      by_shape indexed z = refl
      by_shape (row fs y) z = refl
      by_shape (uncompressed p) z = absurd (true≢false z)
      by_shape (compressed p) z = absurd (true≢false z)
      by_shape unlisted z = refl

  pub ask-course : (m : Counts) → ask_where o f m (course_of w c) ≡ ask_item (course_of w c) w.at m (item_of o (tup_at o (drop w.at f)))
  unfolding ask_where
  ask-course m = by_bool (ping_at o f w.at) refl
    where
      here : Asked
      here = parents_in (course_of w c) (named_at o f w.at) m

      by_bool : (b : Bool) → ping_at o f w.at ≡ b
          → cond (ping_at o f w.at) here (Asked.Refused 9 w.at)
          ≡ ask_item (course_of w c) w.at m (item_of o (tup_at o (drop w.at f)))
      by_bool true e = ap (λ (z : Bool). cond z here (Asked.Refused 9 w.at)) e ∙ sym (by-ping m (pinged e))
      by_bool false e = ap (λ (z : Bool). cond z here (Asked.Refused 9 w.at)) e ∙ sym (by-other m e)

-- ---- what the code answers, by what it tested and looked up
module _ (o : Bool) (f : List ℕ) (w : Tally) (m : Counts) (c : Tables) where
  pub ask-other : ping_at o f w.at ≡ false → Asked.Refused 9 w.at ≡ ask_where o f m (course_of w c)
  unfolding ask_where
  ask-other e = rw e

  -- the rows that the lookups found
  module _ (r : AskIn o f w c) (e : ping_at o f w.at ≡ true) (a : SoftwareChannel) (b : ℕ) (n : a ≡ named_at o f w.at)
      (q : b ≡ place_of id_of a.0 (channels_in w.channels c.channels)) where
    row_named : b ≡ channel_nth (course_of w c) (named_at o f w.at)
    row_named = q ∙ ap (λ (y : SoftwareChannel). place_of id_of y.0 (channels_in w.channels c.channels)) n

    pub channel-below : b < length c.channels
    channel-below = omega (arith, row_named, (r.declared e).0, r.channel_room)

    row-says : channel_of (get_or c.channels b []) ≡ channel_for (course_of w c) (named_at o f w.at)
    row-says =
        sym (rows_at channel_of c.channels w.channels b [] (omega (arith, row_named, (r.declared e).0)))
        ∙ ap (λ (y : ℕ). get_or (channels_in w.channels c.channels) y (channel_of [])) row_named

    module _ (d : ℕ) (p : d ≡ place_of doc_of (get_or (get_or c.channels b []) 1 0) (sounders_in w.sounders c.sounders)) where
      under : d ≡ sounder_nth (course_of w c) (channel_for (course_of w c) (named_at o f w.at)).parent
      under = p ∙ ap (λ (y : Channel). place_of doc_of y.parent.0 (sounders_in w.sounders c.sounders)) row-says

      pub sounder-below : d < length c.sounders
      sounder-below = omega (arith, under, (r.declared e).1, r.sounder_room)

      pub ask-ping : (x k y : ℕ) → x ≡ tuple_of (get_or c.channels b []) → k ≡ get_or (get_or c.channels b []) 4 0 % 65536
          → y ≡ tuple_of (get_or c.sounders d [])
          → Asked.Parents a x (get_or (get_or c.channels b []) 3 0) k (record { 0 = get_or (get_or c.channels b []) 1 0 }) y m
          ≡ ask_where o f m (course_of w c)
      unfolding ask_where
      ask-ping x k y s j t =
          let u = s
          ∙ sym (rows_at tuple_of c.channels w.channels b [] (omega (arith, row_named, (r.declared e).0)))
          ∙ ap (λ (z : ℕ). get_or (tuples_in w.channels c.channels) z 0) row_named in
          let h = j ∙ ap (λ (y : Channel). y.samples) row-says in
          let v = t
          ∙ sym (rows_at tuple_of c.sounders w.sounders d [] (omega (arith, under, (r.declared e).1)))
          ∙ ap (λ (z : ℕ). get_or (tuples_in w.sounders c.sounders) z 0) under in
          rw e (λ i. Asked.Parents (n i) (u i) (row-says i).rate (h i) (row-says i).parent (v i) m)
