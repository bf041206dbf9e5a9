-- Each listed ping of an accepted file names exactly one channel declared earlier, that channel exactly one sounder declared
-- earlier, and asking at the ping's place gives just these two, with the places of their tuples: `answered`. Assumes nothing.
use mathlib.Core.Path.{◌≡◌, refl, sym, ap, subst, ◌∙◌}
use mathlib.Core.Logic.{◌⊎◌, inl, inr}
use mathlib.Core.Bool.{Bool, true}
use mathlib.Core.List.{List, [], ◌∷◌, ◌++◌, append_assoc, append-nil}
use mathlib.Core.Option.{Option, some}
use Prim.Native.Nat.{ℕ, zero, suc, ◌+◌, ◌<◌}
use native.Mathlib.Omega.{arith}
use borrow.Author.Tests.{eq-eqb, ne_eqb}
use lib.Dec.{eqb}
use lib.ListN.{length, drop, get_or, length-append}
use lib.Seq.{drop_at, drop-drop}
use Rattle.order.specs.Order.{Bytes}
use Rattle.layout.specs.declared.Counts.{Counts}
use Rattle.layout.specs.Answer.{Accepted}
use Rattle.layout.specs.declared.SoftwareChannel.{SoftwareChannel}
use Rattle.layout.specs.declared.DocumentId.{DocumentId}
use Rattle.layout.specs.Families.{Family}
use Rattle.layout.specs.Types.{Shape, uncompressed, compressed, shape_of, listings, among, listing_of, is_ping}
use Rattle.frame.specs.Frames.{Tup, length_of, frame, frames, tup_at}
use Rattle.frame.specs.Files.{mark, is_msb}
use Rattle.frame.specs.Tuples.{tuples_of}
use Rattle.frame.proofs.Frames.{length-frame, tup_frame}
use Rattle.frame.proofs.Files.{length-mark}
use Rattle.frame.proofs.Tuples.{frames_append, length-frames}
use Rattle.links.specs.declared.Sounder.{Sounder}
use Rattle.links.specs.declared.Channel.{Channel}
use Rattle.links.specs.Links.{Link, Digest, Links, start, place_of, doc_of, id_of, new_sounders, new_channels, note}
use Rattle.links.proofs.Linked.{Linked, linked-here}
use Rattle.links.proofs.Parents.{Parents, upto, parents, steady-start}
use Rattle.content.specs.Pings.{Ping, content_u, content_c}
use Rattle.content.specs.Items.{Item, ping, item_by, item_of, digest_of, digest_item, digest}
use Rattle.content.proofs.Fine.{Sound}
use Rattle.intake.specs.Asked.{Asked}
use Rattle.intake.specs.Check.{Course, begin, go, past, onward, after, turn, check_file, sounder_place, channel_place}
use Rattle.intake.specs.Asking.{no_channel, course_to, parents_in, ask_item, ask_course, ask_accepted, ask_checked, ask_at}
use Rattle.intake.proofs.Turns.{parts-judged}
use Rattle.layout.proofs.Families.{ping-shape}
use Rattle.demands.specs.Lineages.{Among, Lineage, channel_in, Listed, place_after, gives, Answered}
use Rattle.demands.proofs.Declared.{earlier, declared_by, spots, declared-at, spot-at}
use Rattle.intake.proofs.Accepted.{AllSound, digests, whole-turn, Divided, divided}
use Rattle.demands.proofs.Lineages.{linked_on, some_left, upto-sounders, upto-channels, channel_new, sounder_new, lineage_of}
use Rattle.demands.proofs.Lineages.{even-channels, even-sounders}

-- ---- a listed ping
-- it has a ping's content
pub listed-ping : (o : Bool) (t : Tup) → Listed t → (q : Ping) × (item_of o t ≡ some (ping q))
unfolding item_of
listed-ping o t h = let s = ping-shape t.kind h in by s.0 s.1
  where
    by : (f : Family) → (shape_of t.kind ≡ uncompressed f) ⊎ (shape_of t.kind ≡ compressed f)
        → (q : Ping) × (item_of o t ≡ some (ping q))
    by f (inl e) = (content_u f o t.body, ap (λ (s : Shape). item_by s o t) e)
    by f (inr e) = (content_c f o t.body, ap (λ (s : Shape). item_by s o t) e)

-- the seven types of the tables
abbrev All : (ℕ → Type 0) → List ℕ → Type 0
All P [] = Unit {0}
All P (k ∷ ks) = P k × All P ks

pub listed-types : (d : List ℕ)
    → All (λ (k : ℕ). Listed (record { kind = k; body = d })) (10000 ∷ 10001 ∷ 10010 ∷ 10030 ∷ 10031 ∷ 10040 ∷ 10050 ∷ [])
unfolding is_ping listing_of among listings
listed-types d = (refl, (refl, (refl, (refl, (refl, (refl, (refl, tt)))))))

-- its link names that channel
names-channel : (o : Bool) (t : Tup) (q : Ping) → item_of o t ≡ some (ping q) → (digest o t).link ≡ Link.names (channel_in q)
unfolding digest_of
names-channel o t q e = ap (λ (i : Option Item). (digest_item i).link) e

-- ---- the course behind tuples
abbrev course_after : Bool → Course → List Tup → Course
course_after o w [] = w
course_after o w (t ∷ ts) = course_after o (past o w t (length_of t)) ts

-- asking finds it
module _ (o : Bool) (f : List ℕ) (t : Tup) (ys : List Tup) where
  -- a turn from one tuple on
  module _ (x : Tup) (xs : List Tup) (w : Course) (e : drop w.at f ≡ frame o x ++ frames o (xs ++ (t ∷ ys))) (a : Sound o x)
      (l : Linked (eqb w.count 0) w.links (digest o x ∷ digests o (xs ++ (t ∷ ys)))) where
    on : turn o f w ≡ go (past o w x (length_of x))
    on =
        let j = linked-here l in
        let v = parts-judged o w x (record { signing = j.0; head = a.head; linking = j.1; inner = a.inner }) in
        whole-turn o f x (frames o (xs ++ (t ∷ ys))) w e a.framed
        ∙ ap (after o (length f) w x (length_of x)) v
        ∙ ap (onward (length f) (past o w x (length_of x))) (linked_on l (some_left o xs t ys)).0

    left : drop (w.at + length_of x) f ≡ frames o (xs ++ (t ∷ ys))
    left =
        sym (drop-drop (length_of x) w.at f)
        ∙ ap (drop (length_of x)) e
        ∙ drop_at (frame o x) (frames o (xs ++ (t ∷ ys))) (length_of x) (length-frame o x)

    rest : Linked (eqb (w.count + 1) 0) (note w.links (digest o x)) (digests o (xs ++ (t ∷ ys)))
    rest =
        subst (λ (b : Bool). Linked b (note w.links (digest o x)) (digests o (xs ++ (t ∷ ys))))
        (sym (ne_eqb (w.count + 1) 0 (omega arith))) (linked_on l (some_left o xs t ys)).1

  found : (k : ℕ) (xs : List Tup) (w : Course) → drop w.at f ≡ frames o (xs ++ (t ∷ ys)) → AllSound o (xs ++ (t ∷ ys))
      → Linked (eqb w.count 0) w.links (digests o (xs ++ (t ∷ ys)))
      → length xs < k → course_to k o f (w.at + length (frames o xs)) w ≡ some (course_after o w xs)
  unfolding course_to
  found zero xs w e a l h = absurd (omega arith)
  found (suc k) [] w e a l h = rw (eq-eqb w.at (w.at + 0) (omega arith), course_to)
  found (suc k) (x ∷ xs) w e a l h =
      let size : length (frame o x ++ frames o xs) ≡ length_of x + length (frames o xs) = length-append (frame o x) (frames o xs)
      ∙ ap (λ (n : ℕ). n + length (frames o xs)) (length-frame o x) in
      let there : w.at + length (frame o x ++ frames o xs) ≡ w.at + length_of x + length (frames o xs) = omega arith in
      rw (ne_eqb w.at (w.at + length (frame o x ++ frames o xs)) (omega arith), course_to)
      (rw (on x xs w e a.0 l, course_to)
      (ap (λ (p : ℕ). course_to k o f p (past o w x (length_of x))) there
      ∙ found k xs (past o w x (length_of x)) (left x xs w e a.0 l) a.1 (rest x xs w e a.0 l) (omega arith)))

-- ---- what a course behind tuples holds: what they declare, and their places
module _ (o : Bool) where
  after-links : (w : Course) (xs : List Tup) → (course_after o w xs).links ≡ upto w.links (digests o xs)
  after-links w [] = refl
  after-links w (x ∷ xs) = after-links (past o w x (length_of x)) xs

  after-sounders : (w : Course) (xs : List Tup) → (course_after o w xs).sounders ≡ w.sounders ++ spots sounder_place o w.at xs
  after-sounders w [] = sym (append-nil w.sounders)
  after-sounders w (x ∷ xs) =
      after-sounders (past o w x (length_of x)) xs
      ∙ append_assoc w.sounders (sounder_place (digest o x).link w.at) (spots sounder_place o (w.at + length_of x) xs)

  after-channels : (w : Course) (xs : List Tup) → (course_after o w xs).channels ≡ w.channels ++ spots channel_place o w.at xs
  after-channels w [] = sym (append-nil w.channels)
  after-channels w (x ∷ xs) =
      after-channels (past o w x (length_of x)) xs
      ∙ append_assoc w.channels (channel_place (digest o x).link w.at) (spots channel_place o (w.at + length_of x) xs)

-- ---- what the course behind tuples gives
-- the parents of a channel, looked up by a number in the lists of declarations and of their places
abbrev given : ℕ → List Channel → List ℕ → List Sounder → List ℕ → SoftwareChannel → Counts → Asked
given x cs ps ss qs c n =
    let i = place_of id_of x cs in
    let it = get_or cs i no_channel in
    Asked.Parents c (get_or ps i 0) it.rate it.samples it.parent (get_or qs (place_of doc_of it.parent.0 ss) 0) n

module _ (o : Bool) (all : List Tup) (linked : Linked true start (digests o all)) (a : Among all) (c : SoftwareChannel)
    (g : Lineage o a.before c) (n : Counts) where
  -- the two tuples, among those before the ping, and what they declare
  of_channel : Among a.before
  of_channel = g.channel.one

  of_sounder : Among a.before
  of_sounder = earlier g.channel.one g.sounder.one

  ch : Channel
  ch = g.channel.is.it

  so : Sounder
  so = g.sounder.is.it

  lists : parents_in (course_after o begin a.before) c n
      ≡ given (id_of ch) (declared_by new_channels o a.before) (spots channel_place o 4 a.before) (declared_by new_sounders o a.before)
      (spots sounder_place o 4 a.before) c n
  unfolding ch
  lists =
      let xs = a.before in
      (λ i. given c.0 ((ap (λ (s : Links). s.channels) (after-links o begin xs) ∙ upto-channels o start xs) i)
      (after-channels o begin xs i)
      ((ap (λ (s : Links). s.sounders) (after-links o begin xs) ∙ upto-sounders o start xs) i) (after-sounders o begin xs i) c n)
      ∙ ap (λ (x : SoftwareChannel). given x.0 (declared_by new_channels o xs) (spots channel_place o 4 xs) (declared_by new_sounders o xs)
      (spots sounder_place o 4 xs) c n)
      (sym g.channel.is.named)

  given-parents : parents_in (course_after o begin a.before) c n ≡ gives g n
  unfolding of_channel of_sounder ch so
  given-parents =
      let cl = g.channel.is.declares in
      let sl = g.sounder.is.declares in
      let cf = channel_new o all linked ch.id (earlier a of_channel) (record { it = ch; declares = cl; named = refl }) in
      let sf = sounder_new o all linked so.doc (earlier a of_sounder) (record { it = so; declares = sl; named = refl }) in
      let cn : new_channels (digest o of_channel.it).link ≡ ch ∷ [] = ap new_channels cl in
      let cp : (i : ℕ) → channel_place (digest o of_channel.it).link i ≡ i ∷ [] = λ i. ap (λ (l : Link). channel_place l i) cl in
      let sn : new_sounders (digest o of_sounder.it).link ≡ so ∷ [] = ap new_sounders sl in
      let sp : (i : ℕ) → sounder_place (digest o of_sounder.it).link i ≡ i ∷ [] = λ i. ap (λ (l : Link). sounder_place l i) sl in
      let it = declared-at id_of new_channels channel_place even-channels o 4 of_channel ch cn cp cf no_channel in
      let spot = spot-at id_of new_channels channel_place even-channels o 4 of_channel ch cn cp cf in
      let under : DocumentId → ℕ =
      λ d. get_or (spots sounder_place o 4 a.before) (place_of doc_of d.0 (declared_by new_sounders o a.before)) 0 in
      lists
      ∙ (λ i. Asked.Parents c (spot i) (it i).rate (it i).samples (it i).parent (under (it i).parent) n)
      ∙ ap (λ (q : ℕ). Asked.Parents c (place_after o of_channel.before) ch.rate ch.samples ch.parent q n)
      (ap under (sym g.sounder.is.named) ∙ spot-at doc_of new_sounders sounder_place even-sounders o 4 of_sounder so sn sp sf)

-- ---- the listed pings of an accepted file
digests_append : (o : Bool) (xs ys : List Tup) → digests o (xs ++ ys) ≡ digests o xs ++ digests o ys
digests_append o [] ys = refl
digests_append o (x ∷ xs) ys = ap (λ (l : List Digest). digest o x ∷ l) (digests_append o xs ys)

-- each of sound tuples is sound
sound-at : (o : Bool) (xs : List Tup) (t : Tup) (ys : List Tup) → AllSound o (xs ++ (t ∷ ys)) → Sound o t
sound-at o [] t ys a = a.0
sound-at o (x ∷ xs) t ys a = sound-at o xs t ys a.1

module _ (f : List ℕ) (b : Bytes f) (n : Counts) (e : check_file f ≡ Accepted n) (a : Among (tuples_of f)) where
  d : Divided f n
  d = divided f b n e

  -- what stands behind the mark
  behind-mark : drop 4 f ≡ frames (is_msb f) (a.before ++ (a.it ∷ a.behind))
  behind-mark =
      let r = frames (is_msb f) (tuples_of f) in
      ap (drop 4) d.whole ∙ drop_at (mark (is_msb f)) r 4 (length-mark (is_msb f)) ∙ ap (frames (is_msb f)) a.split

  own : AllSound (is_msb f) (a.before ++ (a.it ∷ a.behind))
  own = subst (AllSound (is_msb f)) a.split d.sound

  together : Linked true start (digests (is_msb f) (a.before ++ (a.it ∷ a.behind)))
  together = subst (λ (l : List Tup). Linked true start (digests (is_msb f) l)) a.split d.linked

  -- the tuple stands at its place: so do the ping, its channel and its sounder
  pub stands-there : tup_at (is_msb f) (drop (place_after (is_msb f) a.before) f) ≡ a.it
  stands-there =
      let o = is_msb f in
      let r = frames o a.behind in
      let xs = frames o a.before in
      ap (tup_at o)
      (sym (drop-drop (length xs) 4 f)
      ∙ ap (drop (length xs)) (behind-mark ∙ frames_append o a.before (a.it ∷ a.behind))
      ∙ drop_at xs (frame o a.it ++ r) (length xs) refl)
      ∙ tup_frame o a.it (sound-at o a.before a.it a.behind own).framed r

  -- and the check comes to it by way of the tuples before it
  stands-course : course_to (length f) (is_msb f) f (place_after (is_msb f) a.before) begin ≡ some (course_after (is_msb f) begin a.before)
  stands-course =
      let o = is_msb f in
      let r = frames o (tuples_of f) in
      let count : length (tuples_of f) ≡ length a.before + suc (length a.behind) = ap length a.split
      ∙ length-append a.before (a.it ∷ a.behind) in
      let size : length f ≡ length (mark o) + length r = ap length d.whole ∙ length-append (mark o) r in
      found o f a.it a.behind (length f) a.before begin behind-mark own together
      (omega (arith, length-frames o (tuples_of f), length-mark o))

  module _ (q : Ping) (i : item_of (is_msb f) a.it ≡ some (ping q)) where
    -- exactly one of the channels declared before it, and exactly one of the sounders
    pub named : Parents (upto start (digests (is_msb f) a.before)) (channel_in q)
    named =
        let o = is_msb f in
        parents true start (digests o a.before) (digest o a.it) (digests o a.behind) (channel_in q) steady-start
        (subst (Linked true start) (digests_append o a.before (a.it ∷ a.behind)) together) (names-channel o a.it q i)

    -- exactly one of the tuples before it declares the channel, and exactly one before that the sounder
    pub lineage : Lineage (is_msb f) a.before (channel_in q)
    lineage = lineage_of (is_msb f) (tuples_of f) d.linked (channel_in q) a (names-channel (is_msb f) a.it q i)

    -- asking gives these two, and where they stand
    pub asked : (g : Lineage (is_msb f) a.before (channel_in q)) → ask_at f (place_after (is_msb f) a.before) ≡ gives g n
    unfolding ask_at ask_accepted
    asked g =
        let p = place_after (is_msb f) a.before in
        let w = course_after (is_msb f) begin a.before in
        ap (ask_checked f p) e
        ∙ ap (ask_course f p n) stands-course
        ∙ ap (λ (t : Tup). ask_item w p n (item_of (is_msb f) t)) stands-there
        ∙ ap (ask_item w p n) i
        ∙ given-parents (is_msb f) (tuples_of f) d.linked a (channel_in q) g n

  -- ---- each ping of a listed type
  pub answered : Listed a.it → Answered f a n
  answered l =
      let p = listed-ping (is_msb f) a.it l in
      let g = lineage p.0 p.1 in
      record {
        channel = channel_in p.0;
        names = names-channel (is_msb f) a.it p.0 p.1;
        lineage = g;
        answer = asked p.0 p.1 g;
      }
