-- Asking for a ping's channel and sounder gives the same with private tuples put in, each tuple at its new place. Assumes nothing.
use mathlib.Core.Path.{◌≡◌, refl, sym, ap, ap₂, subst, ◌∙◌}
use mathlib.Core.Bool.{Bool, true, false}
use mathlib.Core.List.{List, [], ◌∷◌, ◌++◌, map, map-append, append-nil}
use mathlib.Core.Option.{Option, some, none}
use Prim.Native.Nat.{ℕ, zero, suc, ◌+◌, ◌≤◌}
use native.Mathlib.Omega.{arith}
use borrow.Author.Tests.{eqb-true, eqb-false, ne_eqb}
use lib.Dec.{eqb}
use lib.ListN.{length, drop, get_or, length-append}
use lib.Seq.{drop_at, drop-drop}
use Rattle.layout.specs.declared.Counts.{Counts}
use Rattle.layout.specs.Answer.{Accepted}
use Rattle.layout.specs.declared.SoftwareChannel.{SoftwareChannel}
use Rattle.frame.specs.Frames.{Tup, length_of, frame, frames, tup_at}
use Rattle.frame.specs.Files.{mark, is_msb}
use Rattle.frame.specs.Tuples.{AllFramed}
use Rattle.frame.proofs.Frames.{length-frame, tup_frame}
use Rattle.frame.proofs.Tuples.{length-frames}
use Rattle.links.specs.Links.{Link, Digest, nothing, Links, place_of, doc_of, id_of, note}
use Rattle.links.specs.Links as links
use Rattle.links.proofs.Linked.{Linked, note-nothing, linked-here, linked-next, linked-some}
use Rattle.content.specs.Items.{Item, plain, ping, raw, item_of, number_at, digest}
use Rattle.intake.specs.Asked.{Asked}
use Rattle.intake.specs.Asked.{Parents, Refused}
use Rattle.intake.specs.Check.{Course, begin, past, onward, after, turn, sounder_place, channel_place, check_file}
use Rattle.intake.specs.Asking.{no_channel, course_to, parents_in, ask_item, ask_course, ask_accepted, ask_checked, ask_at}
use Rattle.intake.proofs.Accepted.{AllSound, digests, whole-turn, divided}
use Rattle.intake.proofs.Turns.{parts-judged, to_here, to_end, to_next}
use Rattle.partners.specs.Private.{Part, own, put, own_of, all_of, put_in, AllPrivate, parts_of, Mixed, moved}
use Rattle.partners.specs.Answers.{more, asked_moved, extra, Both}
use Rattle.partners.proofs.Shapes.{private-digest}
use Rattle.partners.proofs.Places.{Follows, at_own, past-own, past-put, not-put, moved-begin, moved_none, moved_apart}
use Rattle.partners.proofs.Files.{all-private, framed-own, order-own, order-all, file-left, file-bytes, file-sound, file-linked}

-- ---- a course where sound and linked tuples are left, and a turn past the first of them
record Coming (o : Bool) (f : List ℕ) (w : Course) (ts : List Tup) : Type 0 where
  left : drop w.at f ≡ frames o ts
  sound : AllSound o ts
  linked : Linked (eqb w.count 0) w.links (digests o ts)

module _ {o : Bool} {f : List ℕ} {w : Course} {t : Tup} {ts : List Tup} (g : Coming o f w (t ∷ ts)) where
  turned : turn o f w ≡ onward (length f) (past o w t (length_of t)) (digest o t).ends
  turned =
      let a = g.sound.0 in
      let j = linked-here g.linked in
      whole-turn o f t (frames o ts) w g.left a.framed
      ∙ ap (after o (length f) w t (length_of t))
      (parts-judged o w t (record { signing = j.0; head = a.head; linking = j.1; inner = a.inner }))

  coming-on : (digest o t).ends ≡ false → Coming o f (past o w t (length_of t)) ts
  coming-on n =
      record {
        left =
            sym (drop-drop (length_of t) w.at f)
            ∙ ap (drop (length_of t)) g.left
            ∙ drop_at (frame o t) (frames o ts) (length_of t) (length-frame o t);
        sound = g.sound.1;
        linked =
            subst (λ (b : Bool). Linked b (note w.links (digest o t)) (digests o ts))
            (sym (ne_eqb (w.count + 1) 0 (omega arith))) (linked-next g.linked n);
      }

  there : tup_at o (drop w.at f) ≡ t
  there = ap (tup_at o) g.left ∙ tup_frame o t g.sound.0.framed (frames o ts)

-- ---- two courses, in a file and in the one with private tuples: the same declarations, each at its new place
record Beside (to : ℕ → ℕ) (w v : Course) : Type 0 where
  links : v.links ≡ w.links
  sounders : v.sounders ≡ map to w.sounders
  channels : v.channels ≡ map to w.channels

module _ (o : Bool) (to : ℕ → ℕ) {w v : Course} (b : Beside to w v) where
  place-moved : (place : Link → ℕ → List ℕ) → ((l : Link) (q : ℕ) → place l (to q) ≡ map to (place l q)) → (xs ys : List ℕ) → ys ≡ map to xs
      → (l : Link) → to w.at ≡ v.at
      → ys ++ place l v.at ≡ map to (xs ++ place l w.at)
  place-moved place m xs ys e l h =
      ap₂ ◌++◌ e (ap (place l) (sym h) ∙ m l w.at) ∙ sym (map-append to xs (place l w.at))

  sounder-moved : (l : Link) (q : ℕ) → sounder_place l (to q) ≡ map to (sounder_place l q)
  sounder-moved links.none q = refl
  sounder-moved (links.sounder s) q = refl
  sounder-moved (links.channel c) q = refl
  sounder-moved (links.names c) q = refl

  channel-moved : (l : Link) (q : ℕ) → channel_place l (to q) ≡ map to (channel_place l q)
  channel-moved links.none q = refl
  channel-moved (links.sounder s) q = refl
  channel-moved (links.channel c) q = refl
  channel-moved (links.names c) q = refl

  -- past one of the file's own, both of them
  beside_own : (t : Tup) → to w.at ≡ v.at → Beside to (past o w t (length_of t)) (past o v t (length_of t))
  beside_own t h =
      record {
        links = ap (λ (k : Links). note k (digest o t)) b.links;
        sounders = place-moved sounder_place sounder-moved w.sounders v.sounders b.sounders (digest o t).link h;
        channels = place-moved channel_place channel-moved w.channels v.channels b.channels (digest o t).link h;
      }

  -- past a private one, the second alone
  beside_put : (x : Tup) → digest o x ≡ nothing → Beside to w (past o v x (length_of x))
  beside_put x n =
      record {
        links = ap (note v.links) n ∙ note-nothing v.links ∙ b.links;
        sounders =
            ap (λ (d : Digest). v.sounders ++ sounder_place d.link v.at) n ∙ append-nil v.sounders ∙ b.sounders;
        channels =
            ap (λ (d : Digest). v.channels ++ channel_place d.link v.at) n ∙ append-nil v.channels ∙ b.channels;
      }

-- ---- the courses to a place and to its new one
module _ (o : Bool) (f g : List ℕ) (to : ℕ → ℕ) (apart : (p q : ℕ) → (p ≡ q → ⊥) → to p ≡ to q → ⊥) (p : ℕ) where
  record Found (w v : Course) : Type 0 where
    courses : Beside to w v
    tuple : tup_at o (drop (to p) g) ≡ tup_at o (drop p f)

  abbrev Same : Option Course → Option Course → Type 0
  Same none none = Unit {0}
  Same none (some v) = ⊥
  Same (some w) none = ⊥
  Same (some w) (some v) = Found w v

  -- from two courses on, with turns enough
  module _ (k l : ℕ) (w v : Course) (b : Beside to w v) where
    -- of a tuple of the file's own
    module _ (t : Tup) (ps : List Part) (x : Coming o f w (t ∷ own_of ps)) (y : Coming o g v (t ∷ all_of ps)) (h : to w.at ≡ v.at) where
      same_here : w.at ≡ p → Same (course_to (suc k) o f p w) (course_to (suc l) o g (to p) v)
      same_here e =
          let d : v.at ≡ to p = sym h ∙ ap to e in
          rw (to_here k o f p w e, to_here l o g (to p) v d)
          (record {
            courses = b;
            tuple =
                ap (λ (q : ℕ). tup_at o (drop q g)) (sym d) ∙ there y ∙ sym (there x) ∙ ap (λ (q : ℕ). tup_at o (drop q f)) e;
          })

      same-later : (w.at ≡ p → ⊥)
          → ((digest o t).ends ≡ false → Same (course_to k o f p (past o w t (length_of t))) (course_to l o g (to p) (past o v t (length_of t))))
          → Same (course_to (suc k) o f p w) (course_to (suc l) o g (to p) v)
      same-later n ih = by (digest o t).ends refl
        where
          n' : v.at ≡ to p → ⊥
          n' e = apart w.at p n (h ∙ e)

          by : (q : Bool) → (digest o t).ends ≡ q → Same (course_to (suc k) o f p w) (course_to (suc l) o g (to p) v)
          by true e =
              rw (
                to_end k o f p w n _ (turned x ∙ ap (onward (length f) (past o w t (length_of t))) e),
                to_end l o g (to p) v n' _ (turned y ∙ ap (onward (length g) (past o v t (length_of t))) e),
              ) tt
          by false e =
              rw (
                to_next k o f p w n _ (turned x ∙ ap (onward (length f) (past o w t (length_of t))) e),
                to_next l o g (to p) v n' _ (turned y ∙ ap (onward (length g) (past o v t (length_of t))) e),
              ) (ih e)

  same : (ps : List Part) → AllPrivate (put_in ps) → (k l : ℕ) (w v : Course) → Beside to w v → Coming o f w (own_of ps)
      → Coming o g v (all_of ps)
      → {d : ℕ} → v.at ≡ w.at + d → Follows to ps w.at d → length (own_of ps) ≤ k → length (all_of ps) ≤ l
      → Same (course_to k o f p w) (course_to l o g (to p) v)
  same [] a k l w v b x y e h i j = absurd (linked-some x.linked refl)
  same (own t ∷ ps) a zero l w v b x y e h i j = absurd (omega arith)
  same (own t ∷ ps) a (suc k) zero w v b x y e h i j = absurd (omega arith)
  same (own t ∷ ps) a (suc k) (suc l) w v b x y {d} e h i j =
      let s : to w.at ≡ v.at = at_own h ∙ sym e in
      by (eqb w.at p) refl s
      (λ n. same ps a k l (past o w t (length_of t)) (past o v t (length_of t)) (beside_own o to b t s) (coming-on x n)
      (coming-on y n) {d = d}
      (omega (arith, e)) (past-own h) (omega (arith, i)) (omega (arith, j)))
    where
      by : (q : Bool) → eqb w.at p ≡ q → to w.at ≡ v.at
          → ((digest o t).ends ≡ false → Same (course_to k o f p (past o w t (length_of t))) (course_to l o g (to p) (past o v t (length_of t))))
          → Same (course_to (suc k) o f p w) (course_to (suc l) o g (to p) v)
      by true q s ih = same_here k l w v b t ps x y s (eqb-true w.at p q)
      by false q s ih = same-later k l w v b t ps x y s (eqb-false w.at p q) ih
  same (put z ∷ ps) a k zero w v b x y e h i j = absurd (omega arith)
  same (put z ∷ ps) a k (suc l) w v b x y {d} e h i j =
      let n = private-digest o z a.0 in
      let ends : (digest o z).ends ≡ false = ap (λ (q : Digest). q.ends) n in
      rw (to_next l o g (to p) v (λ q. not-put h p (sym e ∙ q)) _
      (turned y ∙ ap (onward (length g) (past o v z (length_of z))) ends))
      (same ps a.1 k l w (past o v z (length_of z)) (beside_put o to b z n) x (coming-on y ends) {d = d + length_of z} (omega (arith, e))
      (past-put h) i (omega (arith, j)))

-- ---- what asking tells there
get_d_map : (to : ℕ → ℕ) → to 0 ≡ 0 → (xs : List ℕ) (i : ℕ) → get_or (map to xs) i 0 ≡ to (get_or xs i 0)
get_d_map to z [] i = sym z
get_d_map to z (x ∷ xs) zero = refl
get_d_map to z (x ∷ xs) (suc i) = get_d_map to z xs i

module _ (to : ℕ → ℕ) (z : to 0 ≡ 0) (k : ℕ) (n : Counts) {w v : Course} (b : Beside to w v) where
  -- by the declarations and their places
  abbrev parents_on : Links → List ℕ → List ℕ → SoftwareChannel → Counts → Asked
  parents_on x ss cs c m =
      let nth = place_of id_of c.0 x.channels in
      let it = get_or x.channels nth no_channel in
      Parents c (get_or cs nth 0) it.rate it.samples it.parent (get_or ss (place_of doc_of it.parent.0 x.sounders) 0) m

  parents-moved : (c : SoftwareChannel) → parents_in v c (more k n) ≡ asked_moved to k (parents_in w c n)
  parents-moved c =
      let x = w.links in
      let nth = place_of id_of c.0 x.channels in
      let it = get_or x.channels nth no_channel in
      let cp = get_d_map to z w.channels nth in
      let dp = get_d_map to z w.sounders (place_of doc_of it.parent.0 x.sounders) in
      (λ i. parents_on (b.links i) (b.sounders i) (b.channels i) c (more k n))
      ∙ (λ i. Parents c (cp i) it.rate it.samples it.parent (dp i) (more k n))

  item-moved : (p : ℕ) (i : Option Item) → ask_item v (to p) (more k n) i ≡ asked_moved to k (ask_item w p n i)
  item-moved p none = refl
  item-moved p (some (plain c vs)) = refl
  item-moved p (some (ping q)) = parents-moved (record { 0 = number_at q.head 2 })
  item-moved p (some (raw c d)) = refl

module _ {f g : List ℕ} (m : Mixed f g) (b : Both m) where
  abbrev o : Bool
  o = m.msb

  -- a file's own course, from its mark on
  begun : (ts : List Tup) → AllFramed ts → {h : List ℕ} {c : Counts} → h ≡ mark o ++ frames o ts → check_file h ≡ Accepted c
      → Coming o h begin ts
  begun ts fr {h} {c} e a =
      let d = divided h (file-bytes o ts fr e) c a in
      record { left = file-left o ts fr e; sound = file-sound o ts fr e d; linked = file-linked o ts fr e d }

  enough : (ts : List Tup) {h : List ℕ} → h ≡ mark o ++ frames o ts → length ts ≤ length h
  enough ts e = omega (arith, ap length e, length-append (mark o) (frames o ts), length-frames o ts)

  found : (p : ℕ) → Same o f g (moved m) (moved_apart m) p (course_to (length f) o f p begin) (course_to (length g) o g (moved m p) begin)
  found p =
      same o f g (moved m) (moved_apart m) p (parts_of m) (all-private m) (length f) (length g) begin begin
      (record { links = refl; sounders = refl; channels = refl })
      (begun (own_of (parts_of m)) (framed-own m) m.without b.without)
      (begun (all_of (parts_of m)) m.framed m.within b.within) {d = 0} refl (moved-begin m)
      (enough (own_of (parts_of m)) m.without) (enough (all_of (parts_of m)) m.within)

  abbrev ask_on : Bool → List ℕ → ℕ → Counts → Option Course → Asked
  ask_on x h p n none = Refused 9 p
  ask_on x h p n (some w) = ask_item w p n (item_of x (tup_at x (drop p h)))

  ask-on : (h : List ℕ) (p : ℕ) (n : Counts) (w : Option Course) → ask_course h p n w ≡ ask_on (is_msb h) h p n w
  ask-on h p n none = refl
  ask-on h p n (some w) = refl

  by-course : (p : ℕ) (n : Counts) (w v : Option Course) → Same o f g (moved m) (moved_apart m) p w v
      → ask_on o g (moved m p) (more (extra m) n) v ≡ asked_moved (moved m) (extra m) (ask_on o f p n w)
  by-course p n none none s = refl
  by-course p n none (some v) s = absurd s
  by-course p n (some w) none s = absurd s
  by-course p n (some w) (some v) s =
      ap (λ (t : Tup). ask_item v (moved m p) (more (extra m) n) (item_of o t)) s.tuple
      ∙ item-moved (moved m) (moved_none m) (extra m) n s.courses p (item_of o (tup_at o (drop p f)))

  ask-accepted : (h : List ℕ) (p : ℕ) (n : Counts) → is_msb h ≡ o → check_file h ≡ Accepted n
      → ask_at h p ≡ ask_on o h p n (course_to (length h) o h p begin)
  unfolding ask_at ask_accepted
  ask-accepted h p n e a =
      ap (ask_checked h p) a
      ∙ ask-on h p n (course_to (length h) (is_msb h) h p begin)
      ∙ ap (λ (x : Bool). ask_on x h p n (course_to (length h) x h p begin)) e

  pub asked : (p : ℕ) → ask_at g (moved m p) ≡ asked_moved (moved m) (extra m) (ask_at f p)
  asked p =
      ask-accepted g (moved m p) (more (extra m) b.counts) (order-all m) b.within
      ∙ by-course p b.counts (course_to (length f) o f p begin) (course_to (length g) o g (moved m p) begin) (found p)
      ∙ sym (ap (asked_moved (moved m) (extra m)) (ask-accepted f p b.counts (order-own m) b.without))
