-- A turn is said over the bytes that are left and the file's length: of these bytes only the first tuple matters. So a file that stands
-- in parts, one behind the other, is checked over each part at its own places. Assumes nothing.
use mathlib.Core.Path.{◌≡◌, refl, sym, ap, ap₂, subst, ◌∙◌}
use mathlib.Core.Bool.{Bool, true, false, not}
use mathlib.Core.List.{List, [], ◌∷◌, ◌++◌, append-nil}
use Prim.Native.Nat.{ℕ, ◌+◌, ◌≤◌, ◌<◌}
use native.Mathlib.Omega.{arith}
use borrow.Author.Tests.{le-ltb, ltb-false, ne_eqb, not-false}
use lib.Dec.{ltb, eqb}
use lib.ListN.{length, take, drop, length-append, length-drop}
use lib.Seq.{take-append-le, drop-append-le}
use Rattle.order.specs.Order.{num_of}
use Rattle.rules.specs.Rules.{◌⇒◌}
use Rattle.layout.specs.Verdict.{Verdict}
use Rattle.layout.specs.Verdict.{Fine, Fault}
use Rattle.layout.specs.Answers.{both, judged, ◌byte◌}
use Rattle.layout.specs.Types
use Rattle.layout.specs.Types.{Shape, indexed, Length, fitting, length_from, in_class, shape_of}
use Rattle.rules.proofs.Bools.{or-false}
use Rattle.layout.proofs.Tables.{index_shape, lengths-from}
use Rattle.layout.proofs.Verdicts.{both_left, both_right, both-fine, passes}
use Rattle.frame.specs.Frames.{Tup, length_of, allowed, size_at, len_at, kind_at, back_at, tup_at, frame_rules, framing}
use Rattle.frame.proofs.Frames.{allowed_16}
use Rattle.links.specs.Links.{Digest, nothing, sign_rules, link_rules, compares, note}
use Rattle.content.specs.Items.{item_by, item_of, identified_by, inner_by, digest_item, digest}
use Rattle.intake.specs.declared.Tally.{Tally}
use Rattle.intake.specs.inner.Turned.{Turned}
use Rattle.intake.specs.inner.Turned.{On}
use Rattle.intake.specs.Check.{Course, Turn, stop, go, sounder_place, channel_place, past, onward, after, turn_on}
use Rattle.intake.specs.inner.Tallies.{Tables, course_of, turn_of, Standing, TurnedTo, PassedIndex}
use Rattle.intake.proofs.Turns.{emptied, judgement, turn-on-parts, parts-judged}

-- ---- the tuple at the front of bytes is within them, by the length that it says
pub record InFull (o : Bool) (p : List ℕ) : Type 0 where
  pub sixteen : 16 ≤ length p
  pub whole : len_at o p ≤ length p

pub framed-full : (o : Bool) (p : List ℕ) → framing o p ≡ Fine → InFull o p
unfolding framing
framed-full o p e =
    let r = passes (frame_rules o p) e in
    let long = allowed_16 (len_at o p) (not-false _ r.1.0) in
    let fits : len_at o p ≤ length p = ltb-false (length p) (len_at o p) r.1.1.0 in
    record { sixteen = omega arith; whole = fits }

-- ---- what follows it is of no concern
some_left : (r : List ℕ) → 16 ≤ length r → emptied r ≡ Fine
some_left r h = rw (ne_eqb (length r) 0 (omega arith))

module _ (o : Bool) (p q : List ℕ) (g : InFull o p) where
  size_same : size_at o (p ++ q) ≡ size_at o p
  unfolding size_at
  size_same = ap (num_of o) (take-append-le 4 p q (omega (arith, g.sixteen)))

  -- so many bytes from a place on
  field-same : (k m : ℕ) → k + m ≤ length p → take m (drop k (p ++ q)) ≡ take m (drop k p)
  field-same k m h =
      ap (take m) (drop-append-le k p q (omega arith)) ∙ take-append-le m (drop k p) q (omega (arith, length-drop k p))

  kind-same : kind_at o (p ++ q) ≡ kind_at o p
  unfolding kind_at
  kind-same = ap (num_of o) (field-same 4 2 (omega (arith, g.sixteen)))

  body_same : take (size_at o (p ++ q)) (drop 6 (p ++ q)) ≡ take (size_at o p) (drop 6 p)
  body_same =
      ap (λ (m : ℕ). take m (drop 6 (p ++ q))) size_same ∙ field-same 6 (size_at o p) (omega (arith, g.whole))

  back-same : back_at o (p ++ q) ≡ back_at o p
  unfolding back_at
  back-same =
      ap (λ (m : ℕ). num_of o (take 4 (drop (6 + m) (p ++ q)))) size_same
      ∙ ap (num_of o) (field-same (6 + size_at o p) 4 (omega (arith, g.whole)))

  pub tuple-same : tup_at o (p ++ q) ≡ tup_at o p
  tuple-same = λ i. record { kind = kind-same i; body = body_same i }

  -- both have so many bytes
  under_same : (k m : ℕ) → k ≡ m → m ≤ length p → ltb (length (p ++ q)) k ≡ ltb (length p) m
  under_same k m e h = le-ltb (length (p ++ q)) k (omega (arith, length-append p q)) ∙ sym (le-ltb (length p) m h)

  pub framing-same : framing o (p ++ q) ≡ framing o p
  unfolding framing
  framing-same =
      let a = under_same 16 16 refl g.sixteen in
      let b = under_same (len_at o (p ++ q)) (len_at o p) (ap (λ (m : ℕ). m + 10) size_same) g.whole in
      λ i. judged (
      (a i ⇒ 3 byte 0)
      ∷ (not (allowed (size_same i + 10)) ⇒ 5 byte 0)
      ∷ (b i ⇒ 3 byte 0)
      ∷ (not (eqb (back-same i) (size_same i + 10)) ⇒ 6 byte 0)
      ∷ []
      )

  -- of what is left only the first tuple matters, and the file's length,
  pub turn-on-full : (n : ℕ) (w : Course) → turn_on o n w (p ++ q) ≡ turn_on o n w p
  turn-on-full n w =
      let e = some_left (p ++ q) (omega (arith, g.sixteen, length-append p q)) ∙ sym (some_left p g.sixteen) in
      turn-on-parts o n w (p ++ q)
      ∙ (λ i. after o n w (tuple-same i) (size_same i + 10) (both (both (e i) (framing-same i)) (judgement o w (tuple-same i))))
      ∙ sym (turn-on-parts o n w p)

-- as where it is framed
pub turn-on-same : (o : Bool) (n : ℕ) (w : Course) (p q : List ℕ) → framing o p ≡ Fine → turn_on o n w (p ++ q) ≡ turn_on o n w p
turn-on-same o n w p q e = turn-on-full o p q (framed-full o p e) n w

-- ---- a turn that goes on has passed the tuple, which is framed
pub record OnPast (o : Bool) (r : List ℕ) (w v : Course) : Type 0 where
  pub framed : framing o r ≡ Fine
  pub course : v ≡ past o w (tup_at o r) (len_at o r)
  pub goes : (digest o (tup_at o r)).ends ≡ false
  pub at : v.at ≡ w.at + len_at o r
  pub count : v.count ≡ w.count + 1
  pub long : 16 ≤ len_at o r
  pub fits : len_at o r ≤ length r

module _ (o : Bool) (n : ℕ) (w : Course) (r : List ℕ) where
  abbrev Goes : Turn → Type 0
  Goes (stop a) = Unit {0}
  Goes (go v) = OnPast o r w v

  goes-past : Goes (turn_on o n w r)
  unfolding framing
  goes-past =
      subst Goes (sym (turn-on-parts o n w r)) (by-verdict (both (both (emptied r) (framing o r)) (judgement o w (tup_at o r))) refl)
    where
      by_end : framing o r ≡ Fine → (b : Bool) → (digest o (tup_at o r)).ends ≡ b → Goes (onward n (past o w (tup_at o r) (len_at o r)) b)
      by_end e true h = tt
      by_end e false h =
          let p = passes (frame_rules o r) e in
          record {
            framed = e;
            course = refl;
            goes = h;
            at = refl;
            count = refl;
            long = allowed_16 (len_at o r) (not-false _ p.1.0);
            fits = ltb-false (length r) (len_at o r) p.1.1.0;
          }

      by-verdict : (v : Verdict) → both (both (emptied r) (framing o r)) (judgement o w (tup_at o r)) ≡ v
          → Goes (after o n w (tup_at o r) (len_at o r) v)
      by-verdict Fine e =
          by_end (both_right (emptied r) (framing o r) (both_left (both (emptied r) (framing o r)) (judgement o w (tup_at o r)) e))
          (digest o (tup_at o r)).ends refl
      by-verdict (Fault c p) e = tt

  pub turn-on-past : (v : Course) → turn_on o n w r ≡ go v → OnPast o r w v
  turn-on-past v e = subst Goes e goes-past

-- of the tally that the code's turn hands back
pub turned-past : {o : Bool} {n : ℕ} {r : List ℕ} {w v : Tally} {c d : Tables} {x : Turned} → TurnedTo o n r w c x d → x ≡ On v
    → OnPast o r (course_of w c) (course_of v d)
turned-past {o} {n} {r} {w} {v} {c} {d} t e =
    turn-on-past o n (course_of w c) r (course_of v d) (sym t.turns ∙ ap (λ (y : Turned). turn_of y d) e)

-- ---- a tuple of the index class
-- past it, of m bytes, nothing else is noted
abbrev pub past_index : Course → ℕ → Course
past_index w m =
    record {
      at = w.at + m;
      count = w.count + 1;
      compared = w.compared;
      links = w.links;
      sounders = w.sounders;
      channels = w.channels;
    }

-- past what says so much
abbrev past_by : Course → Digest → ℕ → Course
past_by w d m =
    record {
      at = w.at + m;
      count = w.count + 1;
      compared = w.compared + compares w.links d.link;
      links = note w.links d;
      sounders = w.sounders ++ sounder_place d.link w.at;
      channels = w.channels ++ channel_place d.link w.at;
    }

past-nothing : (w : Course) (m : ℕ) → past_by w nothing m ≡ past_index w m
past-nothing w m =
    let k = w.links in
    let none : w.compared + 0 ≡ w.compared = omega arith in
    λ i. record {
      at = w.at + m;
      count = w.count + 1;
      compared = none i;
      links = record {
        sounders = append-nil k.sounders i;
        channels = append-nil k.channels i;
        position = or-false k.position i;
        sounder = or-false k.sounder i;
        channel = or-false k.channel i;
        ping = or-false k.ping i;
      };
      sounders = append-nil w.sounders i;
      channels = append-nil w.channels i;
    }

module _ (o : Bool) (n : ℕ) (w : Course) (r : List ℕ) (later : 0 < w.count) (g : framing o r ≡ Fine)
    (x : in_class Types.index (kind_at o r) ≡ true) where
  abbrev it : Tup
  it = tup_at o r

  shaped : shape_of (kind_at o r) ≡ indexed
  shaped = index_shape (kind_at o r) x

  says_nothing : digest o (tup_at o r) ≡ nothing
  unfolding item_of
  says_nothing = ap (λ (s : Shape). digest_item (item_by s o it)) shaped

  index-judged : judgement o w (tup_at o r) ≡ Fine
  index-judged =
      parts-judged o w it (record {
        signing = ap₂ (λ (b : Bool) (d : Digest). judged (sign_rules b d)) (ne_eqb w.count 0 (omega (arith, later))) says_nothing;
        head =
            ap₂
            (λ (l : Length) (s : Shape). judged ((not (fitting l (length_of it)) ⇒ 9 byte 0) ∷ (not (identified_by s o it) ⇒ 8 byte 0) ∷ []))
            (lengths-from (kind_at o r) ∙ ap length_from shaped) shaped;
        linking = ap (λ (d : Digest). judged (link_rules w.links d.link)) says_nothing;
        inner = ap (λ (s : Shape). judged (inner_by s o it)) shaped;
      })

  -- behind the first tuple, the turn over it counts it alone
  pub turn-on-index : turn_on o n w r ≡ go (past_index w (len_at o r))
  turn-on-index =
      turn-on-parts o n w r
      ∙ ap (after o n w it (len_at o r)) (both-fine (both-fine (some_left r (framed-full o r g).sixteen) g) index-judged)
      ∙ ap (λ (d : Digest). onward n (past_by w d (len_at o r)) d.ends) says_nothing
      ∙ ap go (past-nothing w (len_at o r))

-- what the code makes of it
abbrev pub tally_index : Tally → ℕ → Tally
tally_index w m =
    record {
      at = w.at + m;
      count = w.count + 1;
      compared = w.compared;
      sounders = w.sounders;
      channels = w.channels;
      near = w.near;
      position = w.position;
      sounder = w.sounder;
      channel = w.channel;
      ping = w.ping;
    }

pub passed-index : (w : Tally) (m : ℕ) → Standing w → 0 < w.count → allowed m ≡ true → PassedIndex w m (tally_index w m)
passed-index w m s later a =
    let long = allowed_16 m a in
    record {
      at = refl;
      turns = λ o n r c g e x.
          turn-on-index o n (course_of w c) r later g x ∙ ap (λ (i : ℕ). go (past_index (course_of w c) i)) e;
      stands = record {
        few = omega (arith, s.few);
        spent = omega (arith, s.spent);
        sounders = s.sounders;
        channels = s.channels;
      };
      steady = λ c k. k;
    }
