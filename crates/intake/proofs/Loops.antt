-- A loop over the tuples of an accepted file. What is left to say at a place is told by the place and the tuples from there on; a turn
-- takes the tuple at the place, which is sound and linked, and goes behind it; at the end of the file no tuple is left. Any loop that
-- goes through an accepted file carries `Passing`, and cites the laws below for its begin, its turns, an early end and its end. Assumes
-- nothing.
use mathlib.Core.Path.{◌≡◌, refl, sym, ap, subst, ◌∙◌}
use mathlib.Core.Bool.{Bool, true, false}
use mathlib.Core.List.{List, [], ◌∷◌}
use Prim.Native.Nat.{ℕ, zero, suc, ◌+◌, ◌-◌, ◌≤◌, ◌<◌}
use native.Mathlib.Omega.{arith}
use borrow.Author.Tests.{ltb-false}
use lib.ListN.{length, drop, drop_of_length-le}
use lib.Seq.{drop-drop}
use Rattle.rules.proofs.Laws.{clear}
use Rattle.layout.specs.declared.Counts.{Counts}
use Rattle.layout.specs.Answer.{Answer}
use Rattle.layout.specs.Answer.{Accepted, Refused}
use Rattle.layout.specs.Verdict.{Verdict}
use Rattle.layout.specs.Verdict.{Fine, Fault}
use Rattle.layout.specs.Answers.{both, judged, is_accepted}
use Rattle.layout.proofs.Verdicts.{both_left, both_right, both-fine, judged_append}
use Rattle.frame.specs.Frames.{Tup, length_of, len_at, tup_at, framing}
use Rattle.frame.specs.Files.{limit, is_msb}
use Rattle.frame.specs.Tuples.{tuples_from, tuples_of}
use Rattle.frame.proofs.Files.{marked_4}
use Rattle.frame.proofs.Places.{Whole, framing-whole}
use Rattle.links.specs.Links.{Links, start, link_rules, note, Steady}
use Rattle.links.proofs.Parents.{steady-start, steady-past}
use Rattle.content.specs.Items.{digest, head_rules, inner_rules}
use Rattle.content.proofs.Places.{length-place}
use Rattle.intake.specs.Check.{Course, begin, end_rules, counts_of, ending, Turn, stop, go, past, onward, after, turn, check_from}
use Rattle.intake.specs.inner.Tallies.{own_verdict}
use Rattle.intake.specs.inner.Sound.{SoundAt, Accepts}
use Rattle.intake.proofs.Accepted.{refusal}
use Rattle.intake.proofs.Seeks.{taken}
use Rattle.intake.proofs.Turns.{emptied, judgement, turn-parts, Judged, judged-parts, settle, from_suc}

-- ---- the tuples at a place
none_left : (k : ℕ) (o : Bool) → tuples_from k o [] ≡ []
unfolding tuples_from framing
none_left zero o = refl
none_left (suc k) o = refl

module _ (o : Bool) (f : List ℕ) (at : ℕ) where
  -- a framed tuple is the first of them
  tuples-next : (k : ℕ) → framing o (drop at f) ≡ Fine
      → tuples_from (suc k) o (drop at f) ≡ tup_at o (drop at f) ∷ tuples_from k o (drop (at + len_at o (drop at f)) f)
  unfolding tuples_from
  tuples-next k e = rw (e, tuples_from) (ap (λ (r : List ℕ). tup_at o (drop at f) ∷ tuples_from k o r) (drop-drop (len_at o (drop at f)) at f))

  -- at the end there are none
  tuples-end : (k : ℕ) → length f ≤ at → tuples_from k o (drop at f) ≡ []
  tuples-end k h = ap (tuples_from k o) (drop_of_length-le f h) ∙ none_left k o

-- ---- what a turn of the check tells of the tuple where it stands, if it goes on or accepts
-- a tuple whose parts are fine keeps its own rules
own-fine : (o : Bool) (w : Course) (t : Tup) → Judged o w t → own_verdict o t ≡ Fine
unfolding own_verdict
own-fine o w t j = judged_append (head_rules o t) (inner_rules o t) ∙ both-fine j.head j.inner

-- what it names was declared
abbrev pub LinkedAt : Bool → Links → Tup → Type 0
LinkedAt o s t = judged (link_rules s (digest o t).link) ≡ Fine

module _ (o : Bool) (f : List ℕ) (w : Course) (low : w.at ≤ length f) where
  abbrev here : Tup
  here = tup_at o (drop w.at f)

  abbrev next : ℕ
  next = w.at + len_at o (drop w.at f)

  abbrev Told : Type 0
  Told = SoundAt o f w.at × LinkedAt o w.links here

  abbrev EndTells : Answer → Type 0
  EndTells (Accepted n) = Told × (next ≡ length f)
  EndTells (Refused c p) = Unit {0}

  abbrev Tells : Turn → Type 0
  Tells (stop a) = EndTells a
  Tells (go v) = Told × (v.at ≡ next) × (v.links ≡ note w.links (digest o here))

  -- an acceptance leaves no byte behind the tuple
  ends : SoundAt o f w.at → (n : Counts)
      → ending (length f) (past o w (tup_at o (drop w.at f)) (len_at o (drop w.at f))) ≡ Accepted n
      → next ≡ length f
  unfolding ending
  ends s n e =
      let w⁺ = past o w (tup_at o (drop w.at f)) (len_at o (drop w.at f)) in
      let c = clear is_accepted (end_rules (length f) w⁺) (Accepted (counts_of w⁺)) (Accepted n) (refl, (refl, (refl, tt))) e refl in
      let done : length f ≤ next = ltb-false next (length f) c.0.0 in
      omega (arith, (framing-whole o f w.at s.here.framed).fits)

  tells : Tells (turn o f w)
  tells = subst Tells (sym (turn-parts o f w)) (by-verdict (both (both (emptied r) (framing o r)) (judgement o w t)) refl)
    where
      r : List ℕ
      r = drop w.at f

      t : Tup
      t = tup_at o r

      by-ending : Told → (a : Answer) → ending (length f) (past o w t (len_at o r)) ≡ a → EndTells a
      by-ending s (Refused c p) e = tt
      by-ending s (Accepted n) e = (s, ends s.0 n e)

      by_end : Told → (b : Bool) → Tells (onward (length f) (past o w t (len_at o r)) b)
      by_end s true = by-ending s (ending (length f) (past o w t (len_at o r))) refl
      by_end s false = (s, refl, refl)

      by-verdict : (v : Verdict) → both (both (emptied r) (framing o r)) (judgement o w t) ≡ v
          → Tells (after o (length f) w t (len_at o r) v)
      by-verdict (Fault c p) e = tt
      by-verdict Fine e =
          let g = both_right (emptied r) (framing o r) (both_left (both (emptied r) (framing o r)) (judgement o w t) e) in
          let j = judged-parts o w t (both_right (both (emptied r) (framing o r)) (judgement o w t) e) in
          by_end (record { within = low; here = record { framed = g; size = refl; kind = refl }; own = own-fine o w t j }, j.linking)
          (digest o t).ends

-- ---- tuples that lie at a place, one behind the other, to the end of the file: each is sound, and linked to those before it
abbrev pub Lies : Bool → List ℕ → ℕ → Links → List Tup → Type 0
Lies o f at s [] = at ≡ length f
Lies o f at s (t ∷ ts) =
    SoundAt o f at × (tup_at o (drop at f) ≡ t) × LinkedAt o s t × Lies o f (at + len_at o (drop at f)) (note s (digest o t)) ts

-- the end is where they end
lies : (o : Bool) (f : List ℕ) (k : ℕ) (w : Course) (n : Counts) → w.at ≤ length f → check_from k o f w ≡ Accepted n
    → Lies o f w.at w.links (tuples_from k o (drop w.at f))
unfolding check_from
lies o f zero w n low e = refusal 4 w.at n e
lies o f (suc k) w n low e = by_turn (λ v h q. lies o f k v n h q) (turn o f w) (tells o f w low) (sym (from_suc k o f w) ∙ e)
  where
    t : Tup
    t = tup_at o (drop w.at f)

    p : ℕ
    p = w.at + len_at o (drop w.at f)

    s⁺ : Links
    s⁺ = note w.links (digest o t)

    -- the tuple, and those behind it
    more : Told o f w low → Lies o f p s⁺ (tuples_from k o (drop p f)) → Lies o f w.at w.links (tuples_from (suc k) o (drop w.at f))
    more x l = subst (Lies o f w.at w.links) (sym (tuples-next o f w.at k x.0.here.framed)) (x.0, refl, x.1, l)

    by_turn : ((v : Course) → v.at ≤ length f → check_from k o f v ≡ Accepted n
        → Lies o f v.at v.links (tuples_from k o (drop v.at f)))
        → (x : Turn) → Tells o f w low x → settle k o f x ≡ Accepted n
        → Lies o f w.at w.links (tuples_from (suc k) o (drop w.at f))
    by_turn ih (stop (Refused c q)) h z = refusal c q n z
    by_turn ih (stop (Accepted i)) h z =
        more h.0 (subst (Lies o f p s⁺) (sym (tuples-end o f p k (omega (arith, h.1)))) h.1)
    by_turn ih (go v) h z =
        let fits = (framing-whole o f w.at h.0.0.here.framed).fits in
        let rest : Lies o f v.at v.links (tuples_from k o (drop v.at f)) = ih v (omega (arith, h.1, fits)) z in
        more h.0
        (subst (λ (q : ℕ). Lies o f q s⁺ (tuples_from k o (drop q f))) h.1
        (subst (λ (q : Links). Lies o f v.at q (tuples_from k o (drop v.at f))) h.2 rest))

module _ (f : List ℕ) (a : Accepts f) where
  -- those of an accepted file, behind its mark
  lies-accepted : (o : Bool) → o ≡ is_msb f → Lies o f 4 start (tuples_from (length f) o (drop 4 f))
  lies-accepted o e =
      let t = taken f a.counts a.answer in
      lies o f (length f) begin a.counts (marked_4 f t.mark) (ap (λ (x : Bool). check_from (length f) x f begin) e ∙ t.rest)

  -- which keeps the limit and has its mark
  pub accepted-small : length f ≤ limit
  accepted-small = (taken f a.counts a.answer).small

  pub accepted_4 : 4 ≤ length f
  accepted_4 = marked_4 f (taken f a.counts a.answer).mark

-- ---- what a loop carries at a place, behind tuples that were noted as s: what is left to say there is the whole
pub record Passing {A : Type 0} (rest : ℕ → List Tup → A) (whole : A) (o : Bool) (f : List ℕ) (at : ℕ) (s : Links) : Type 0 where
  pub tuples : List Tup
  pub lying : Lies o f at s tuples
  pub steady : Steady s
  pub same : rest at tuples ≡ whole

-- behind the mark
pub passing-begin : {A : Type 0} (rest : ℕ → List Tup → A) (f : List ℕ) (o : Bool) → Accepts f → o ≡ is_msb f
    → Passing rest (rest 4 (tuples_of f)) o f 4 start
unfolding tuples_of
passing-begin rest f o a e =
    record {
      tuples = tuples_from (length f) o (drop 4 f);
      lying = lies-accepted f a o e;
      steady = steady-start;
      same = ap (λ (x : Bool). rest 4 (tuples_from (length f) x (drop 4 f))) e;
    }

module _ {A : Type 0} {rest : ℕ → List Tup → A} {whole : A} {o : Bool} {f : List ℕ} {at : ℕ} {s : Links}
    (g : Passing rest whole o f at s) where
  -- the tuple at the place, and what is noted behind it
  abbrev it : Tup
  it = tup_at o (drop at f)

  abbrev s⁺ : Links
  s⁺ = note s (digest o it)

  pub passing-within : at ≤ length f
  passing-within = by g.tuples g.lying
    where
      by : (ts : List Tup) → Lies o f at s ts → at ≤ length f
      by [] l = omega (arith, l)
      by (t ∷ ts) l = l.0.within

  -- at the end of the file no tuple is left
  pub passing-done : length f ≤ at → rest at [] ≡ whole
  passing-done h = by g.tuples g.lying g.same
    where
      by : (ts : List Tup) → Lies o f at s ts → rest at ts ≡ whole → rest at [] ≡ whole
      by [] l e = e
      by (t ∷ ts) l e = let n = framing-whole o f at l.0.here.framed in absurd (omega (arith, n.long, n.fits))

  -- before it, a sound and linked tuple stands at the place
  module _ (h : at < length f) where
    pub passing-sound : SoundAt o f at
    passing-sound = by g.tuples g.lying
      where
        by : (ts : List Tup) → Lies o f at s ts → SoundAt o f at
        by [] l = absurd (omega (arith, l))
        by (t ∷ ts) l = l.0

    pub passing-whole : Whole o f at (len_at o (drop at f))
    passing-whole = framing-whole o f at passing-sound.here.framed

    pub passing-linked : LinkedAt o s (tup_at o (drop at f))
    passing-linked = by g.tuples g.lying
      where
        by : (ts : List Tup) → Lies o f at s ts → LinkedAt o s it
        by [] l = absurd (omega (arith, l))
        by (t ∷ ts) l = subst (LinkedAt o s) (sym l.1) l.2

    -- it is the first of those that are left,
    first : (B : Type 0) → ((ts : List Tup) → rest at (it ∷ ts) ≡ whole → Lies o f (at + len_at o (drop at f)) s⁺ ts → B) → B
    first B k = by g.tuples g.lying g.same
      where
        by : (ts : List Tup) → Lies o f at s ts → rest at ts ≡ whole → B
        by [] l e = absurd (omega (arith, l))
        by (t ∷ ts) l e =
            k ts (ap (λ (x : Tup). rest at (x ∷ ts)) l.1 ∙ e)
            (subst (λ (x : Tup). Lies o f (at + len_at o (drop at f)) (note s (digest o x)) ts) (sym l.1) l.3)

    -- which tells what is left to say with it,
    pub passing-tells : (B : Type 0) → ((ts : List Tup) → rest at (tup_at o (drop at f) ∷ ts) ≡ whole → B) → B
    passing-tells B k = first B (λ ts x l. k ts x)

    -- a turn says what it has to say of it, and goes behind it,
    pub passing-again : (n : ℕ) → n ≡ len_at o (drop at f) → (later : ℕ → List Tup → A)
        → ((ts : List Tup) → rest at (tup_at o (drop at f) ∷ ts) ≡ later (at + length_of (tup_at o (drop at f))) ts)
        → Passing later whole o f (at + n) (note s (digest o (tup_at o (drop at f))))
    passing-again n e later k =
        rw e
        (first (Passing later whole o f (at + len_at o (drop at f)) s⁺)
        (λ ts x l. record {
          tuples = ts;
          lying = l;
          steady = steady-past s (digest o it) g.steady passing-linked;
          same = ap (λ (i : ℕ). later (at + i) ts) (sym (length-place o f at _ passing-whole)) ∙ sym (k ts) ∙ x;
        }))

    -- or ends the loop with it
    pub passing-stop : (a : A) → ((ts : List Tup) → rest at (tup_at o (drop at f) ∷ ts) ≡ a) → a ≡ whole
    passing-stop a k = first (a ≡ whole) (λ ts x l. sym (k ts) ∙ x)

    -- a turn takes at least 16 bytes of the file
    pub passing-less : (n : ℕ) → n ≡ len_at o (drop at f) → length f - (at + n) < length f - at
    passing-less n e = omega (arith, passing-whole.long, passing-whole.fits, e)
