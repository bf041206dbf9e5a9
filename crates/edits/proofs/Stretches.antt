-- A stretch of a part: what the walk to its end carries, and that turns over it are the check of what is kept of it. Assumes nothing.
use mathlib.Core.Path.{◌≡◌, refl, sym, ap, ap₂, subst, ◌∙◌}
use mathlib.Core.Bool.{Bool, true, false, not, ◌&&◌, true≢false}
use mathlib.Core.List.{List, [], ◌∷◌, ◌++◌, append_assoc, append-nil}
use Prim.Native.Nat.{ℕ, suc, ◌+◌, ◌-◌, ◌≤◌, ◌<◌}
use native.Mathlib.Omega.{arith}
use borrow.Author.Tests.{ltb-true, ltb-false, ne_eqb}
use lib.Dec.{ltb}
use lib.ListN.{length, take, drop, length-append, length-drop}
use lib.Seq.{drop_at, take_at, take_all}
use Rattle.order.specs.Order.{Bytes}
use Rattle.layout.specs.Answer.{Answer}
use Rattle.layout.specs.Types
use Rattle.layout.specs.Types.{in_class}
use Rattle.frame.specs.Frames.{Tup, length_of, frame, frames, len_at, kind_at}
use Rattle.frame.specs.Tuples.{AllFramed}
use Rattle.frame.proofs.Frames.{length-frame, size-frame}
use Rattle.samples.proofs.Blocks.{drop-take}
use Rattle.intake.specs.Check.{Course, Turn, stop, go, turn_on}
use Rattle.intake.specs.declared.Tally.{Tally}
use Rattle.intake.specs.inner.Turned.{Turned}
use Rattle.intake.specs.inner.Turned.{On, Done}
use Rattle.intake.specs.inner.Tallies.{Tables, course_of, turn_of, StandsOn, SteadyOn, turns_to, ThereOn, RanTo}
use Rattle.intake.proofs.Parts.{turn-on-past}
use Rattle.intake.proofs.Runs.{turns-there, turns_next, turns-on}
use Rattle.index.specs.Index.{outside}
use Rattle.frame.proofs.Tuples.{frames_append, framed_join}
use Rattle.index.proofs.Fresh.{outside-next, outside_append}
use Rattle.edits.specs.Edits.{tuples_in, rest_in}
use Rattle.layout.specs.Answers.{is_fine}
use Rattle.edits.specs.inner.Parts.{is_tuple, is_dropped, is_kept, kept_of, Stretch}
use Rattle.edits.specs.inner.Left.{left}
use Rattle.edits.specs.inner.Judging.{Answered}
use Rattle.edits.proofs.Dividing.{Front, tuples-front, rest-front, rest-stop}
use Rattle.edits.proofs.Keeping.{here, ends-within, left_is, all-stop}
use Rattle.edits.proofs.Left.{left-stop}
use Rattle.edits.proofs.Judging.{Judging, turn-front, left-past}

-- ---- turns over framed tuples that stand before a place p: each goes on, or one ends the check; and so does the check itself
pub data Over (o : Bool) (n p : ℕ) (w : Course) (ts : List Tup) (s : List ℕ) : Type 0 where
  through : (v : Course) → v.at ≡ w.at + length (frames o ts)
      → turns_to (suc (length (frames o ts ++ s))) o n p w (frames o ts ++ s) ≡ turns_to (suc (length s)) o n p v s
      → ((b : List ℕ) → left o n w (frames o ts ++ b) ≡ left o n v b)
      → Over o n p w ts s
  ended : (a : Answer) → turns_to (suc (length (frames o ts ++ s))) o n p w (frames o ts ++ s) ≡ stop a
      → ((b : List ℕ) → left o n w (frames o ts ++ b) ≡ a)
      → Over o n p w ts s

pub over : (o : Bool) (n p : ℕ) (w : Course) (ts : List Tup) (s : List ℕ) → AllFramed ts → w.at + length (frames o ts) ≤ p
    → Over o n p w ts s
over o n p w [] s g h = through w (omega arith) refl (λ b. refl)
over o n p w (t ∷ ts) s g h = by_turn (turn_on o n w r) refl (λ v k. over o n p v ts s g.1 k)
  where
    r : List ℕ
    r = frame o t ++ (frames o ts ++ s)

    whole : (frame o t ++ frames o ts) ++ s ≡ frame o t ++ (frames o ts ++ s)
    whole = append_assoc (frame o t) (frames o ts) s

    size : length (frames o (t ∷ ts)) ≡ length_of t + length (frames o ts)
    size = length-append (frame o t) (frames o ts) ∙ ap (λ (k : ℕ). k + length (frames o ts)) (length-frame o t)

    apart : w.at ≡ p → ⊥
    apart e = omega (arith, e, h, length-append (frame o t) (frames o ts), length-frame o t)

    behind : len_at o (frame o t ++ (frames o ts ++ s)) ≡ length_of t
    behind = ap (λ (k : ℕ). k + 10) (size-frame o t g.0 (frames o ts ++ s))

    left_behind : drop (len_at o (frame o t ++ (frames o ts ++ s))) (frame o t ++ (frames o ts ++ s)) ≡ frames o ts ++ s
    left_behind =
        ap (λ (k : ℕ). drop k (frame o t ++ (frames o ts ++ s))) (ap (λ (k : ℕ). k + 10) (size-frame o t g.0 (frames o ts ++ s)))
        ∙ drop_at (frame o t) (frames o ts ++ s) (length_of t) (length-frame o t)

    by_turn : (x : Turn) → turn_on o n w (frame o t ++ (frames o ts ++ s)) ≡ x
        → ((v : Course) → v.at + length (frames o ts) ≤ p → Over o n p v ts s)
        → Over o n p w (t ∷ ts) s
    by_turn (stop a) e ih =
        ended a
        (ap (λ (l : List ℕ). turns_to (suc (length l)) o n p w l) whole
        ∙ turns_next (length (frame o t ++ (frames o ts ++ s))) o n p w (frame o t ++ (frames o ts ++ s)) apart (stop a) e)
        (λ b. ap (left o n w) (append_assoc (frame o t) (frames o ts) b)
        ∙ left-stop o n w (frame o t ++ (frames o ts ++ b)) a (turn-front o n w t (frames o ts ++ b) (frames o ts ++ s) g.0 ∙ e))
    by_turn (go v) e ih =
        let q = turn-on-past o n w (frame o t ++ (frames o ts ++ s)) v e in
        let at : v.at ≡ w.at + length_of t = q.at ∙ ap (λ (k : ℕ). w.at + k) behind in
        let first : turns_to (suc (length (frames o (t ∷ ts) ++ s))) o n p w (frames o (t ∷ ts) ++ s)
        ≡ turns_to (suc (length (frames o ts ++ s))) o n p v (frames o ts ++ s) =
        ap (λ (l : List ℕ). turns_to (suc (length l)) o n p w l) whole
        ∙ turns-on o n p w v (frame o t ++ (frames o ts ++ s)) apart e
        ∙ ap (λ (l : List ℕ). turns_to (suc (length l)) o n p v l) left_behind in
        let same : (b : List ℕ) → left o n w (frames o (t ∷ ts) ++ b) ≡ left o n v (frames o ts ++ b) =
        λ b. ap (left o n w) (append_assoc (frame o t) (frames o ts) b)
        ∙ left-past o n w v t (frames o ts ++ b) g.0 (turn-front o n w t (frames o ts ++ b) (frames o ts ++ s) g.0 ∙ e) in
        joined (ih v (omega (arith, at, h, size))) at first same
      where
        joined : Over o n p v ts s → v.at ≡ w.at + length_of t
            → turns_to (suc (length (frames o (t ∷ ts) ++ s))) o n p w (frames o (t ∷ ts) ++ s)
            ≡ turns_to (suc (length (frames o ts ++ s))) o n p v (frames o ts ++ s)
            → ((b : List ℕ) → left o n w (frames o (t ∷ ts) ++ b) ≡ left o n v (frames o ts ++ b))
            → Over o n p w (t ∷ ts) s
        joined (through u hu tu su) at first same =
            through u (omega (arith, hu, at, size)) (first ∙ tu) (λ b. same b ∙ su b)
        joined (ended a ta sa) at first same = ended a (first ∙ ta) (λ b. same b ∙ sa b)

-- ---- the walk to a stretch's end
pub record Stretching (o : Bool) (part : List ℕ) (from at : ℕ) : Type 0 where
  pub tuples : List Tup
  pub within : at ≤ length part
  pub framed : AllFramed tuples
  pub kept : outside tuples ≡ tuples
  pub bytes : drop from part ≡ frames o tuples ++ drop at part
  pub place : at ≡ from + length (frames o tuples)

pub stretching_begin : (o : Bool) (part : List ℕ) (from : ℕ) → from ≤ length part → Stretching o part from from
unfolding outside
stretching_begin o part from h =
    record { tuples = []; within = h; framed = tt; kept = refl; bytes = refl; place = omega arith }

kept-tuple : (o : Bool) (q : List ℕ) → is_kept o q ≡ true → is_tuple o q ≡ true
kept-tuple o q e = by_test (is_tuple o q) (in_class Types.index (kind_at o q)) e
  where
    by_test : (a b : Bool) → a && not b ≡ true → a ≡ true
    by_test true b h = refl
    by_test false b h = h

kept-class : (o : Bool) (q : List ℕ) → is_kept o q ≡ true → in_class Types.index (kind_at o q) ≡ false
kept-class o q e = by_test (is_tuple o q) (in_class Types.index (kind_at o q)) e
  where
    by_test : (a b : Bool) → a && not b ≡ true → b ≡ false
    by_test true true h = absurd (true≢false (sym h))
    by_test true false h = refl
    by_test false b h = absurd (true≢false (sym h))

module _ {o : Bool} {part : List ℕ} {from at : ℕ} (s : Stretching o part from at) (b : Bytes part) where
  pub stretching_front : is_kept o (drop at part) ≡ true → Front o (drop at part)
  stretching_front e = here o part at b (kept-tuple o (drop at part) e)

  pub stretching_again : (e : is_kept o (drop at part) ≡ true) (m : ℕ) → m ≡ len_at o (drop at part) → Stretching o part from (at + m)
  unfolding outside
  stretching_again e m a =
      let p = stretching_front e in
      let t = p.tuple in
      let ts = s.tuples in
      let l : drop (at + m) part ≡ p.left = ap (λ (k : ℕ). drop (at + k) part) a ∙ left_is o part at p in
      let f = frames_append o ts (t ∷ []) ∙ ap (λ (x : List ℕ). frames o ts ++ x) (append-nil (frame o t)) in
      record {
        tuples = ts ++ (t ∷ []);
        within = omega (arith, ends-within o part at p s.within, a);
        framed = framed_join ts (t ∷ []) s.framed (p.framed, tt);
        kept = outside_append ts (t ∷ [])
            ∙ ap₂ (λ (x y : List Tup). x ++ y) s.kept
            (outside-next t [] false (ap (in_class Types.index) (sym p.kind) ∙ kept-class o (drop at part) e));
        bytes = s.bytes
            ∙ ap (λ (x : List ℕ). frames o ts ++ x) (p.bytes ∙ ap (λ (x : List ℕ). frame o t ++ x) (sym l))
            ∙ sym (append_assoc (frames o ts) (frame o t) (drop (at + m) part))
            ∙ ap (λ (x : List ℕ). x ++ drop (at + m) part) (sym f);
        place =
            omega (arith, s.place, a, p.size, ap length f, length-append (frames o ts) (frame o t), length-frame o t);
      }

module _ {o : Bool} {part : List ℕ} {from at : ℕ} (s : Stretching o part from at) (low : from < length part)
    (first : is_dropped o (drop from part) ≡ false) (e : is_kept o (drop at part) ≡ false) where
  -- a tuple of the index class ends it
  pub stretch_dropped : is_tuple o (drop at part) ≡ true → Stretch o part from at
  stretch_dropped t =
      record {
        tuples = s.tuples;
        until = at;
        framed = s.framed;
        kept = s.kept;
        bytes = s.bytes;
        place = s.place;
        within = s.within;
        far = far s.tuples refl;
        broken = false;
        whole = λ z. refl;
        over = λ z. absurd (true≢false (sym z));
      }
    where
      clash : (a b : Bool) → a ≡ true → a && not b ≡ false → a && b ≡ false → ⊥
      clash true true x y z = true≢false z
      clash true false x y z = true≢false y
      clash false b x y z = true≢false (sym x)

      far : (ts : List Tup) → s.tuples ≡ ts → from < at
      far [] z =
          let h : at ≡ from = omega (arith, s.place, ap (λ (us : List Tup). length (frames o us)) z) in
          absurd (clash (is_tuple o (drop at part)) (in_class Types.index (kind_at o (drop at part))) t e
          (ap (λ (k : ℕ). is_dropped o (drop k part)) h ∙ first))
      far (u ∷ us) z =
          omega (arith, s.place, ap (λ (us : List Tup). length (frames o us)) z, length-append (frame o u) (frames o us), length-frame o u)

  -- where none stands it goes to the part's end
  pub stretch_open : is_tuple o (drop at part) ≡ false → Stretch o part from (length part)
  stretch_open t = by_end (ltb at (length part)) refl
    where
      by_end : (x : Bool) → ltb at (length part) ≡ x → Stretch o part from (length part)
      by_end x z =
          record {
            tuples = s.tuples;
            until = at;
            framed = s.framed;
            kept = s.kept;
            bytes = s.bytes;
            place = s.place;
            within = omega arith;
            far = low;
            broken = x;
            whole = λ y. omega (arith, s.within, ltb-false at (length part) (z ∙ y));
            over = λ y. (t, refl, ltb-true at (length part) (z ∙ y));
          }

-- ---- what is kept of framed tuples and bytes behind them
kept-front : (o : Bool) (ts : List Tup) (r : List ℕ) → AllFramed ts → outside ts ≡ ts → kept_of o
    (frames o ts ++ r) ≡ frames o ts ++ kept_of o r
unfolding kept_of
kept-front o ts r g k =
    ap₂ (λ (us : List Tup) (x : List ℕ). frames o (outside us) ++ x) (tuples-front o ts r g) (rest-front o ts r g)
    ∙ ap (λ (x : List ℕ). x ++ rest_in o r)
    (ap (frames o) (outside_append ts (tuples_in o r) ∙ ap (λ (us : List Tup). us ++ outside (tuples_in o r)) k)
    ∙ frames_append o ts (outside (tuples_in o r)))
    ∙ append_assoc (frames o ts) (frames o (outside (tuples_in o r))) (rest_in o r)

go_inj : (v u : Course) → go v ≡ go u → v ≡ u
go_inj v u e = ap inside e
  where
    inside : Turn → Course
    inside (stop a) = v
    inside (go x) = x

stop_inj : (a b : Answer) → stop a ≡ stop b → a ≡ b
stop_inj a b e = ap inside e
  where
    inside : Turn → Answer
    inside (stop x) = x
    inside (go v) = a

go-stop : {A : Type 0} (v : Course) (a : Answer) → go v ≡ stop a → A
go-stop v a e = absurd (true≢false (ap goes e))
  where
    goes : Turn → Bool
    goes (stop x) = false
    goes (go x) = true

-- ---- turns over a stretch
module _ {o : Bool} {n : ℕ} {part : List ℕ} {w₀ : Tally} {c₀ : Tables} {at : ℕ} {w : Tally} {c : Tables}
    (s : Judging o n part w₀ c₀ at w c) {end : ℕ} (g : Stretch o part at end) (until : ℕ) (hu : until ≡ w.at + (end - at)) where
  abbrev ts : List Tup
  ts = g.tuples

  abbrev W : Course
  W = course_of w c

  kept_here : kept_of o (drop at part) ≡ frames o g.tuples ++ kept_of o (drop g.until part)
  kept_here = ap (kept_of o) g.bytes ∙ kept-front o g.tuples (drop g.until part) g.framed g.kept

  rest-here : rest_in o (drop at part) ≡ rest_in o (drop g.until part)
  rest-here = ap (rest_in o) g.bytes ∙ rest-front o g.tuples (drop g.until part) g.framed

  -- the stretch is within what is kept, so within the limit
  pub stretch_small : end - at ≤ length (kept_of o (drop at part))
  stretch_small = by_end g.broken refl
    where
      by_end : (x : Bool) → g.broken ≡ x → end - at ≤ length (kept_of o (drop at part))
      by_end false e =
          omega (arith, g.whole e, g.place, ap length kept_here, length-append (frames o g.tuples) (kept_of o (drop g.until part)))
      by_end true e =
          let k = all-stop o (drop g.until part) (g.over e).0 in
          omega (
            arith,
            (g.over e).1,
            g.place,
            ap length kept_here,
            length-append (frames o g.tuples) (kept_of o (drop g.until part)),
            ap length k,
            length-drop g.until part,
            (g.over e).2,
          )

  -- its bytes, as the code slices the part
  whole-bytes : g.broken ≡ false → drop at (take end part) ≡ frames o g.tuples ++ []
  whole-bytes e =
      let m = length (frames o g.tuples) in
      ap (λ (k : ℕ). drop at (take k part)) (g.whole e ∙ g.place)
      ∙ drop-take at m part
      ∙ ap (take m) g.bytes
      ∙ take_at (frames o g.tuples) (drop g.until part) m refl
      ∙ sym (append-nil (frames o g.tuples))

  over-bytes : g.broken ≡ true → drop at (take end part) ≡ frames o g.tuples ++ drop g.until part
  over-bytes e = ap (drop at) (take_all end part (omega (arith, (g.over e).1))) ∙ g.bytes

  module _ (x : Turned) (d : Tables) (t : RanTo o n until (drop at (take end part)) w c x d) where
    -- what the turns come to, over a stretch that ends before the index class or at the part's end
    ran : (b : List ℕ) → drop at (take end part) ≡ frames o g.tuples ++ b
        → turn_of x d ≡ turns_to (suc (length (frames o g.tuples ++ b))) o n until (course_of w c) (frames o g.tuples ++ b)
    ran b e = t.turns ∙ ap (λ (r : List ℕ). turns_to (suc (length r)) o n until (course_of w c) r) e

    goes_on : (v : Tally) → x ≡ On v → (u : Course) → course_of v d ≡ u → g.broken ≡ false
        → ((b : List ℕ) → left o n (course_of w c) (frames o g.tuples ++ b) ≡ left o n u b)
        → Judging o n part w₀ c₀ end v d
    goes_on v e u h f same =
        let q : drop g.until part ≡ drop end part = ap (λ (k : ℕ). drop k part) (sym (g.whole f)) in
        let there : v.at ≡ until = subst (ThereOn until) e t.there in
        record {
          within = g.within;
          ready = record {
            standing = subst StandsOn e t.stands;
            steady = subst (λ (y : Turned). SteadyOn y d) e t.steady;
            sized = t.sized;
          };
          place =
              omega (
                arith,
                s.place,
                there,
                hu,
                g.whole f,
                g.place,
                ap length kept_here,
                length-append (frames o g.tuples) (kept_of o (drop g.until part)),
                ap (λ (y : List ℕ). length (kept_of o y)) q,
              );
          rest = ap (rest_in o) (sym q) ∙ sym rest-here ∙ s.rest;
          same = λ b. s.same b
              ∙ ap (λ (y : List ℕ). left o n (course_of w c) (y ++ b)) kept_here
              ∙ ap (left o n (course_of w c)) (append_assoc (frames o g.tuples) (kept_of o (drop g.until part)) b)
              ∙ same (kept_of o (drop g.until part) ++ b)
              ∙ (λ i. left o n (sym h i) (kept_of o (q i) ++ b));
        }

    answers : (a : Answer) → ((b : List ℕ) → left o n (course_of w c) (frames o g.tuples ++ b) ≡ a) → Answered o n part w₀ c₀ a
    answers a said behind closes =
        s.same behind
        ∙ ap (λ (y : List ℕ). left o n (course_of w c) (y ++ behind)) kept_here
        ∙ ap (left o n (course_of w c)) (append_assoc (frames o g.tuples) (kept_of o (drop g.until part)) behind)
        ∙ said (kept_of o (drop g.until part) ++ behind)

    -- where bytes stand that are no tuple, the turn there ends the check
    pub record Ended (b : List ℕ) : Type 0 where
      pub answer : Answer
      pub turns : turns_to (suc (length (frames o g.tuples ++ b))) o n until (course_of w c) (frames o g.tuples ++ b) ≡ stop answer
      pub said : left o n (course_of w c) (frames o g.tuples ++ (b ++ [])) ≡ answer

    broken-ended : g.broken ≡ true → Over o n until (course_of w c) g.tuples (drop g.until part) → Ended (drop g.until part)
    broken-ended f (ended a ta sa) = record { answer = a; turns = ta; said = sa (drop g.until part ++ []) }
    broken-ended f (through v hv tv sv) = by_turn (turn_on o n v (drop g.until part)) refl
      where
        apart : v.at ≡ until → ⊥
        apart e = omega (arith, e, hv, hu, (g.over f).1, (g.over f).2, g.place)

        by_turn : (y : Turn) → turn_on o n v (drop g.until part) ≡ y → Ended (drop g.until part)
        by_turn (stop a) e =
            let r = drop g.until part in
            record {
              answer = a;
              turns = tv ∙ turns_next (length r) o n until v r apart (stop a) e;
              said = sv (r ++ []) ∙ ap (left o n v) (append-nil r) ∙ left-stop o n v r a e;
            }
        by_turn (go u) e =
            absurd (true≢false (sym (ap is_fine (turn-on-past o n v (drop g.until part) u e).framed) ∙ (g.over f).0))

    limits : (b : List ℕ) → (course_of w c).at + length (frames o g.tuples) ≤ until
    limits b = by_end g.broken refl
      where
        by_end : (z : Bool) → g.broken ≡ z → (course_of w c).at + length (frames o g.tuples) ≤ until
        by_end false e = omega (arith, hu, g.whole e, g.place)
        by_end true e = omega (arith, hu, (g.over e).1, (g.over e).2, g.place)

    pub stretch_on : (v : Tally) → x ≡ On v → Judging o n part w₀ c₀ end v d
    stretch_on v e = by_end g.broken refl
      where
        led : (b : List ℕ) → drop at (take end part) ≡ frames o g.tuples ++ b
            → go (course_of v d) ≡ turns_to (suc (length (frames o g.tuples ++ b))) o n until (course_of w c) (frames o g.tuples ++ b)
        led b h = sym (ap (λ (y : Turned). turn_of y d) e) ∙ ran b h

        by_over : g.broken ≡ false → Over o n until (course_of w c) g.tuples [] → Judging o n part w₀ c₀ end v d
        by_over f (ended a ta sa) = go-stop (course_of v d) a (led [] (whole-bytes f) ∙ ta)
        by_over f (through u pu tu su) =
            let there : u.at ≡ until = omega (arith, pu, hu, g.whole f, g.place) in
            goes_on v e u (go_inj (course_of v d) u (led [] (whole-bytes f) ∙ tu ∙ turns-there 0 o n until u [] there)) f su

        by_end : (z : Bool) → g.broken ≡ z → Judging o n part w₀ c₀ end v d
        by_end false f = by_over f (over o n until (course_of w c) g.tuples [] g.framed (limits []))
        by_end true f =
            let q = broken-ended f (over o n until (course_of w c) g.tuples (drop g.until part) g.framed (limits [])) in
            go-stop (course_of v d) q.answer (led (drop g.until part) (over-bytes f) ∙ q.turns)

    pub stretch_done : (a : Answer) → x ≡ Done a → Answered o n part w₀ c₀ a
    stretch_done a e = by_end g.broken refl
      where
        led : (b : List ℕ) → drop at (take end part) ≡ frames o g.tuples ++ b
            → stop a ≡ turns_to (suc (length (frames o g.tuples ++ b))) o n until (course_of w c) (frames o g.tuples ++ b)
        led b h = sym (ap (λ (y : Turned). turn_of y d) e) ∙ ran b h

        by_over : g.broken ≡ false → Over o n until (course_of w c) g.tuples [] → Answered o n part w₀ c₀ a
        by_over f (ended z ta sa) =
            let q : z ≡ a = sym (stop_inj a z (led [] (whole-bytes f) ∙ ta)) in
            answers a (λ b. sa b ∙ q)
        by_over f (through u pu tu su) =
            let there : u.at ≡ until = omega (arith, pu, hu, g.whole f, g.place) in
            go-stop u a (sym (led [] (whole-bytes f) ∙ tu ∙ turns-there 0 o n until u [] there))

        over-answered : g.broken ≡ true → Ended (drop g.until part) → Answered o n part w₀ c₀ a
        over-answered f q behind closes =
            let r = drop g.until part in
            let k = all-stop o r (g.over f).0 in
            let some : length (rest_in o part) ≡ 0 → ⊥ = λ z.
            omega (
              arith,
              z,
              ap length (sym s.rest ∙ rest-here ∙ rest-stop o r (g.over f).0),
              length-drop
                  g.until part,
              (g.over f).2,
            ) in
            let none = closes (ne_eqb (length (rest_in o part)) 0 some) in
            s.same behind
            ∙ ap₂ (λ (y z : List ℕ). left o n (course_of w c) (y ++ z)) (kept_here ∙ ap (λ (y : List ℕ). frames o g.tuples ++ y) k) none
            ∙ ap (left o n (course_of w c)) (append_assoc (frames o g.tuples) r [])
            ∙ q.said
            ∙ sym (stop_inj a q.answer (led r (over-bytes f) ∙ q.turns))

        by_end : (z : Bool) → g.broken ≡ z → Answered o n part w₀ c₀ a
        by_end false f = by_over f (over o n until (course_of w c) g.tuples [] g.framed (limits []))
        by_end true f =
            over-answered f (broken-ended f (over o n until (course_of w c) g.tuples (drop g.until part) g.framed (limits [])))
