-- What the loop over a part's tuples carries while it judges them. Assumes nothing.
use mathlib.Core.Path.{◌≡◌, refl, sym, ap, ap₂, subst, ◌∙◌}
use mathlib.Core.Bool.{Bool, true, false, ◌&&◌, true≢false}
use mathlib.Core.List.{List, [], ◌++◌, append-nil}
use Prim.Native.Nat.{ℕ, ◌+◌, ◌≤◌}
use native.Mathlib.Omega.{arith}
use borrow.Author.Tests.{eq-eqb}
use lib.Dec.{eqb}
use lib.ListN.{length, drop, length-append, drop_of_length-le}
use lib.Seq.{drop_at}
use Rattle.order.specs.Order.{Bytes}
use Rattle.layout.specs.Answer.{Answer}
use Rattle.layout.specs.Answer.{Refused}
use Rattle.layout.specs.Verdict.{Fine, Fault}
use Rattle.layout.specs.Answers.{both, judged}
use Rattle.layout.specs.Types
use Rattle.layout.specs.Types.{in_class, classes}
use Rattle.frame.specs.Frames.{Tup, length_of, frame, len_at, kind_at, framing, Framed}
use Rattle.frame.specs.Files.{limit}
use Rattle.frame.proofs.Frames.{length-frame, framing-frame, size-frame, kind-frame, tup_frame}
use Rattle.links.specs.Links.{Digest, sign_rules, link_rules}
use Rattle.content.specs.Items.{head_rules, inner_rules, digest}
use Rattle.intake.specs.declared.Tally.{Tally}
use Rattle.intake.specs.inner.Turned.{Turned}
use Rattle.intake.specs.Check.{Course, stop, go, after, turn_on, check_file}
use Rattle.intake.specs.inner.Tallies.{Tables, course_of, PassedIndex, tally_begin}
use Rattle.intake.proofs.Turns.{judgement, turn-on-parts}
use Rattle.intake.proofs.Accepted.{fine-frame}
use Rattle.intake.proofs.Parts.{turn-on-same}
use Rattle.index.specs.Index.{types_of}
use Rattle.index.proofs.Laws.{few-types, index-framed, index-digest}
use Rattle.edits.specs.Edits.{rest_in}
use Rattle.edits.specs.inner.Parts.{is_tuple, is_dropped, kept_of, all_of, index_in, tail_of, result_of}
use Rattle.edits.specs.inner.Left.{left}
use Rattle.edits.specs.inner.Judging.{Ready, Passed, Answered, PartTo, IndexOf, SaidBehind}
use Rattle.edits.proofs.Dividing.{Front, rest-none}
use Rattle.edits.proofs.Keeping.{here, ends-within, left_is, all-dropped, kept-none}
use Rattle.edits.proofs.Left.{nothing_left, left-stop, left-go, file-left}
use Rattle.edits.proofs.Joining.{tail-whole, tail_none, length-result}

-- ---- of what is left only the first tuple matters
fine-alone : (o : Bool) (t : Tup) → Framed t → framing o (frame o t) ≡ Fine
fine-alone o t g = ap (framing o) (sym (append-nil (frame o t))) ∙ framing-frame o t g []

pub turn-front : (o : Bool) (n : ℕ) (w : Course) (t : Tup) (r s : List ℕ) → Framed t
    → turn_on o n w (frame o t ++ r) ≡ turn_on o n w (frame o t ++ s)
turn-front o n w t r s g =
    turn-on-same o n w (frame o t) r (fine-alone o t g) ∙ sym (turn-on-same o n w (frame o t) s (fine-alone o t g))

-- past a framed tuple
pub left-past : (o : Bool) (n : ℕ) (w v : Course) (t : Tup) (s : List ℕ) → Framed t → turn_on o n w (frame o t ++ s) ≡ go v
    → left o n w (frame o t ++ s) ≡ left o n v s
left-past o n w v t s g e =
    left-go o n w v (frame o t ++ s) s e
    (ap (λ (k : ℕ). drop (k + 10) (frame o t ++ s)) (size-frame o t g s) ∙ drop_at (frame o t) s (length_of t) (length-frame o t))

-- ---- the loop
pub record Judging (o : Bool) (n : ℕ) (part : List ℕ) (w₀ : Tally) (c₀ : Tables) (at : ℕ) (w : Tally) (c : Tables) : Type 0 where
  pub within : at ≤ length part
  pub ready : Ready w c
  pub place : w.at + length (kept_of o (drop at part)) ≡ w₀.at + length (kept_of o part)
  pub rest : rest_in o (drop at part) ≡ rest_in o part
  pub same : (behind : List ℕ)
      → left o n (course_of w₀ c₀) (kept_of o part ++ behind) ≡ left o n (course_of w c) (kept_of o (drop at part) ++ behind)

pub judging_begin : (o : Bool) (n : ℕ) (part : List ℕ) (w : Tally) (c : Tables) → Ready w c → Judging o n part w c 0 w c
judging_begin o n part w c g = record { within = omega arith; ready = g; place = refl; rest = refl; same = λ behind. refl }

-- one tuple of the index class is framed
dropped-tuple : (o : Bool) (q : List ℕ) → is_dropped o q ≡ true → is_tuple o q ≡ true
dropped-tuple o q e = by_test (is_tuple o q) (in_class Types.index (kind_at o q)) e
  where
    by_test : (a b : Bool) → a && b ≡ true → a ≡ true
    by_test true b h = refl
    by_test false b h = h

dropped-class : (o : Bool) (q : List ℕ) → is_dropped o q ≡ true → in_class Types.index (kind_at o q) ≡ true
dropped-class o q e = by_test (is_tuple o q) (in_class Types.index (kind_at o q)) e
  where
    by_test : (a b : Bool) → a && b ≡ true → b ≡ true
    by_test true b h = h
    by_test false b h = absurd (true≢false (sym h))

module _ {o : Bool} {n : ℕ} {part : List ℕ} {w₀ : Tally} {c₀ : Tables} {at : ℕ} {w : Tally} {c : Tables}
    (s : Judging o n part w₀ c₀ at w c) (bytes : Bytes part) where
  -- ---- a tuple dropped
  module _ (e : is_dropped o (drop at part) ≡ true) where
    pub dropped-front : Front o (drop at part)
    dropped-front = here o part at bytes (dropped-tuple o (drop at part) e)

    pub judging_dropped : (m : ℕ) → m ≡ len_at o (drop at part) → Judging o n part w₀ c₀ (at + m) w c
    judging_dropped m a =
        let p = dropped-front in
        let l : drop (at + m) part ≡ p.left = ap (λ (k : ℕ). drop (at + k) part) a ∙ left_is o part at p in
        let k : kept_of o (drop at part) ≡ kept_of o (drop (at + m) part) =
        all-dropped o (drop at part) p (dropped-class o (drop at part) e) ∙ ap (kept_of o) (sym l) in
        record {
          within = omega (arith, ends-within o part at p s.within, a);
          ready = s.ready;
          place = ap (λ (x : List ℕ). w.at + length x) (sym k) ∙ s.place;
          rest = ap (rest_in o) l ∙ sym p.rest ∙ s.rest;
          same = λ behind. s.same behind ∙ ap (λ (x : List ℕ). left o n (course_of w c) (x ++ behind)) k;
        }

  -- ---- the part's end
  pub judging_end : length part ≤ at → Passed o n part w₀ c₀ w c
  judging_end h =
      let z : drop at part ≡ [] = drop_of_length-le part h in
      let k : kept_of o (drop at part) ≡ [] = ap (kept_of o) z ∙ kept-none o in
      record {
        ready = s.ready;
        at = omega (arith, s.place, ap length k);
        divides = sym s.rest ∙ ap (rest_in o) z ∙ rest-none o;
        same = λ behind. s.same behind ∙ ap (λ (y : List ℕ). left o n (course_of w c) (y ++ behind)) k;
      }

-- ---- from the index on
module _ (o : Bool) (n : ℕ) (z : List ℕ) (m : ℕ) (w : Tally) (c : Tables) where
  -- where it would stand first, 7
  pub back-first : w.count ≡ 0 → SaidBehind o n z m w c (Refused 7 w.at)
  back-first e x g =
      let v = course_of w c in
      let r = frame o x ++ kept_of o z in
      let judged_7 : judgement o v x ≡ Fault 7 0 =
      ap₂ (λ (b : Bool) (d : Digest). both (judged (sign_rules b d))
      (both (judged (head_rules o x)) (both (judged (link_rules v.links (digest o x).link)) (judged (inner_rules o x)))))
      (eq-eqb w.count 0 e) g.silent in
      let stops : turn_on o n v r ≡ stop (Refused 7 w.at) =
      turn-on-parts o n v r
      ∙ (λ i. after o n v (tup_frame o x g.framed (kept_of o z) i) (size-frame o x g.framed (kept_of o z) i + 10)
      (both (fine-frame o x (kept_of o z) g.framed i) (judgement o v (tup_frame o x g.framed (kept_of o z) i))))
      ∙ ap (after o n v x (length_of x)) judged_7
      ∙ ap (λ (p : ℕ). stop (Refused 7 p)) (omega arith) in
      sym (left-stop o n v r (Refused 7 w.at) stops)

  -- past it,
  module _ (u : Tally) (p : PassedIndex w m u) where
    past_index_lem : (x : Tup) → IndexOf o m x → left o n (course_of w c) (frame o x ++ kept_of o z) ≡ left o n (course_of u c) (kept_of o z)
    past_index_lem x g =
        left-past o n (course_of w c) (course_of u c) x (kept_of o z) g.framed
        (p.turns o n (frame o x ++ kept_of o z) c (framing-frame o x g.framed (kept_of o z))
        (ap (λ (k : ℕ). k + 10) (size-frame o x g.framed (kept_of o z)) ∙ g.size)
        (ap (in_class Types.index) (kind-frame o x g.framed (kept_of o z)) ∙ g.class))

    -- the answer given in the last part, or none given: 4
    pub back_done : (a : Answer) → Answered o n z u c a → SaidBehind o n z m w c a
    back_done a t x g =
        sym (past_index_lem x g ∙ ap (left o n (course_of u c)) (sym (append-nil (kept_of o z))) ∙ t [] (λ e. refl))

    pub back_open : (v : Tally) (d : Tables) → Passed o n z u c v d → SaidBehind o n z m w c (Refused 4 v.at)
    back_open v d t x g =
        sym (past_index_lem x g
        ∙ ap (left o n (course_of u c)) (sym (append-nil (kept_of o z)))
        ∙ t.same []
        ∙ left-stop o n (course_of v d) [] (Refused 4 v.at) (nothing_left o n (course_of v d)))

-- ---- the index is one
pub index_of : (o : Bool) (a b z : List ℕ) (m : ℕ) → m ≡ length_of (index_in o a b z) → IndexOf o m (index_in o a b z)
unfolding in_class classes
index_of o a b z m e =
    let ks = types_of (all_of o a b z) in
    record { framed = index-framed o ks (few-types (all_of o a b z)); class = refl; silent = index-digest o ks; size = sym e }

-- ---- the whole result
pub first_small_lem : (o : Bool) (a b z : List ℕ) (n : ℕ) → n ≡ length (result_of o a b z) → n ≤ limit → (w : Tally) → w ≡ tally_begin
    → w.at + length (kept_of o a) ≤ limit
first_small_lem o a b z n hn small w e = omega (arith, small, hn, length-result o a b z, ap (λ (w : Tally). w.at) e)

module _ (o : Bool) (a b z : List ℕ) (n : ℕ) (hn : n ≡ length (result_of o a b z)) (small : n ≤ limit) (w₀ : Tally) (c₀ : Tables)
    (e₀ : w₀ ≡ tally_begin) where
  abbrev tail : List ℕ
  tail = tail_of o a b z

  begun : check_file (result_of o a b z) ≡ left o n (course_of w₀ c₀) (kept_of o a ++ (kept_of o b ++ tail))
  unfolding result_of
  begun =
      let r = kept_of o a ++ (kept_of o b ++ tail) in
      file-left o r (subst (λ (k : ℕ). k ≤ limit) hn small)
      ∙ ap₂ (λ (k : ℕ) (w : Tally). left o k (course_of w c₀) r) (sym hn) (sym e₀)

  pub first_done : rest_in o a ≡ [] → (x : Answer) → Answered o n a w₀ c₀ x → x ≡ check_file (result_of o a b z)
  first_done da x t =
      sym (begun ∙ t (kept_of o b ++ tail) (λ e. absurd (true≢false (ap (λ (l : List ℕ). eqb (length l) 0) (sym da) ∙ e))))

  module _ (w : Tally) (c : Tables) (p : Passed o n a w₀ c₀ w c) where
    passed_first : check_file (result_of o a b z) ≡ left o n (course_of w c) (kept_of o b ++ tail)
    passed_first = begun ∙ p.same (kept_of o b ++ tail)

    pub second-small : w.at + length (kept_of o b) ≤ limit
    second-small = omega (arith, small, hn, length-result o a b z, ap (λ (w : Tally). w.at) e₀, p.at)

    pub second-done : (x : Answer) → Answered o n b w c x → x ≡ check_file (result_of o a b z)
    second-done x t = sym (passed_first ∙ t tail (tail_none o a b z))

    module _ (v : Tally) (d : Tables) (q : Passed o n b w c v d) (m : ℕ) (hm : m ≡ length_of (index_in o a b z)) where
      pub behind-small : v.at + m + length (kept_of o z) ≤ limit
      behind-small =
          omega (
            arith,
            small,
            hn,
            length-result o a b z,
            ap (λ (w : Tally). w.at) e₀,
            p.at,
            q.at,
            hm,
            ap length (tail-whole o a b z q.divides),
            length-append (frame o (index_in o a b z)) (kept_of o z),
            length-frame o (index_in o a b z),
          )

      pub behind-done : (x : Answer) → SaidBehind o n z m v d x → x ≡ check_file (result_of o a b z)
      behind-done x t =
          t (index_in o a b z) (index_of o a b z m hm)
          ∙ sym (passed_first ∙ q.same tail ∙ ap (left o n (course_of v d)) (tail-whole o a b z q.divides))

-- ---- what was handed back, once it is matched
pub part_to : (o : Bool) (n : ℕ) (part : List ℕ) (w : Tally) (c : Tables) (r x : Turned) (d : Tables) → PartTo o n part w c r d → r ≡ x
    → PartTo o n part w c x d
part_to o n part w c r x d g e = subst (λ (y : Turned). PartTo o n part w c y d) e g
