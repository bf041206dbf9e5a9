-- The rules of a ping's samples told from weights. Assumes nothing.
use mathlib.Core.Path.{◌≡◌, refl, sym, ap, subst, ◌∙◌}
use mathlib.Core.Bool.{Bool, true, false, not, ◌&&◌, ◌||◌, or-false}
use mathlib.Core.List.{List, [], ◌∷◌}
use Prim.Native.Nat.{ℕ, zero, suc, ◌+◌, ◌-◌, ◌*◌, ◌/◌, ◌≤◌, ◌<◌}
use native.Mathlib.Nat.{mul-div_cancel_left}
use native.Mathlib.Omega.{arith}
use borrow.Author.Tests.{lt-ltb, le-ltb, lt-leb, eq-eqb, ne_eqb, eqb-true, eqb-false, leb-true, leb-false, not-true, not-false}
use mir.Val.{bool_byte}
use lib.Dec.{eqb, leb, ltb, lit<}
use lib.ListN.{length, take, drop, length-drop}
use lib.Seq.{take-take, length-take-le}
use Rattle.rules.specs.Rules.{◌⇒◌}
use Rattle.rules.proofs.Bools.{both_true, and_false, and_true}
use Rattle.order.specs.Order.{num_of}
use Rattle.layout.specs.Answers.{judged, Breach}
use Rattle.layout.specs.Families.{Family, wide, value_bytes, number_bytes, sample_bytes, radix_of, is_bad}
use Rattle.samples.specs.Words.{words, all_words, sample_of, samples, all_samples}
use Rattle.samples.specs.Runs.{is_run, values, first_bad}
use Rattle.samples.specs.Values.{front, has_space, held_words}
use Rattle.samples.specs.Judging.{most, first_drop, dropping, any_bad, word_rules, judged_words, judged_samples}
use Rattle.samples.specs.inner.Narrow.{words_by}
use Rattle.samples.proofs.Runs.{by_bool}
use Rattle.samples.proofs.Values.{values-value}
use Rattle.samples.proofs.Judging.{any_drop, values_cons, bad_cons, drops_later, drops_cons}
use Rattle.samples.proofs.Held.{held-front, held_all}
use Rattle.samples.proofs.Blocks.{drop-take, words_take}
use Rattle.samples.proofs.Words.{samples-many}
use Rattle.samples16.proofs.Laws.{front-words}
use Rattle.weights.specs.declared.Kind.{Kind}
use Rattle.weights.specs.declared.Kind.TheVariants.{C32, C16, CE16, Pairs, Shorts, Triples}
use Rattle.weights.specs.inner.Weights.{weighed, word_weight, by_words, by_drops, step_by, There, weight_at}
use Rattle.layout.specs.Answers.{is_fine}
use Rattle.weights.specs.inner.Judging.{family_by, Rising, narrow_by}

-- ---- three rules, and two
fine_three : (a b c : Bool) (x y z : Breach) → is_fine (judged ((a ⇒ x) ∷ (b ⇒ y) ∷ (c ⇒ z) ∷ [])) ≡ (not a && (not b && not c))
fine_three true b c x y z = refl
fine_three false true c x y z = refl
fine_three false false true x y z = refl
fine_three false false false x y z = refl

fine-two : (a b : Bool) (x y : Breach) → is_fine (judged ((a ⇒ x) ∷ (b ⇒ y) ∷ [])) ≡ (not a && not b)
fine-two true b x y = refl
fine-two false true x y = refl
fine-two false false x y = refl

-- ---- words: their values, and those outside the limits, each of which is heavy
abbrev weights : Family → List ℕ → ℕ
weights f [] = 0
weights f (w ∷ ws) = word_weight f w + weights f ws

abbrev bads : Family → List ℕ → ℕ
bads f [] = 0
bads f (w ∷ ws) = bool_byte (is_bad f w) + bads f ws

weights-are : (f : Family) (ws : List ℕ) → weights f ws ≡ values (radix_of f) ws + 32765 * bads f ws
unfolding word_weight values
weights-are f [] = refl
weights-are f (w ∷ ws) = omega (arith, weights-are f ws, values_cons (radix_of f) w ws)

one_more : (b : Bool) (n : ℕ) → not (eqb (bool_byte b + n) 0) ≡ (b || not (eqb n 0))
one_more true n = ap not (ne_eqb (1 + n) 0 (λ e. omega arith))
one_more false n = let z : 0 + n ≡ n = omega arith in ap (λ (i : ℕ). not (eqb i 0)) z

bads-are : (f : Family) (ws : List ℕ) → any_bad f ws ≡ not (eqb (bads f ws) 0)
unfolding first_bad
bads-are f [] = refl
bads-are f (w ∷ ws) = bad_cons f w ws ∙ ap (λ (b : Bool). is_bad f w || b) (bads-are f ws) ∙ sym (one_more (is_bad f w) (bads f ws))

-- what the rules ask of values and of words outside the limits is one test of the weight
tested : (count v b w : ℕ) → w ≡ v + 32765 * b
    → (not (ltb most v) && (not (not (eqb b 0)) && not (not (eqb count v)))) ≡ (leb count most && eqb count w)
tested count v b w e =
    by_bool (eqb b 0)
    (λ z. let zero-bad = eqb-true b 0 z in
    by_bool (eqb count v)
    (λ q. let same = eqb-true count v q in
    let here : eqb count w ≡ true = eq-eqb count w (omega arith) in
    by_bool (leb count most)
    (λ l. let g = leb-true count most l in rw (z, q, here, l, le-ltb most v (omega arith)))
    (λ l. let g = leb-false count most l in rw (z, q, here, l, lt-ltb most v (omega arith))))
    (λ q. let other = eqb-false count v q in
    let here : eqb count w ≡ false = ne_eqb count w (λ (x : count ≡ w). other (omega arith)) in
    rw (z, q, here) (and_false (not (ltb most v)) refl ∙ sym (and_false (leb count most) refl))))
    (λ z. let some = eqb-false b 0 z in
    by_bool (leb count most)
    (λ l. let g = leb-true count most l in
    let here : eqb count w ≡ false = ne_eqb count w (λ (x : count ≡ w). some (omega arith)) in
    rw (z, l, here) (and_false (not (ltb most v)) refl))
    (λ l. rw (z, l) (and_false (not (ltb most v)) refl)))

fine-words : (f : Family) (count : ℕ) (ws : List ℕ) → is_fine (judged (word_rules f count ws)) ≡ (leb count most && eqb count (weights f ws))
fine-words f count ws =
    fine_three (ltb most (values (radix_of f) ws)) (any_bad f ws) (not (eqb count (values (radix_of f) ws))) _ _ _
    ∙ ap (λ (b : Bool). not (ltb most (values (radix_of f) ws)) && (not b && not (not (eqb count (values (radix_of f) ws))))) (bads-are f ws)
    ∙ tested count (values (radix_of f) ws) (bads f ws) (weights f ws) (weights-are f ws)

-- words of a part, and those of the file from its place on
weights-words : (f : Family) (o : Bool) (n : ℕ) (d : List ℕ) → weights f (words (value_bytes f) o n d) ≡ weighed (by_words f o)
    (value_bytes f) n d
unfolding words weighed by_words
weights-words f o zero d = refl
weights-words f o (suc n) d = omega (arith, weights-words f o n (drop (value_bytes f) d))

part-words : (k : ℕ) → 0 < k → (o : Bool) (n : ℕ) (d : List ℕ) → k * n ≤ length d → all_words k o (take (k * n) d) ≡ words k o n d
unfolding all_words
part-words k pos o n d h = rw (length-take-le (k * n) d h, mul-div_cancel_left n pos) (words_take k o n d)

-- ---- a C-32 ping's words: none is a space
pub fine-wide : (o : Bool) (count n : ℕ) (d : List ℕ) → 4 * n ≤ length d
    → is_fine (judged_words wide o count (take (4 * n) d)) ≡ (leb count most && eqb count (weighed (by_words wide o) 4 n d))
unfolding judged_words held_words has_space
fine-wide o count n d h =
    rw (part-words 4 (lit< tt) o n d h)
    (fine-words wide count (words 4 o n d) ∙ ap (λ (w : ℕ). leb count most && eqb count w) (weights-words wide o n d))

-- ---- C-16 and CE-16: a run is never outside the limits
run-good : (b : Bool) (w : ℕ) → is_run 256 w ≡ true → is_bad (words_by b) w ≡ false
unfolding is_run is_bad
run-good true w e = let q = eqb-true (w / 256) 255 e in rw (lt-leb w 0x7fff (omega arith)) (and_false (leb 0x7f00 w) refl)
run-good false w e = let q = eqb-true (w / 256) 255 e in rw (lt-leb w 0x8100 (omega arith)) (and_false (leb 0x7f00 w) refl)

-- a last word that is no value weighs nothing
last-run : (b : Bool) (w : ℕ) → values 256 (w ∷ []) ≡ 0 → word_weight (words_by b) w ≡ 0
unfolding word_weight values
last-run true w e =
    by_bool (is_run 256 w) (λ r. rw (r, run-good true w r)) (λ r. let z = values-value 256 w [] r in absurd (omega (arith, e, z)))
last-run false w e =
    by_bool (is_run 256 w) (λ r. rw (r, run-good false w r)) (λ r. let z = values-value 256 w [] r in absurd (omega (arith, e, z)))

front_same : (b : Bool) (ws : List ℕ) → values 256 ws ≡ values 256 (front ws) → weights (words_by b) ws ≡ weights (words_by b) (front ws)
unfolding front values
front_same b [] e = refl
front_same b (w ∷ []) e = omega (arith, last-run b w e)
front_same b (w ∷ v ∷ ws) e =
    let rest = front_same b (v ∷ ws) (omega (arith, e, values_cons 256 w (v ∷ ws), values_cons 256 w (front (v ∷ ws)))) in
    ap (λ (n : ℕ). word_weight (words_by b) w + n) rest

-- both have words of two bytes, and one radix
narrow-are : (b : Bool) (count : ℕ) (ws : List ℕ)
    → has_space (words_by b) count ws ≡ (not (eqb count (values 256 ws)) && eqb count (values 256 (front ws)))
unfolding has_space
narrow-are true count ws = refl
narrow-are false count ws = refl

narrow-weights : (b : Bool) (ws : List ℕ) → weights (words_by b) ws ≡ values 256 ws + 32765 * bads (words_by b) ws
narrow-weights true ws = weights-are _ ws
narrow-weights false ws = weights-are _ ws

-- by the weight of all words, or of all but the last
module _ (b : Bool) (count : ℕ) (ws : List ℕ) where
  abbrev all : ℕ
  all = weights (words_by b) ws

  abbrev before : ℕ
  before = weights (words_by b) (front ws)

  with_space : has_space (words_by b) count ws ≡ true → leb count most ≡ true → eqb count all ≡ false
  with_space t l =
      let g = leb-true count most l in
      let h = both_true (not (eqb count (values 256 ws))) (eqb count (values 256 (front ws))) (sym (narrow-are b count ws) ∙ t) in
      let other = eqb-false count (values 256 ws) (not-true _ h.0) in
      ne_eqb count all (λ (x : count ≡ all). other (omega (arith, narrow-weights b ws)))

  no_space : has_space (words_by b) count ws ≡ false → leb count most ≡ true → eqb count before ≡ true → eqb count all ≡ true
  no_space t l q =
      let g = leb-true count most l in
      let e = eqb-true count before q in
      let v : count ≡ values 256 (front ws) = omega (arith, narrow-weights b (front ws)) in
      let z : eqb count (values 256 ws) ≡ true =
      not-false _ (sym (and_true (not (eqb count (values 256 ws))))
      ∙ ap (λ (x : Bool). not (eqb count (values 256 ws)) && x) (sym (eq-eqb count (values 256 (front ws)) v))
      ∙ sym (narrow-are b count ws)
      ∙ t) in
      let same = front_same b ws (sym (eqb-true count (values 256 ws) z) ∙ v) in
      eq-eqb count all (e ∙ sym same)

  held-fine : is_fine (judged (word_rules (words_by b) count (held_words (words_by b) count ws)))
      ≡ (leb count most && (eqb count before || eqb count all))
  held-fine =
      by_bool (has_space (words_by b) count ws)
      (λ t. ap (λ (l : List ℕ). is_fine (judged (word_rules (words_by b) count l))) (held-front (words_by b) count ws t)
      ∙ fine-words (words_by b) count (front ws)
      ∙ by_bool (leb count most) (λ l. rw (l, with_space t l) (sym (or-false (eqb count before)))) (λ l. rw l))
      (λ t. ap (λ (l : List ℕ). is_fine (judged (word_rules (words_by b) count l))) (held_all (words_by b) count ws t)
      ∙ fine-words (words_by b) count ws
      ∙ by_bool (leb count most)
      (λ l. by_bool (eqb count before) (λ q. rw (l, q, no_space t l q)) (λ q. rw (l, q)))
      (λ l. rw l))

fine-narrow : (b o : Bool) (count n : ℕ) (d : List ℕ) → 2 * suc n ≤ length d
    → is_fine (judged_words (words_by b) o count (take (2 * suc n) d))
    ≡ (leb count most && (eqb count (weighed (by_words (words_by b) o) 2 n d) || eqb count (weighed (by_words (words_by b) o) 2 (suc n) d)))
unfolding judged_words
fine-narrow true o count n d h =
    rw (part-words 2 (lit< tt) o (suc n) d h)
    (held-fine true count (words 2 o (suc n) d)
    ∙ rw (← front-words 2 o n d, weights-words (words_by true) o n d, weights-words (words_by true) o (suc n) d))
fine-narrow false o count n d h =
    rw (part-words 2 (lit< tt) o (suc n) d h)
    (held-fine false count (words 2 o (suc n) d)
    ∙ rw (← front-words 2 o n d, weights-words (words_by false) o n d, weights-words (words_by false) o (suc n) d))

by_front : (b o : Bool) (count n : ℕ) (d : List ℕ) → 1 ≤ n → 2 * n ≤ length d
    → is_fine (judged_words (words_by b) o count (take (2 * n) d))
    ≡ (leb count most && (eqb count (weighed (by_words (words_by b) o) 2 (n - 1) d) || eqb count (weighed (by_words (words_by b) o) 2 n d)))
by_front b o count n d h l =
    let e : suc (n - 1) ≡ n = omega arith in
    subst (λ (i : ℕ). is_fine (judged_words (words_by b) o count (take (2 * i) d))
    ≡ (leb count most && (eqb count (weighed (by_words (words_by b) o) 2 (n - 1) d) || eqb count (weighed (by_words (words_by b) o) 2 i d))))
    e (fine-narrow b o count (n - 1) d (rw e l))

-- ---- numbers that rise: the samples of a part, and the numbers of the file from its place on
module _ (f : Family) (o : Bool) where
  abbrev number_of : List ℕ → ℕ
  number_of d = num_of o (take (number_bytes f) d)

  -- behind the number at the front, of n samples
  drops_weighed : (n m : ℕ) (d : List ℕ) → sample_bytes f * n ≤ m
      → any_drop (number_of d + 1) (samples f o n (take m (drop (sample_bytes f) d))) ≡ not (eqb (weighed (by_drops f o) (sample_bytes f) n d) 0)
  unfolding samples weighed by_drops first_drop
  drops_weighed zero m d h = refl
  drops_weighed (suc n) m d h =
      let s = sample_bytes f in
      let next = drop s d in
      let rest = samples f o n (drop s (take m next)) in
      let x = sample_of f o (take m next) in
      let e : x.0 ≡ number_of next = ap (num_of o) (take-take (number_bytes f) m next (omega arith)) in
      let whole : m ≡ s + (m - s) = omega arith in
      let cut : drop s (take m next) ≡ take (m - s) (drop s next) =
      ap (λ (i : ℕ). drop s (take i next)) whole ∙ drop-take s (m - s) next in
      drops_cons (number_of d) x rest
      ∙ (λ i. leb (e i) (number_of d) || any_drop (e i + 1) (samples f o n (cut i)))
      ∙ ap (λ (b : Bool). leb (number_of next) (number_of d) || b) (drops_weighed n (m - s) next (omega arith))
      ∙ sym (one_more (leb (number_of next) (number_of d)) (weighed (by_drops f o) s n next))

  -- of a part with suc n samples
  part_drops : (n m : ℕ) (d : List ℕ) → sample_bytes f * suc n ≤ m
      → dropping (samples f o (suc n) (take m d)) ≡ not (eqb (weighed (by_drops f o) (sample_bytes f) n d) 0)
  unfolding samples
  part_drops n m d h =
      let s = sample_bytes f in
      let x = sample_of f o (take m d) in
      let rest = samples f o n (drop s (take m d)) in
      let e : x.0 ≡ number_of d = ap (num_of o) (take-take (number_bytes f) m d (omega arith)) in
      let whole : m ≡ s + (m - s) = omega arith in
      let cut : drop s (take m d) ≡ take (m - s) (drop s d) = ap (λ (i : ℕ). drop s (take i d)) whole ∙ drop-take s (m - s) d in
      drops_later 0 x rest (omega arith)
      ∙ (λ i. any_drop (e i + 1) (samples f o n (cut i)))
      ∙ drops_weighed n (m - s) d (omega arith)

  fine-samples : (n size : ℕ) (d : List ℕ) → size ≤ length d → size / sample_bytes f ≡ suc n → sample_bytes f * suc n ≤ size
      → is_fine (judged_samples f o (take size d)) ≡ (leb (suc n) most && eqb (weighed (by_drops f o) (sample_bytes f) n d) 0)
  unfolding judged_samples all_samples
  fine-samples n size d l e h =
      let part = take size d in
      let many : length part / sample_bytes f ≡ suc n = ap (λ (i : ℕ). i / sample_bytes f) (length-take-le size d l) ∙ e in
      fine-two (ltb most (length (all_samples f o part))) (dropping (all_samples f o part)) _ _
      ∙ (λ i. not (ltb most ((samples-many f o part ∙ many) i)) && not (dropping (samples f o (many i) part)))
      ∙ (λ i. not (ltb most (suc n)) && not (part_drops n size d h i))
      ∙ few (suc n) (eqb (weighed (by_drops f o) (sample_bytes f) n d) 0)
    where
      twice : (b : Bool) → not (not b) ≡ b
      twice true = refl
      twice false = refl

      few : (k : ℕ) (b : Bool) → (not (ltb most k) && not (not b)) ≡ (leb k most && b)
      few k b =
          by_bool (leb k most)
          (λ q. let g = leb-true k most q in rw (q, le-ltb most k g) (twice b))
          (λ q. let g = leb-false k most q in rw (q, lt-ltb most k g))

  fine-some : (size n : ℕ) (d : List ℕ) → size ≤ length d → size / sample_bytes f ≡ n → 1 ≤ n → sample_bytes f * n ≤ size
      → is_fine (judged_samples f o (take size d)) ≡ (leb n most && eqb (weighed (by_drops f o) (sample_bytes f) (n - 1) d) 0)
  fine-some size n d l e h m =
      let z : suc (n - 1) ≡ n = omega arith in
      subst (λ (i : ℕ). is_fine (judged_samples f o (take size d)) ≡ (leb i most && eqb (weighed (by_drops f o) (sample_bytes f) (n - 1) d) 0))
      z (fine-samples (n - 1) size d l (e ∙ sym z) (rw z m))

-- by the kind, of which n are there
pub rise_is : (k : Kind) (o : Bool) (f : List ℕ) (from size step n : ℕ) → step ≡ step_by k → n ≡ size / step → Rising k from size (length f)
    → is_fine (judged_samples (family_by k) o (take size (drop from f))) ≡ (leb n most && eqb (weight_at k o f from (n - 1)) 0)
rise_is k o f from size step n e z h =
    by k (subst (λ (s : ℕ). n ≡ size / s) e z) h
  where
    by : (k : Kind) → n ≡ size / step_by k → Rising k from size (length f)
        → is_fine (judged_samples (family_by k) o (take size (drop from f))) ≡ (leb n most && eqb (weight_at k o f from (n - 1)) 0)
    by C32 q h = absurd (omega (arith, h.1))
    by C16 q h = absurd (omega (arith, h.1))
    by CE16 q h = absurd (omega (arith, h.1))
    by Pairs q h = fine-some _ o size n (drop from f) (simp length-drop (omega (arith, h.2))) (sym q) (omega (arith, h.0)) (omega arith)
    by Shorts q h = fine-some _ o size n (drop from f) (simp length-drop (omega (arith, h.2))) (sym q) (omega (arith, h.0)) (omega arith)
    by Triples q h = fine-some _ o size n (drop from f) (simp length-drop (omega (arith, h.2))) (sym q) (omega (arith, h.0)) (omega arith)

-- what is there of samples, one being looked at behind
pub rise_there : (k : Kind) (from size step n total : ℕ) → step ≡ step_by k → n ≡ size / step → Rising k from size total
    → (1 ≤ n) × There k from (n - 1) total
rise_there k from size step n total e z h = by k (subst (λ (s : ℕ). n ≡ size / s) e z) h
  where
    by : (k : Kind) → n ≡ size / step_by k → Rising k from size total → (1 ≤ n) × There k from (n - 1) total
    by C32 q h = absurd (omega (arith, h.1))
    by C16 q h = absurd (omega (arith, h.1))
    by CE16 q h = absurd (omega (arith, h.1))
    by Pairs q h = omega (arith, h.0, h.2)
    by Shorts q h = omega (arith, h.0, h.2)
    by Triples q h = omega (arith, h.0, h.2)

-- of words of two bytes
pub count-is : (b o : Bool) (f : List ℕ) (from n count : ℕ) → 1 ≤ n → from + 2 * n ≤ length f
    → is_fine (judged_words (words_by b) o count (take (2 * n) (drop from f)))
    ≡ (leb count most && (eqb count (weight_at (narrow_by b) o f from (n - 1)) || eqb count (weight_at (narrow_by b) o f from n)))
count-is true o f from n count h l = by_front true o count n (drop from f) h (simp length-drop (omega arith))
count-is false o f from n count h l = by_front false o count n (drop from f) h (simp length-drop (omega arith))

pub narrow-there : (b : Bool) (from n m size : ℕ) → m ≤ n → from + 2 * n ≤ size → There (narrow_by b) from m size
narrow-there true from n m size h l = omega arith
narrow-there false from n m size h l = omega arith

-- equal either way round
pub eqb-turned : (m n : ℕ) → eqb m n ≡ eqb n m
eqb-turned m n =
    by_bool (eqb n m)
    (λ q. rw q (eq-eqb m n (sym (eqb-true n m q))))
    (λ q. rw q (ne_eqb m n (λ e. eqb-false n m q (sym e))))
