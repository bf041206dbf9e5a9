-- What the code says of the tuple at a place: how far behind its first byte a fault is, and that a fine verdict tells that there is
-- room for what it declares. Assumes nothing.
use mathlib.Core.Path.{◌≡◌, refl, sym, ap, subst, ◌∙◌}
use mathlib.Core.List.{List, [], ◌∷◌, ◌++◌}
use mathlib.Core.Bool.{Bool, true, false, cond, ◌&&◌, ◌||◌, true≢false}
use Prim.Native.Nat.{ℕ, ◌+◌, ◌-◌, ◌*◌, ◌/◌, ◌%◌, ◌≤◌, ◌<◌}
use native.Mathlib.Nat.{le_trans, mul-le-mul_left, mul_comm, div-mul-le_self}
use native.Mathlib.Omega.{arith}
use borrow.Author.Tests.{leb-true, leb-false, not-false}
use lib.Dec.{eqb, leb, lit≤}
use lib.ListN.{length, drop, length-take, length-drop}
use Rattle.rules.specs.Rules.{◌⇒◌}
use Rattle.rules.proofs.Bools.{both_true, same_arms}
use Rattle.layout.specs.Verdict.{Fine, Fault}
use Rattle.layout.specs.Families.{Family, value_bytes, sample_bytes}
use Rattle.layout.specs.Answers.{both, judged, ◌byte◌}
use Rattle.layout.specs.declared.Says.{Says}
use Rattle.layout.specs.declared.Says.TheVariants as says
use Rattle.layout.specs.Types
use Rattle.layout.specs.Types.{Shape, indexed, row, uncompressed, compressed, unlisted, classes, in_class, listings, shape_of, says_of}
use Rattle.layout.proofs.Tables.{alike_all}
use Rattle.layout.proofs.Verdicts.{both_left, both_right, passes, Near, AllNear, near-rules, near_append, near-both, near_fault}
use Rattle.turning.specs.Rows.{Value, values_of}
use Rattle.frame.specs.Frames.{Tup, allowed, size_at, len_at, tup_at, frame_rules, framing}
use Rattle.samples.specs.Words.{all_words, all_samples}
use Rattle.samples.specs.Runs.{first_bad}
use Rattle.samples.specs.Judging.{first_drop}
use Rattle.samples.proofs.Rising.{drop-most}
use Rattle.samples.proofs.Turning.{length-all}
use Rattle.samples.proofs.Words.{samples-many}
use Rattle.samples.proofs.Held.{held-few}
use Rattle.samples.proofs.Values.{bad-most}
use Rattle.links.specs.Links
use Rattle.links.specs.declared.Sounder.{Sounder}
use Rattle.links.specs.declared.Channel.{Channel}
use Rattle.links.specs.Links.{Link, most_sounders, most_channels, sign_rules, rules_among}
use Rattle.content.specs.Items.{row_in, item_by, item_of, unless, link_by, number_at, digest_of, digest_item, digest, head_rules, inner_by}
use Rattle.content.specs.Items.{inner_rules}
use Rattle.content.specs.Pings.{head_u, head_c, part_in, count_in, words_in, content_u}
use Rattle.intake.specs.Alone.{alone}
use Rattle.intake.specs.inner.Tallies.{head_verdict, link_verdict, inner_verdict, own_verdict, turn_verdict}
use Rattle.intake.proofs.Turns.{emptied}
use Rattle.intake.proofs.Alone.{alone-parts}

-- ---- how far behind the tuple's first byte a fault is: no farther than a tuple's most bytes and a ping's header
abbrev pub far : ℕ
far = 262172

here-near : 0 ≤ far
here-near = lit≤ tt

link_near : (ss : List Sounder) (cs : List Channel) (l : Link) → AllNear far (rules_among ss cs l)
link_near ss cs Links.none = tt
link_near ss cs (Links.sounder s) = (here-near, (here-near, tt))
link_near ss cs (Links.channel c) = (here-near, (here-near, (here-near, tt)))
link_near ss cs (Links.names c) = (here-near, tt)

module _ (o : Bool) (r : List ℕ) where
  abbrev front : Tup
  front = tup_at o r

  head_near : AllNear far (head_rules o front)
  head_near = (here-near, (here-near, tt))

  -- a tuple that is framed has its most bytes at most, and its data hold no more words
  short : framing o r ≡ Fine → length front.body ≤ 262134
  unfolding framing allowed
  short e =
      let a = not-false _ (passes (frame_rules o r) e).1.0 in
      let most = leb-true (len_at o r) 262144 (both_true (eqb (len_at o r % 4) 0 && leb 16 (len_at o r)) (leb (len_at o r) 262144) a).1 in
      omega (arith, most, length-take (size_at o r) (drop 6 r))

  part-few : (h : ℕ) → length (part_in h front.body) ≤ length front.body
  unfolding part_in
  part-few h =
      let d = front.body in
      omega (arith, length-take (length d - (h + 4)) (drop h d), length-drop h d)

  -- a sample or a word of k bytes of which no more are than fit stands within them
  within : (k i m : ℕ) → i ≤ m / k → k * i ≤ m
  within k i m h = le_trans (mul-le-mul_left k h) (omega (arith, div-mul-le_self m k, mul_comm k (m / k)))

  drop-within : (f : Family) → sample_bytes f * first_drop 0 (all_samples f o (part_in head_u front.body)) ≤ length front.body
  drop-within f =
      let d = part_in head_u front.body in
      let i = first_drop 0 (all_samples f o d) in
      le_trans (within (sample_bytes f) i (length d) (omega (arith, drop-most (all_samples f o d) 0, samples-many f o d))) (part-few head_u)

  bad-within : (f : Family) → value_bytes f * first_bad f (words_in f o front.body) ≤ length front.body
  unfolding words_in
  bad-within f =
      let d = part_in head_c front.body in
      let all = all_words (value_bytes f) o d in
      let ws = words_in f o front.body in
      le_trans
      (within (value_bytes f) (first_bad f ws) (length d)
      (omega (arith, bad-most f ws, held-few f (count_in o front.body) all, length-all (value_bytes f) o d)))
      (part-few head_c)

  inner-near : framing o r ≡ Fine → AllNear far (inner_rules o front)
  unfolding content_u
  inner-near e = by_shape (shape_of front.kind)
    where
      by_shape : (q : Shape) → AllNear far (inner_by q o front)
      by_shape indexed = tt
      by_shape (row fs x) = tt
      by_shape (uncompressed f) = (here-near, (omega (arith, drop-within f, short e), tt))
      by_shape (compressed f) = (here-near, (omega (arith, bad-within f, short e), (lit≤ tt, tt)))
      by_shape unlisted = tt

  pub own-near : framing o r ≡ Fine → Near far (own_verdict o front)
  unfolding own_verdict
  own-near e =
      near-rules far (head_rules o front ++ inner_rules o front)
      (near_append far (head_rules o front) (inner_rules o front) head_near (inner-near e))

  frame-near : Near far (framing o r)
  unfolding framing
  frame-near = near-rules far (frame_rules o r) (here-near, (here-near, (here-near, (here-near, tt))))

  pub alone-near : Near far (alone o r)
  alone-near = subst (Near far) (sym (alone-parts o r)) (near-both far (framing o r) (own_verdict o front) frame-near own-near)

  module _ (first : Bool) (ss : List Sounder) (cs : List Channel) where
    turn_near : Near far (turn_verdict o first ss cs r)
    unfolding turn_verdict head_verdict link_verdict inner_verdict
    turn_near =
        let sign = judged (sign_rules first (digest o front)) in
        let head = judged (head_rules o front) in
        let link = judged (rules_among ss cs (digest o front).link) in
        let inner = judged (inner_rules o front) in
        near-both far (emptied r) (both (framing o r) (both (both sign head) (both link inner)))
        (near-rules far ((eqb (length r) 0 ⇒ 4 byte 0) ∷ []) (here-near, tt))
        (λ _. near-both far (framing o r) (both (both sign head) (both link inner)) frame-near
        (λ e. near-both far (both sign head) (both link inner)
        (near-both far sign head (near-rules far (sign_rules first (digest o front)) (here-near, tt))
        (λ _. near-rules far (head_rules o front) head_near))
        (λ _. near-both far link inner (near-rules far (rules_among ss cs (digest o front).link) (link_near ss cs (digest o front).link))
        (λ _. near-rules far (inner_rules o front) (inner-near e)))))

    pub fault_near : (c p : ℕ) → turn_verdict o first ss cs r ≡ Fault c p → p ≤ far
    fault_near c p h = near_fault far turn_near h

-- ---- a fine verdict, part by part
pub record FineParts (o first : Bool) (ss : List Sounder) (cs : List Channel) (r : List ℕ) : Type 0 where
  pub framed : framing o r ≡ Fine
  pub headed : head_verdict o first (tup_at o r) ≡ Fine
  pub linked : link_verdict o (tup_at o r) ss cs ≡ Fine

pub fine-parts : (o first : Bool) (ss : List Sounder) (cs : List Channel) (r : List ℕ) → turn_verdict o first ss cs r ≡ Fine
    → FineParts o first ss cs r
unfolding turn_verdict
fine-parts o first ss cs r e =
    let head = head_verdict o first (tup_at o r) in
    let link = link_verdict o (tup_at o r) ss cs in
    let a = both_right (emptied r) _ e in
    let b = both_right (framing o r) _ a in
    record { framed = both_left (framing o r) _ a; headed = both_left head _ b; linked = both_left link _ (both_right head _ b) }

-- on a sounder or a channel it tells that there is room for one
pub sounder-room : (ss : List Sounder) (cs : List Channel) (s : Sounder) → judged (rules_among ss cs (Links.sounder s)) ≡ Fine
    → length ss < most_sounders
sounder-room ss cs s e = leb-false most_sounders _ (passes (rules_among ss cs (Links.sounder s)) e).1.0

pub channel-room : (ss : List Sounder) (cs : List Channel) (c : Channel) → judged (rules_among ss cs (Links.channel c)) ≡ Fine
    → length cs < most_channels
channel-room ss cs c e = leb-false most_channels _ (passes (rules_among ss cs (Links.channel c)) e).1.0

-- ---- what a tuple declares
-- a link that declares nothing
abbrev pub Quiet : Link → Type 0
Quiet Links.none = Unit {0}
Quiet (Links.sounder s) = ⊥
Quiet (Links.channel c) = ⊥
Quiet (Links.names c) = Unit {0}

quiet-unless : (b : Bool) (l : Link) → Quiet l → Quiet (unless b l)
quiet-unless true l q = tt
quiet-unless false l q = q

-- a type that declares nothing
abbrev pub QuietBy : Says → Type 0
QuietBy says.Nothing = Unit {0}
QuietBy (says.Sounder m) = ⊥
QuietBy (says.Channel m) = ⊥
QuietBy says.Names = Unit {0}
QuietBy says.NamesOrAll = Unit {0}

-- none of another class than a sounder's or a channel's declares: one test over the listed types
abbrev pub of_declaring : ℕ → Bool
of_declaring k = in_class Types.sounder k || in_class Types.channel k

is_quiet : Says → Bool
is_quiet says.Nothing = true
is_quiet (says.Sounder m) = false
is_quiet (says.Channel m) = false
is_quiet says.Names = true
is_quiet says.NamesOrAll = true

quiet_by : (a : Says) → is_quiet a ≡ true → QuietBy a
unfolding is_quiet
quiet_by says.Nothing e = tt
quiet_by (says.Sounder m) e = true≢false (sym e)
quiet_by (says.Channel m) e = true≢false (sym e)
quiet_by says.Names e = tt
quiet_by says.NamesOrAll e = tt

pub quiet-class : (k : ℕ) → of_declaring k ≡ false → QuietBy (says_of k)
unfolding is_quiet
quiet-class k e =
    quiet_by (says_of k)
    (ap (λ (b : Bool). cond b true (is_quiet (says_of k))) (sym e)
    ∙ alike_all (λ j l. cond (of_declaring j) true (is_quiet l.says)) (λ j l. true) (unfold listings in_class classes in refl)
    (λ j. same_arms (of_declaring j) true) (λ j. same_arms (of_declaring j) true) k)

-- nor is an end of file of these
pub no_end-class : (k : ℕ) → of_declaring k ≡ true → k ≡ 65534 → ⊥
unfolding in_class classes
no_end-class k e q = true≢false (sym e ∙ ap of_declaring q)

quiet_row : (a : Says) → QuietBy a → (vs : List Value) → Quiet (link_by a vs)
quiet_row says.Nothing q vs = tt
quiet_row (says.Sounder m) q vs = absurd q
quiet_row (says.Channel m) q vs = absurd q
quiet_row says.Names q vs = tt
quiet_row says.NamesOrAll q vs = quiet-unless (eqb (number_at vs 2) 65535) (Links.names (record { 0 = number_at vs 2 })) tt

pub quiet : (o : Bool) (t : Tup) → QuietBy (says_of t.kind) → Quiet (digest o t).link
unfolding item_of digest_of
quiet o t q = by_shape (shape_of t.kind)
  where
    by_shape : (h : Shape) → Quiet (digest_item (item_by h o t)).link
    by_shape indexed = tt
    by_shape (row fs x) = quiet_row (says_of t.kind) q (values_of o (row_in fs x (length t.body)) t.body)
    by_shape (uncompressed f) = tt
    by_shape (compressed f) = tt
    by_shape unlisted = tt
