-- What the writers of uncompressed pings answer and write, over the family: by what is said of their lists. Assumes nothing.
use mathlib.Core.Path.{◌≡◌, refl, sym, ap, subst, ◌∙◌}
use mathlib.Core.Bool.{Bool, true, false, not, cond, ◌&&◌}
use mathlib.Core.List.{List, [], ◌∷◌, ◌++◌}
use mathlib.Core.Option.{none}
use Prim.Native.Nat.{ℕ, suc, ◌+◌, ◌-◌, ◌*◌, ◌≤◌, min}
use native.Mathlib.Nat.{le_trans, mul-le-mul_left}
use native.Mathlib.Omega.{arith}
use borrow.Author.Tests.{ltb-false, le-ltb, eqb-true, leb-true, not-false}
use lib.Dec.{ltb, eqb, leb}
use lib.IntN.{ℤ}
use lib.ListN.{length, replicate}
use lib.Seq.{sets}
use Rattle.rules.specs.Rules.{Rule, ◌⇒◌, First}
use Rattle.rules.proofs.Laws.{clear, first_eq}
use Rattle.rules.proofs.Bools.{both_true}
use Rattle.order.specs.Order.{pattern_of}
use Rattle.layout.specs.declared.Counts.{Counts}
use Rattle.layout.specs.Answer.{Answer}
use Rattle.layout.specs.Answer.{Accepted, Refused}
use Rattle.layout.specs.Answers.{accepting, is_accepted}
use Rattle.layout.specs.Families.{Family, wide, narrow, encoded, wide_angles, narrow_angles, type_u, sample_bytes}
use Rattle.layout.specs.Types.{ping_row}
use Rattle.turning.specs.Rows.{encode}
use Rattle.frame.specs.Frames.{length_of, frame}
use Rattle.frame.specs.inner.Framing.{opening_bytes, close_bytes}
use Rattle.frame.proofs.Frames.{length-frame}
use Rattle.samples.specs.Words.{Sample, unsampled}
use Rattle.samples.specs.Lists.{handed_bytes, paired, angled}
use Rattle.samples.specs.inner.Lists.{numbered}
use Rattle.samples.specs.Judging.{most, first_drop}
use Rattle.samples.proofs.Runs.{by_bool}
use Rattle.samples.proofs.Rising.{drop-later, drop_here}
use Rattle.samples.proofs.Apart.{length-paired, length-angled, drop-numbered}
use Rattle.content.specs.Forms.{tuple_u}
use Rattle.tuples.specs.Writers.{write_answer, Written}
use Rattle.pings.specs.declared.PingHeader.{PingHeader}
use Rattle.pings.specs.Headers.{head_of}
use Rattle.ping_writers.specs.Writers.{ping_of, rules_u, WrittenU, WrittenA}
use Rattle.ping_writers.specs.inner.Judged.{plain_size, plain_rules, plain_answer}
use Rattle.ping_writers.proofs.Storing.{length-plain, plain-stored}
use Rattle.ping_writers.proofs.Answering.{refused, written}

-- never over a tuple's most bytes
plain-small : (f : Family) (n : ℕ) → n ≤ most → plain_size (sample_bytes f) n ≤ 262144
plain-small wide n h = omega arith
plain-small narrow n h = omega arith
plain-small encoded n h = omega arith
plain-small wide_angles n h = omega arith
plain-small narrow_angles n h = omega arith

-- samples of lists of n entries each, of which i is the first number that doesn't rise
pub record Listed (s : List Sample) (n i : ℕ) : Type 0 where
  pub many : length s ≡ n
  pub first : first_drop 0 s ≡ i

-- ---- what is said of the lists of an uncompressed ping
pub plain-said : (equal : Bool) (n i k room : ℕ) {r : Answer} → First (plain_rules equal n i k room) (accepting 1 (plain_size k n)) r
    → r ≡ plain_answer equal n i k room
unfolding plain_answer
plain-said equal n i k room w = first_eq w

pub bytes-few : (n k : ℕ) → n ≤ 32764 → k ≤ 8 → n * k ≤ 262112
bytes-few n k h g = le_trans (mul-le-mul_left n g) (omega arith)

-- what is known of lists of n entries where nothing is refused
pub record Ready (n k room : ℕ) (c : Counts) : Type 0 where
  pub few : n ≤ most
  pub whole : c.written ≡ plain_size k n
  pub fits : c.written ≤ room

plain_ready : (equal : Bool) (n i k room : ℕ) {c : Counts} → plain_answer equal n i k room ≡ Accepted c → (equal ≡ true) × Ready n k room c
unfolding plain_answer
plain_ready equal n i k room {c} e =
    let p = clear is_accepted (plain_rules equal n i k room) (accepting 1 (plain_size k n)) (Accepted c)
    (refl, (refl, (refl, (refl, (refl, tt))))) e refl in
    let w : plain_size k n ≡ c.written = ap (λ (x : Answer). elim x [ Accepted d ↦ d.written | Refused q u ↦ 0 ]) p.1 in (
      not-false equal p.0.0,
      record {
        few = ltb-false most n p.0.1.0;
        whole = sym w;
        fits = omega (arith, ltb-false room (plain_size k n) p.0.1.1.1.1.0, w);
      },
    )

module _ (f : Family) (o : Bool) (h : PingHeader) (a : ℤ) (s : List Sample) (out : List ℕ) where
  abbrev bytes : List ℕ
  bytes = frame o (tuple_u o (ping_of f h a s none))

  -- lists of m numbers, whose smallest has n entries
  abbrev rules : Bool → ℕ → ℕ → List (Rule Answer)
  rules equal n m = ((not equal ⇒ Refused 23 n) ∷ (ltb most m ⇒ Refused 11 0) ∷ []) ++ rules_u s (tuple_u o (ping_of f h a s none))

  length-bytes : length (frame o (tuple_u o (ping_of f h a s none))) ≡ plain_size (sample_bytes f) (length s)
  length-bytes = length-frame o (tuple_u o (ping_of f h a s none)) ∙ length-plain f o h a s out 0

  -- what the rules say of samples, with what is said of their lists
  rest : (n i : ℕ) → Listed s n i → n ≤ most
      → cond (eqb n 0) (Refused 22 0) (cond (ltb i n) (Refused 23 i)
      (cond (ltb (length out) (plain_size (sample_bytes f) n)) (Refused 19 0) (accepting 1 (plain_size (sample_bytes f) n))))
      ≡ write_answer (rules_u s (tuple_u o (ping_of f h a s none))) (frame o (tuple_u o (ping_of f h a s none))) (length out)
  rest n i g few =
      let size : plain_size (sample_bytes f) n ≡ length bytes =
      ap (plain_size (sample_bytes f)) (sym g.many) ∙ sym length-bytes in
      let short : length_of (tuple_u o (ping_of f h a s none)) ≤ 262144 =
      omega (arith, length-plain f o h a s out 0, ap (plain_size (sample_bytes f)) g.many, plain-small f n few) in
      let fits = sym (le-ltb 262144 (length_of (tuple_u o (ping_of f h a s none))) short) in
      let many = sym g.many in
      let first = sym g.first in
      λ j. cond (eqb (many j) 0) (Refused 22 0) (cond (ltb (first j) (many j)) (Refused 23 (first j))
      (cond (fits j) (Refused 11 0) (cond (ltb (length out) (size j)) (Refused 19 0) (accepting 1 (size j)))))

  same_answer : (equal : Bool) (n m i : ℕ) → (equal ≡ true → (m ≡ n) × Listed s n i)
      → plain_answer equal n i (sample_bytes f) (length out) ≡ write_answer (rules equal n m) bytes (length out)
  unfolding plain_answer
  same_answer false n m i g = refl
  same_answer true n m i g =
      let e = sym (g refl).0 in
      by_bool (ltb most n)
      (λ t. rw ((g refl).0, t))
      (λ t. λ j. cond (ltb most (e j)) (Refused 11 0) (rest n i (g refl).1 (ltb-false most n t) j))

  -- r is what is said of the lists
  module _ (equal : Bool) (n m i : ℕ) (g : equal ≡ true → (m ≡ n) × Listed s n i) (r : Answer)
      (told : r ≡ plain_answer equal n i (sample_bytes f) (length out)) where
    said : r ≡ write_answer (rules equal n m) bytes (length out)
    said = told ∙ same_answer equal n m i g

    refused-plain : {c q : ℕ} → r ≡ Refused c q → Written (rules equal n m) bytes out r out
    refused-plain e = refused (rules equal n m) bytes out r said e

    written-plain : {c : Counts} (end : ℕ) (left : List ℕ) → r ≡ Accepted c → end ≡ 24 + m * sample_bytes f
        → left ≡ sets (sets (sets (sets out 0 (opening_bytes o c.written (type_u f) (encode o ping_row (head_of h)))) 24 (unsampled f o s))
        end (replicate (c.written - 8 - end) 0))
        (c.written - 8) (close_bytes o c.written (pattern_of 4 a))
        → Written (rules equal n m) bytes out r left
    written-plain {c} end left e there put =
        let p = plain_ready equal n i (sample_bytes f) (length out) (sym told ∙ e) in
        let q = g p.0 in
        let many : length s ≡ m = q.1.many ∙ sym q.0 in
        let whole : c.written ≡ plain_size (sample_bytes f) (length s) = p.1.whole ∙ ap (plain_size (sample_bytes f)) (sym q.1.many) in
        written (rules equal n m) bytes out r said left e (omega (arith, p.1.fits, whole, length-bytes))
        (put ∙ plain-stored f o h a s out c.written end whole (there ∙ ap (λ (x : ℕ). 24 + x * sample_bytes f) (sym many)))

-- ---- numbers and values: n is the smaller count, i the place of the first number that doesn't rise
module _ (f : Family) (ns : List ℕ) (vs : List ℤ) (out : List ℕ) (n i : ℕ) (least : n ≡ min (length ns) (length vs))
    (first : i ≡ first_drop 0 (numbered ns)) (r : Answer)
    (told : r ≡ plain_answer (eqb (length ns) (length vs)) n i (sample_bytes f) (length out)) where
  abbrev pairs : List Sample
  pairs = paired (handed_bytes f) ns vs

  listed : eqb (length ns) (length vs) ≡ true
      → (length ns ≡ min (length ns) (length vs)) × Listed pairs (min (length ns) (length vs)) i
  listed t =
      let e = sym (eqb-true (length ns) (length vs) t) in
      let q : length ns ≡ min (length ns) (length vs) = omega (arith, e) in
      (q, record { many = length-paired (handed_bytes f) ns vs e ∙ q; first = sym (first ∙ drop-numbered (handed_bytes f) ns vs e) })

  told_u : r ≡ plain_answer (eqb (length ns) (length vs)) (min (length ns) (length vs)) i (sample_bytes f) (length out)
  told_u = told ∙ ap (λ (k : ℕ). plain_answer (eqb (length ns) (length vs)) k i (sample_bytes f) (length out)) least

  pub ready_u : {c : Counts} → r ≡ Accepted c → (length vs ≡ length ns) × Ready (length ns) (sample_bytes f) (length out) c
  ready_u {c} e =
      let p = plain_ready (eqb (length ns) (length vs)) (min (length ns) (length vs)) i (sample_bytes f) (length out) (sym told_u ∙ e) in
      let q = sym (listed p.0).0 in
      (sym (eqb-true (length ns) (length vs) p.0), subst (λ (x : ℕ). Ready x (sample_bytes f) (length out) c) q p.1)

  module _ (o : Bool) (h : PingHeader) (a : ℤ) where
    pub refused_u : {c q : ℕ} → r ≡ Refused c q → WrittenU f o h a ns vs out r out
    refused_u = refused-plain f o h a pairs out (eqb (length ns) (length vs)) (min (length ns) (length vs)) (length ns) i listed r told_u

    pub written_u : {c : Counts} (end : ℕ) (left : List ℕ) → r ≡ Accepted c → end ≡ 24 + length ns * sample_bytes f
        → left ≡ sets (sets (sets (sets out 0 (opening_bytes o c.written (type_u f) (encode o ping_row (head_of h)))) 24
        (unsampled f o (paired (handed_bytes f) ns vs)))
        end (replicate (c.written - 8 - end) 0))
        (c.written - 8) (close_bytes o c.written (pattern_of 4 a))
        → WrittenU f o h a ns vs out r left
    written_u = written-plain f o h a pairs out (eqb (length ns) (length vs)) (min (length ns) (length vs)) (length ns) i listed r told_u

-- ---- numbers and two angles
drop-angled : (ns : List ℕ) (xs ys : List ℤ) (m : ℕ) → length xs ≡ length ns → length ys ≡ length ns
    → first_drop m (numbered ns) ≡ first_drop m (angled ns xs ys)
drop-angled [] xs ys m e g = refl
drop-angled (n ∷ ns) [] ys m e g = absurd (omega arith)
drop-angled (n ∷ ns) (x ∷ xs) [] m e g = absurd (omega arith)
drop-angled (n ∷ ns) (x ∷ xs) (y ∷ ys) m e g =
    let v = pattern_of 2 x + 65536 * pattern_of 2 y in
    by_bool (leb m n)
    (λ t.
    let h = leb-true m n t in
    drop-later m (n, 0) (numbered ns) h
    ∙ ap (λ (k : ℕ). k + 1) (drop-angled ns xs ys (n + 1) (omega arith) (omega arith))
    ∙ sym (drop-later m (n, v) (angled ns xs ys) h))
    (λ t. drop_here m (n, 0) (numbered ns) t ∙ sym (drop_here m (n, v) (angled ns xs ys) t))

-- m is the smaller count of angles, n the smallest of all; b says whether all are equal
module _ (f : Family) (ns : List ℕ) (xs ys : List ℤ) (out : List ℕ) (b : Bool)
    (same : b ≡ (eqb (length ns) (length xs) && eqb (length ns) (length ys))) (m n i : ℕ) (fewer : m ≡ min (length xs) (length ys))
    (least : n ≡ min (length ns) m) (first : i ≡ first_drop 0 (numbered ns)) (r : Answer)
    (told : r ≡ plain_answer b n i (sample_bytes f) (length out)) where
  abbrev equal : Bool
  equal = eqb (length ns) (length xs) && eqb (length ns) (length ys)

  abbrev smallest : ℕ
  smallest = min (length ns) (min (length xs) (length ys))

  counts : equal ≡ true → (length xs ≡ length ns) × (length ys ≡ length ns)
  counts t =
      let p = both_true (eqb (length ns) (length xs)) (eqb (length ns) (length ys)) t in
      (sym (eqb-true (length ns) (length xs) p.0), sym (eqb-true (length ns) (length ys) p.1))

  listed_a : equal ≡ true → (length ns ≡ smallest) × Listed (angled ns xs ys) smallest i
  listed_a t =
      let e = counts t in
      let q : length ns ≡ smallest = omega (arith, e.0, e.1) in (
        q,
        record {
          many = length-angled ns xs ys e.0 e.1 ∙ q;
          first = sym (first ∙ drop-angled ns xs ys 0 e.0 e.1);
        },
      )

  told_a : r ≡ plain_answer equal smallest i (sample_bytes f) (length out)
  told_a = told ∙ (λ j. plain_answer (same j) ((least ∙ ap (min (length ns)) fewer) j) i (sample_bytes f) (length out))

  pub ready_a : {c : Counts} → r ≡ Accepted c
      → (length xs ≡ length ns) × (length ys ≡ length ns) × Ready (length ns) (sample_bytes f) (length out) c
  ready_a {c} e =
      let p = plain_ready equal smallest i (sample_bytes f) (length out) (sym told_a ∙ e) in
      let q = sym (listed_a p.0).0 in
      let g = counts p.0 in
      (g.0, g.1, subst (λ (x : ℕ). Ready x (sample_bytes f) (length out) c) q p.1)

  module _ (o : Bool) (h : PingHeader) (a : ℤ) where
    pub refused_a : {c q : ℕ} → r ≡ Refused c q → WrittenA f o h a ns xs ys out r out
    refused_a = refused-plain f o h a (angled ns xs ys) out equal smallest (length ns) i listed_a r told_a

    pub written_a : {c : Counts} (end : ℕ) (left : List ℕ) → r ≡ Accepted c → end ≡ 24 + length ns * sample_bytes f
        → left ≡ sets (sets (sets (sets out 0 (opening_bytes o c.written (type_u f) (encode o ping_row (head_of h)))) 24
        (unsampled f o (angled ns xs ys)))
        end (replicate (c.written - 8 - end) 0))
        (c.written - 8) (close_bytes o c.written (pattern_of 4 a))
        → WrittenA f o h a ns xs ys out r left
    written_a = written-plain f o h a (angled ns xs ys) out equal smallest (length ns) i listed_a r told_a
