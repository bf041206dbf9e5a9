-- What follows of a record that was read, in any file; and what a view of a record takes from the two calls on rows, said once for
-- every record. Assumes nothing.
use mathlib.Core.Path.{◌≡◌, refl, sym, ap, subst, ◌∙◌}
use mathlib.Core.Bool.{Bool, true, false, not}
use mathlib.Core.List.{List, [], ◌∷◌, ◌++◌, append-nil}
use Prim.Native.Nat.{ℕ, suc, ◌+◌, ◌%◌, ◌^◌, ◌<◌, ◌≤◌}
use native.Mathlib.Nat.{mod-eq_of_lt}
use native.Mathlib.Omega.{arith}
use borrow.Author.Tests.{eqb-true, le-ltb}
use lib.Dec.{eqb, ltb}
use lib.IntN.{ℤ}
use lib.ListN.{length, get_or, drop, drop_of_length-le}
use lib.Seq.{drop-cons}
use Rattle.rules.specs.Rules.{Rule, ◌⇒◌}
use Rattle.rules.proofs.Bools.{both_true}
use lib.Signed.{mag}
use mir.Syntax.{Width}
use mir.Val.{hbits, to_z, of_z}
use mir.Facts.{to_z-of_z}
use Rattle.order.specs.Order.{pattern_of, Bytes}
use Rattle.layout.specs.Answer.{Answer}
use Rattle.layout.specs.Answer.{Accepted}
use Rattle.layout.specs.Answer as answer
use Rattle.layout.specs.Answers.{accepting, left_by}
use Rattle.layout.specs.Fields.{Field, num, txt, gap, ident, many}
use Rattle.layout.specs.Types.{fitting, lengths_of}
use Rattle.turning.specs.Rows.{text_in}
use Rattle.frame.specs.Files.{is_msb}
use Rattle.tuples.specs.Readers.{is_record, only, records_of, read_answer, read_values, row_of}
use Rattle.tuples.specs.inner.Opening.{Readable}
use Rattle.tuples.specs.Writers.{Written, plain_bytes}
use Rattle.tuples.specs.declared.Part.{Part}
use Rattle.tuples.proofs.Reading.{Opens, opens}
use Rattle.rows.specs.Readers.{count_of, lent_by, row_answer, row_numbers, row_text, characters_at, answered, RowAt}
use Rattle.rows.specs.Writers.{row_values, row_length, RowWritten}
use Rattle.rows.specs.Integers.{integer, integers, integers_from, row_integers}
use Rattle.rows.specs.RowRead.{RowRead}
use Rattle.rows.specs.RowRead.{Read, Refused}
use Rattle.rows.proofs.Reading.{Within, as_only, opened_as, count-there, characters, each_within}

-- ---- a record that was read: the tuple is one of its type that keeps its own rules
taken-by : (b : Bool) (a : Answer) → accepting 1 0 ≡ lent_by b a → accepting 1 0 ≡ a
taken-by b (answer.Refused c p) e = e
taken-by true (Accepted n) e = absurd (let z : ◌≡◌ {A = ℕ} 0 1 = cc (e) in omega arith)
taken-by false (Accepted n) e = e

-- where a reader of its type accepts
module _ (k : ℕ) (f : List ℕ) (p : ℕ) (e : accepting 1 0 ≡ read_answer (records_of k) f p) where
  found : Opens (records_of k) f p
  found = opens (records_of k) e

  readable : Readable (records_of k) f p (is_msb f) found.size k
  readable = opened_as found.readable

  -- the record there has all its numbers
  pub there-count : length (row_numbers f p) ≡ count_of k
  there-count = count-there readable

  -- where its characters are said to stand stand those of its content
  pub there-characters : characters_at f (row_text k f p) ≡ text_in (read_values f p)
  there-characters = characters readable

  -- each number is below its width
  pub there-within : Bytes f → Within (row_of k 0) (row_numbers f p)
  there-within b = each_within readable b

-- and where it hands the record over
module _ {k : ℕ} {f : List ℕ} {p : ℕ} {lent left : List ℕ} {t : Part} (r : RowAt k f p lent (Read t) left) where
  pub read-accepted : accepting 1 0 ≡ read_answer (records_of k) f p
  unfolding row_answer
  read-accepted = taken-by (ltb (length lent) (count_of k)) (read_answer (records_of k) f p) r.answer.is

  abbrev as_part : RowRead → Part
  as_part (Read x) = x
  as_part (Refused c q) = row_text k f p

  pub read-text : t ≡ row_text k f p
  read-text = ap as_part (r.outcome ∙ ap (λ (a : Answer). answered a (row_text k f p)) (sym r.answer.is))

  -- its numbers are written, and what stands behind them stays
  pub read-memory : left ≡ row_numbers f p ++ drop (length (row_numbers f p)) lent
  read-memory = r.memory ∙ ap (λ (a : Answer). left_by a (row_numbers f p) lent) (sym r.answer.is)

  pub read-characters : characters_at f t ≡ text_in (read_values f p)
  read-characters = ap (characters_at f) read-text ∙ there-characters k f p read-accepted

-- ---- the lower bytes of a number below its width are the number
from-integers : (fs : List Field) (ns : List ℕ) (i : ℕ) → Within fs (drop i ns) → i + many fs ≤ length ns
    → integers_from fs ns i ≡ integers fs (drop i ns)
from-integers [] ns i h l = refl
from-integers (num g w ∷ fs) ns i h l =
    let c = drop-cons ns i 0 (omega arith) in
    let b = subst (λ (x : List ℕ). Within (num g w ∷ fs) x) c h in
    (λ j. integer g w (mod-eq_of_lt b.0 j) ∷ from-integers fs ns (suc i) b.1 (omega arith) j) ∙ ap (integers (num g w ∷ fs)) (sym c)
from-integers (txt w ∷ fs) ns i h l = from-integers fs ns i h (omega arith)
from-integers (gap w ∷ fs) ns i h l = from-integers fs ns i h (omega arith)
from-integers (ident ∷ fs) ns i h l = from-integers fs ns i h (omega arith)

-- ---- a view lends room for all of its record's numbers: the answer is then the field reader's
roomy : (a : Answer) → lent_by false a ≡ a
roomy (Accepted n) = refl
roomy (answer.Refused c p) = refl

as_read : (k : ℕ) → is_record k ≡ true → (f : List ℕ) (p n : ℕ) → n ≡ count_of k → row_answer k f p n ≡ read_answer (only k) f p
unfolding row_answer
as_read k e f p n l =
    ap (λ (b : Bool). lent_by b (read_answer (records_of k) f p)) (le-ltb n (count_of k) (omega (arith, l)))
    ∙ roomy (read_answer (records_of k) f p)
    ∙ ap (λ (asks : ℕ → Bool). read_answer asks f p) (as_only k e)

module _ (k : ℕ) (e : is_record k ≡ true) {f : List ℕ} {p : ℕ} {lent left : List ℕ} (l : length lent ≡ count_of k) where
  pub view_refused : {c q : ℕ} → RowAt k f p lent (Refused c q) left → answer.Refused c q ≡ read_answer (only k) f p
  view_refused r = r.answer.is ∙ as_read k e f p (length lent) l

  module _ {t : Part} (r : RowAt k f p lent (Read t) left) where
    pub view_accepted : accepting 1 0 ≡ read_answer (only k) f p
    view_accepted = r.answer.is ∙ as_read k e f p (length lent) l

    all-lent : left ≡ row_numbers f p
    all-lent =
        read-memory r
        ∙ ap (λ (x : List ℕ). row_numbers f p ++ x)
        (drop_of_length-le lent {i = length (row_numbers f p)} (omega (arith, l, there-count k f p (read-accepted r))))
        ∙ append-nil (row_numbers f p)

    pub view_integers : Bytes f → integers_from (row_of k 0) left 0 ≡ row_integers k f p
    view_integers b =
        ap (λ (ns : List ℕ). integers_from (row_of k 0) ns 0) all-lent
        ∙ from-integers (row_of k 0) (row_numbers f p) 0 (there-within k f p (read-accepted r) b)
        (omega (arith, there-count k f p (read-accepted r)))

-- ---- a writer whose rules are all kept refuses by 19 alone
past-false : (b : Bool) (x : Answer) (rs : List (Rule Answer)) (bytes out : List ℕ) {a : Answer} {left : List ℕ}
    → b ≡ false → Written ((b ⇒ x) ∷ rs) bytes out a left → Written rs bytes out a left
past-false b x rs bytes out {a} {left} e w =
    let v = subst (λ (c : Bool). Written ((c ⇒ x) ∷ rs) bytes out a left) e w in
    record { answer = v.answer; memory = v.memory }

pub only-room : (k : ℕ) (o : Bool) (ns t : List ℕ) {out left : List ℕ} {a : Answer}
    → not (is_record k) ≡ false → ltb (length ns) (count_of k) ≡ false → not (fitting (lengths_of k) (row_length k t)) ≡ false
    → ltb 262144 (row_length k t) ≡ false
    → RowWritten k ns t o out a left → Written [] (plain_bytes o k (row_values k ns t)) out a left
only-room k o ns t {out} {left} {a} e f g h w =
    let bytes = plain_bytes o k (row_values k ns t) in
    let few = ltb (length ns) (count_of k) ⇒ answer.Refused 9 0 in
    let unfit = not (fitting (lengths_of k) (row_length k t)) ⇒ answer.Refused 9 0 in
    let over = ltb 262144 (row_length k t) ⇒ answer.Refused 11 0 in
    past-false (ltb 262144 (row_length k t)) (answer.Refused 11 0) [] bytes out h
    (past-false (not (fitting (lengths_of k) (row_length k t))) (answer.Refused 9 0) (over ∷ []) bytes out g
    (past-false (ltb (length ns) (count_of k)) (answer.Refused 9 0) (unfit ∷ over ∷ []) bytes out f
    (past-false (not (is_record k)) (answer.Refused 9 0) (few ∷ unfit ∷ over ∷ []) bytes out e w)))

-- ---- a signed number that a struct holds is found again, and has its own pattern
pub held-signed : (w : Width) {z y : ℤ} → mag z < 2 ^ hbits w → z ≡ y → to_z w (of_z w z) ≡ y
held-signed w f e = to_z-of_z {w = w} (record { sfits = f }) ∙ e

pub held-pattern : (w : Width) (b : ℕ) (z : ℤ) {n : ℕ} → mag z < 2 ^ hbits w → n ≡ pattern_of b (to_z w (of_z w z)) → n ≡ pattern_of b z
held-pattern w b z f e = e ∙ ap (pattern_of b) (to_z-of_z {w = w} {z = z} (record { sfits = f }))
