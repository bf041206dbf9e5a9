-- Each tuple of a file is read at its new place as it was at its old one, and those found besides are private. Assumes nothing.
use mathlib.Core.Path.{◌≡◌, refl, sym, ap, ap₂, subst, ◌∙◌}
use mathlib.Core.Logic.{◌⊎◌, inl, inr}
use mathlib.Core.Bool.{Bool, true, false, cond, ◌||◌}
use mathlib.Core.List.{List, [], ◌∷◌}
use mathlib.Core.Option.{Option}
use Prim.Native.Nat.{ℕ, ◌+◌, ◌≤◌}
use native.Mathlib.Omega.{arith}
use lib.Dec.{ltb}
use lib.ListN.{length, take, drop, length-append}
use Rattle.order.specs.Order.{Bytes}
use Rattle.rules.specs.Rules.{◌⇒◌, first_of}
use Rattle.layout.specs.Answer.{Answer}
use Rattle.layout.specs.Answer.{Accepted, Refused}
use Rattle.layout.specs.Answers.{accepting}
use Rattle.frame.specs.Frames.{Tup, length_of, frame, frames}
use Rattle.frame.specs.Files.{mark, is_msb}
use Rattle.frame.specs.Tuples.{tuples_of}
use Rattle.frame.proofs.Frames.{length-frame}
use Rattle.frame.proofs.Files.{length-mark}
use Rattle.content.specs.Items.{Item, item_of}
use Rattle.tuples.specs.Readers.{tuple_there, read_answer, read_item, is_valued, is_angled, records_of}
use Rattle.pings.specs.Fields.{ping_fields, fields_by, ping_by}
use Rattle.pings.specs.Readers.{samples_by, samples_at, hand_answer, hand_angles, behind_read, sample_answer, angle_answer}
use Rattle.rows.specs.Readers.{count_of, lent_by, row_answer}
use Rattle.partners.specs.Private.{Part, own, put, own_of, all_of, put_in, parts_of, shift, Mixed, moved, PlacedAt, here, later}
use Rattle.partners.specs.Answers.{answer_moved, Both}
use Rattle.partners.specs.Partners.{There, Own, OneOf}
use Rattle.partners.specs.Partners as partners
use Rattle.partners.proofs.Places.{Follows, at_own, past-own, past-put, moved-begin, moved_none, stands_on, shift_past}
use Rattle.partners.proofs.Files.{put-between, framed-own, order-own, order-all, tuples-own, tuples-all, file-bytes}
use Rattle.partners.proofs.Standing.{there-forward, there-backward, there-bytes, there-tuple, there-answer}

-- ---- those found besides
module _ (to : ℕ → ℕ) where
  -- a tuple of all is one of the file's own at its new place, or is put in
  pub which : (ps : List Part) {at d e q : ℕ} {t : Tup} → Follows to ps at d → e ≡ at + d → PlacedAt e (all_of ps) q t
      → ((p : ℕ) × (q ≡ to p) × PlacedAt at (own_of ps) p t) ⊎ OneOf t (put_in ps)
  which [] {at = at} {d = d} {e = e} {q = q} {t = t} h z x3 = elim x3 [ ]
  which (own u ∷ ps) {at} h z here = inl (at, z ∙ sym (at_own h), here)
  which (own u ∷ ps) {at} {d} {e} {q} {t} h z (later s) = on (which ps (past-own h) (omega (arith, z)) s)
    where
      on : ((p : ℕ) × (q ≡ to p) × PlacedAt (at + length_of u) (own_of ps) p t) ⊎ OneOf t (put_in ps)
          → ((p : ℕ) × (q ≡ to p) × PlacedAt at (u ∷ own_of ps) p t) ⊎ OneOf t (put_in ps)
      on (inl x) = inl (x.0, x.1, later x.2)
      on (inr i) = inr i
  which (put x ∷ ps) h z here = inr partners.first
  which (put x ∷ ps) {at} {d} {e} {q} {t} h z (later s) = on (which ps (past-put h) (omega (arith, z)) s)
    where
      on : ((p : ℕ) × (q ≡ to p) × PlacedAt at (own_of ps) p t) ⊎ OneOf t (put_in ps)
          → ((p : ℕ) × (q ≡ to p) × PlacedAt at (own_of ps) p t) ⊎ OneOf t (x ∷ put_in ps)
      on (inl y) = inl y
      on (inr i) = inr (partners.later i)

-- ---- what the tuples put in take
taken-up : (o : Bool) (ps : List Part) (at p : ℕ) → at + length (frames o (own_of ps)) ≤ p
    → length (frames o (all_of ps)) ≡ length (frames o (own_of ps)) + shift ps at p
unfolding shift
taken-up o [] at p h = refl
taken-up o (own t ∷ ps) at p h =
    let a = length-append (frame o t) (frames o (own_of ps)) in
    let b = length-append (frame o t) (frames o (all_of ps)) in
    let c = length-frame o t in
    let l : at + length_of t + length (frames o (own_of ps)) ≤ p = omega (arith, h, a, c) in
    omega (arith, a, b, c, taken-up o ps (at + length_of t) p l, shift_past t ps at p (omega (arith, l)))
taken-up o (put x ∷ ps) at p h =
    omega (arith, length-append (frame o x) (frames o (all_of ps)), length-frame o x, taken-up o ps at p h)

module _ {f g : List ℕ} (m : Mixed f g) where
  -- the end of the one is that of the other
  pub moved-end : moved m (length f) ≡ length g
  unfolding moved
  moved-end =
      let o = m.msb in
      let a = length-append (mark o) (frames o (own_of (parts_of m))) in
      let b = length-append (mark o) (frames o (all_of (parts_of m))) in
      let c = length-mark o in
      let d = ap length m.without in
      omega (arith, a, b, c, d, ap length m.within, taken-up o (parts_of m) 4 (length f) (omega (arith, a, c, d)))

  pub others : {q : ℕ} {t : Tup} → PlacedAt 4 (tuples_of g) q t
      → Own m q t ⊎ OneOf t (put_in m.parts)
  others {q} {t} s =
      by (which (moved m) (parts_of m) (moved-begin m) refl (subst (λ (ts : List Tup). PlacedAt 4 ts q t) (tuples-all m) s))
    where
      by : ((p : ℕ) × (q ≡ moved m p) × PlacedAt 4 (own_of (parts_of m)) p t) ⊎ OneOf t (put_in (parts_of m))
          → Own m q t ⊎ OneOf t (put_in m.parts)
      by (inl x) =
          inl (record {
            place = x.0;
            moves = x.1;
            stands = subst (λ (ts : List Tup). PlacedAt 4 ts x.0 t) (sym (tuples-own m)) x.2;
          })
      by (inr i) = inr (subst (OneOf t) (put-between m.parts m.last) i)

  pub bytes-own : Bytes f
  bytes-own = file-bytes m.msb (own_of (parts_of m)) (framed-own m) m.without

  pub bytes-all : Bytes g
  bytes-all = file-bytes m.msb (all_of (parts_of m)) m.framed m.within

  pub stands-moved : {p : ℕ} {t : Tup} → PlacedAt 4 (tuples_of f) p t → PlacedAt 4 (tuples_of g) (moved m p) t
  stands-moved {p} {t} s =
      subst (λ (ts : List Tup). PlacedAt 4 ts (moved m p) t) (sym (tuples-all m))
      (stands_on (moved m) (parts_of m) (moved-begin m) (subst (λ (ts : List Tup). PlacedAt 4 ts p t) (tuples-own m) s))

  module _ (b : Both m) {p : ℕ} {t : Tup} (s : PlacedAt 4 (tuples_of f) p t) where
    same-tuple : tuple_there g (moved m p) ≡ tuple_there f p
    same-tuple = there-tuple g bytes-all b.within (stands-moved s) ∙ sym (there-tuple f bytes-own b.without s)

    same-order : is_msb g ≡ is_msb f
    same-order = order-all m ∙ sym (order-own m)

    pub same_bytes : take (length_of t) (drop (moved m p) g) ≡ take (length_of t) (drop p f)
    same_bytes =
        there-bytes g bytes-all b.within (stands-moved s)
        ∙ ap (λ (o : Bool). frame o t) same-order
        ∙ sym (there-bytes f bytes-own b.without s)

    same_item : read_item g (moved m p) ≡ read_item f p
    same_item = ap₂ item_of same-order same-tuple

    same_answer : (asked : ℕ → Bool) → read_answer asked g (moved m p) ≡ answer_moved (moved m) 0 (read_answer asked f p)
    same_answer asked =
        there-answer g bytes-all b.within (stands-moved s) asked
        ∙ by (asked t.kind)
        ∙ sym (ap (answer_moved (moved m) 0) (there-answer f bytes-own b.without s asked))
      where
        by : (q : Bool) → cond q (accepting 1 0) (Refused 9 (moved m p)) ≡ answer_moved (moved m) 0 (cond q (accepting 1 0) (Refused 9 p))
        by true = refl
        by false = refl

    -- 19 at 0 behind a reader's own answer
    behind_moved : (n : ℕ) (short : Bool) (a : Answer)
        → behind_read (first_of ((short ⇒ Refused 19 0) ∷ []) (accepting 1 n)) (answer_moved (moved m) 0 a)
        ≡ answer_moved (moved m) 0 (behind_read (first_of ((short ⇒ Refused 19 0) ∷ []) (accepting 1 n)) a)
    behind_moved n true (Accepted k) = ap (Refused 19) (sym (moved_none m))
    behind_moved n false (Accepted k) = refl
    behind_moved n short (Refused c q) = refl

    lent-moved : (short : Bool) (a : Answer) → lent_by short (answer_moved (moved m) 0 a) ≡ answer_moved (moved m) 0 (lent_by short a)
    lent-moved true (Accepted n) = ap (Refused 19) (sym (moved_none m))
    lent-moved false (Accepted n) = refl
    lent-moved true (Refused c q) = refl
    lent-moved false (Refused c q) = refl

    same-samples : (x y : ℕ) → sample_answer g (moved m p) x y ≡ answer_moved (moved m) 0 (sample_answer f p x y)
    unfolding sample_answer
    same-samples x y =
        let n = length (samples_at f p) in
        ap₂ (λ (i : Option Item) (a : Answer). behind_read (hand_answer (length (samples_by i)) x y) a) same_item (same_answer is_valued)
        ∙ behind_moved n (ltb x n || ltb y n) (read_answer is_valued f p)

    same-angles : (x y z : ℕ) → angle_answer g (moved m p) x y z ≡ answer_moved (moved m) 0 (angle_answer f p x y z)
    unfolding angle_answer
    same-angles x y z =
        let n = length (samples_at f p) in
        ap₂ (λ (i : Option Item) (a : Answer). behind_read (hand_angles (length (samples_by i)) x y z) a) same_item (same_answer is_angled)
        ∙ behind_moved n (ltb x n || (ltb y n || ltb z n)) (read_answer is_angled f p)

    same_record : (k room : ℕ) → row_answer k g (moved m p) room ≡ answer_moved (moved m) 0 (row_answer k f p room)
    unfolding row_answer
    same_record k room =
        ap (lent_by (ltb room (count_of k))) (same_answer (records_of k)) ∙ lent-moved (ltb room (count_of k)) (read_answer (records_of k) f p)

    same-ping : ping_fields g (moved m p) ≡ ping_fields f p
    unfolding ping_fields
    same-ping = ap₂ (λ (i : Option Item) (u : Tup). fields_by (ping_by i) u.kind) same_item same-tuple

    pub there : There m p t
    there =
        record {
          stands = stands-moved s;
          forward = there-forward g bytes-all b.within (stands-moved s);
          backward = there-backward g bytes-all b.within (stands-moved s);
          bytes = same_bytes;
          answer = same_answer;
          content = same_item;
          ping = same-ping;
          samples = same-samples;
          angles = same-angles;
          records = same_record;
        }
