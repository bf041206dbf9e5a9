-- What is kept of bytes, one tuple at a time. Assumes nothing.
use mathlib.Core.Path.{◌≡◌, refl, sym, ap, ap₂, ◌∙◌}
use mathlib.Core.Bool.{Bool, true, false, cond}
use mathlib.Core.List.{List, [], ◌∷◌, ◌++◌, append_assoc}
use Prim.Native.Nat.{ℕ, ◌+◌, ◌≤◌}
use native.Mathlib.Omega.{arith}
use borrow.Author.Tests.{eq-eqb, ne_eqb}
use lib.Dec.{eqb}
use lib.ListN.{length, take, drop, length-append, length-drop}
use lib.Seq.{sets, length-sets, drop-drop, take_at}
use Rattle.order.specs.Order.{Bytes}
use Rattle.order.proofs.Laws.{bytes_drop}
use Rattle.order.proofs.Stores.{sets_append}
use Rattle.layout.specs.Types
use Rattle.layout.specs.Types.{in_class}
use Rattle.frame.specs.Frames.{Tup, length_of, frame, frames, len_at, kind_at}
use Rattle.frame.proofs.Frames.{length-frame}
use Rattle.index.specs.Index.{before_end, outside}
use Rattle.index.specs.inner.Flags.{flag_outside, flag_all}
use Rattle.edits.specs.Edits.{tuples_in, rest_in}
use Rattle.edits.specs.inner.Parts.{is_tuple, kept_length, kept_tuples, kept_of, Surveyed}
use Rattle.edits.proofs.Dividing.{Front, front, tuples-stop, rest-stop, no_tuple}

-- ---- a tuple kept, or dropped
-- its bytes that are kept
abbrev kept_frame : Bool → Tup → List ℕ
kept_frame o t = cond (in_class Types.index t.kind) [] (frame o t)

outside-one : (o : Bool) (t : Tup) (ts : List Tup) → frames o (outside (t ∷ ts)) ≡ kept_frame o t ++ frames o (outside ts)
unfolding outside
outside-one o t ts = by_test (in_class Types.index t.kind)
  where
    by_test : (b : Bool)
        → frames o (elim b as (λ _. List Tup) [ true ↦ outside ts | false ↦ t ∷ outside ts ]) ≡ cond b [] (frame o t) ++ frames o
        (outside ts)
    by_test true = refl
    by_test false = refl

length-kept : (o : Bool) (t : Tup) → length (kept_frame o t) ≡ kept_length t.kind (length_of t)
length-kept o t = by_test (in_class Types.index t.kind)
  where
    by_test : (b : Bool) → length (cond b [] (frame o t)) ≡ cond b 0 (length_of t)
    by_test true = refl
    by_test false = length-frame o t

pub kept-few : (k n : ℕ) → kept_length k n ≤ n
kept-few k n = by_test (in_class Types.index k)
  where
    by_test : (b : Bool) → cond b 0 n ≤ n
    by_test true = omega arith
    by_test false = omega arith

-- ---- where no tuple stands
pub kept-stop : (o : Bool) (r : List ℕ) → is_tuple o r ≡ false → kept_tuples o r ≡ []
unfolding outside
kept-stop o r e = ap (λ (ts : List Tup). frames o (outside ts)) (tuples-stop o r e)

pub all-stop : (o : Bool) (r : List ℕ) → is_tuple o r ≡ false → kept_of o r ≡ r
unfolding kept_of
all-stop o r e = ap₂ (λ (x y : List ℕ). x ++ y) (kept-stop o r e) (rest-stop o r e)

pub kept-none : (o : Bool) → kept_of o [] ≡ []
kept-none o = all-stop o [] (no_tuple o)

-- ---- where one stands
module _ (o : Bool) (r : List ℕ) (p : Front o r) where
  abbrev t : Tup
  t = p.tuple

  pub kept_next : kept_tuples o r ≡ kept_frame o t ++ kept_tuples o p.left
  kept_next = ap (λ (ts : List Tup). frames o (outside ts)) p.tuples ∙ outside-one o t (tuples_in o p.left)

  all-next : kept_of o r ≡ kept_frame o t ++ kept_of o p.left
  unfolding kept_of
  all-next = ap₂ (λ (x y : List ℕ). x ++ y) kept_next p.rest ∙ append_assoc (kept_frame o t) (kept_tuples o p.left) (rest_in o p.left)

  pub all-dropped : in_class Types.index (kind_at o r) ≡ true → kept_of o r ≡ kept_of o p.left
  all-dropped e =
      all-next ∙ ap (λ (b : Bool). cond b [] (frame o t) ++ kept_of o p.left) (ap (in_class Types.index) (sym p.kind) ∙ e)

  pub kept-size : length (kept_tuples o r) ≡ kept_length (kind_at o r) (len_at o r) + length (kept_tuples o p.left)
  kept-size =
      ap length kept_next
      ∙ length-append (kept_frame o t) (kept_tuples o p.left)
      ∙ ap (λ (n : ℕ). n + length (kept_tuples o p.left)) (length-kept o t ∙ sym (ap₂ kept_length p.kind p.size))

  -- its bytes as they stand
  pub kept-bytes : take (kept_length (kind_at o r) (len_at o r)) r ≡ kept_frame o t
  kept-bytes = ap₂ (λ (k n : ℕ). take (kept_length k n) r) p.kind p.size ∙ by_test (in_class Types.index t.kind)
    where
      by_test : (b : Bool) → take (cond b 0 (length_of t)) r ≡ cond b [] (frame o t)
      by_test true = refl
      by_test false = ap (take (length_of t)) p.bytes ∙ take_at (frame o t) p.left (length_of t) (length-frame o t)

  pub frames-size : length (frames o (tuples_in o r)) ≡ len_at o r + length (frames o (tuples_in o p.left))
  frames-size =
      ap (λ (ts : List Tup). length (frames o ts)) p.tuples
      ∙ length-append (frame o t) (frames o (tuples_in o p.left))
      ∙ ap (λ (n : ℕ). n + length (frames o (tuples_in o p.left))) (length-frame o t ∙ sym p.size)

  pub flags-next : (fs : List ℕ) → flag_all fs (tuples_in o r) ≡ flag_all (flag_outside fs (kind_at o r)) (tuples_in o p.left)
  unfolding flag_all
  flags-next fs = ap (flag_all fs) p.tuples ∙ ap (λ (k : ℕ). flag_all (flag_outside fs k) (tuples_in o p.left)) (sym p.kind)

-- ---- at a place of a part
module _ (o : Bool) (r : List ℕ) (at : ℕ) where
  pub here : Bytes r → is_tuple o (drop at r) ≡ true → Front o (drop at r)
  here b e = front o (drop at r) (bytes_drop at r b) e

  module _ (p : Front o (drop at r)) where
    -- the tuple is within the part
    pub ends-within : at ≤ length r → at + len_at o (drop at r) ≤ length r
    ends-within h = omega (arith, p.fits, p.size, length-drop at r)

    pub holds_16 : at ≤ length r → at + 16 ≤ length r
    holds_16 h = omega (arith, p.fits, p.long, length-drop at r)

    pub left_is : drop (at + len_at o (drop at r)) r ≡ p.left
    left_is = sym (drop-drop (len_at o (drop at r)) at r) ∙ p.behind

-- ---- the survey: what is found so far, and what is still to come
pub record Surveying (o : Bool) (r fs : List ℕ) (kept at : ℕ) (gs : List ℕ) : Type 0 where
  pub within : at ≤ length r
  pub few : kept ≤ at
  pub bytes : kept + length (kept_tuples o (drop at r)) ≡ length (kept_tuples o r)
  pub behind : at + length (frames o (tuples_in o (drop at r))) ≡ length (frames o (tuples_in o r))
  pub flags : flag_all gs (tuples_in o (drop at r)) ≡ flag_all fs (tuples_in o r)

pub surveying_begin : (o : Bool) (r fs : List ℕ) → Surveying o r fs 0 0 fs
surveying_begin o r fs = record { within = omega arith; few = omega arith; bytes = omega arith; behind = omega arith; flags = refl }

module _ {o : Bool} {r fs : List ℕ} {kept at : ℕ} {gs : List ℕ} (s : Surveying o r fs kept at gs) where
  pub surveying_again : (p : Front o (drop at r)) (n v : ℕ) (hs : List ℕ) → n ≡ len_at o (drop at r)
      → v ≡ kept_length (kind_at o (drop at r)) n
      → hs ≡ flag_outside gs (kind_at o (drop at r))
      → Surveying o r fs (kept + v) (at + n) hs
  surveying_again p n v hs a b c =
      let q = drop at r in
      let l : drop (at + n) r ≡ p.left = ap (λ (k : ℕ). drop (at + k) r) a ∙ left_is o r at p in
      let w : v ≡ kept_length (kind_at o q) (len_at o q) = b ∙ ap (kept_length (kind_at o q)) a in
      record {
        within = omega (arith, ends-within o r at p s.within, a);
        few = omega (arith, s.few, w, kept-few (kind_at o q) (len_at o q), a);
        bytes = omega (arith, s.bytes, w, kept-size o q p, ap (λ (x : List ℕ). length (kept_tuples o x)) l);
        behind = omega (arith, s.behind, a, frames-size o q p, ap (λ (x : List ℕ). length (frames o (tuples_in o x))) l);
        flags = ap₂ (λ (x y : List ℕ). flag_all x (tuples_in o y)) c l ∙ sym (flags-next o q p gs) ∙ s.flags;
      }

  pub surveying_end : is_tuple o (drop at r) ≡ false → Surveyed o r fs kept at gs
  unfolding flag_all outside
  surveying_end e =
      let z = tuples-stop o (drop at r) e in
      let b = s.behind in
      let k = s.bytes in
      record {
        bytes = omega (arith, k, ap (λ (ts : List Tup). length (frames o (outside ts))) z);
        behind = omega (arith, b, ap (λ (ts : List Tup). length (frames o ts)) z);
        few = s.few;
        fits = s.within;
        flags = sym (ap (flag_all gs) z) ∙ s.flags;
      }

-- ---- the copy
pub record Copying (o : Bool) (r out₀ : List ℕ) (to₀ to at : ℕ) (out : List ℕ) : Type 0 where
  pub within : at ≤ length r
  pub long : length out ≡ length out₀
  pub room : to + length (kept_tuples o (drop at r)) ≡ to₀ + length (kept_tuples o r)
  pub same : sets out to (kept_tuples o (drop at r)) ≡ sets out₀ to₀ (kept_tuples o r)

pub copying_begin : (o : Bool) (r out : List ℕ) (to : ℕ) → Copying o r out to to 0 out
copying_begin o r out to = record { within = omega arith; long = refl; room = refl; same = refl }

module _ {o : Bool} {r out₀ : List ℕ} {to₀ to at : ℕ} {out : List ℕ} (s : Copying o r out₀ to₀ to at out) where
  pub copying_room : (p : Front o (drop at r))
      → to + kept_length (kind_at o (drop at r)) (len_at o (drop at r)) ≤ to₀ + length (kept_tuples o r)
  copying_room p = omega (arith, s.room, kept-size o (drop at r) p)

  pub copying_again : (p : Front o (drop at r)) (n v : ℕ) (next : List ℕ) → n ≡ len_at o (drop at r)
      → v ≡ kept_length (kind_at o (drop at r)) n
      → next ≡ sets out to (take v (drop at r))
      → Copying o r out₀ to₀ (to + v) (at + n) next
  copying_again p n v next a b c =
      let q = drop at r in
      let l : drop (at + n) r ≡ p.left = ap (λ (k : ℕ). drop (at + k) r) a ∙ left_is o r at p in
      let w : v ≡ kept_length (kind_at o q) (len_at o q) = b ∙ ap (kept_length (kind_at o q)) a in
      let k : take v q ≡ kept_frame o p.tuple = ap (λ (m : ℕ). take m q) w ∙ kept-bytes o q p in
      let m : length (take v q) ≡ v = ap length k ∙ length-kept o p.tuple ∙ sym (w ∙ ap₂ kept_length p.kind p.size) in
      record {
        within = omega (arith, ends-within o r at p s.within, a);
        long = ap length c ∙ length-sets out to (take v q) ∙ s.long;
        room = omega (arith, s.room, w, kept-size o q p, ap (λ (x : List ℕ). length (kept_tuples o x)) l);
        same = (λ i. sets (c i) (to + sym m i) (kept_tuples o (l i)))
            ∙ sym (sets_append (take v q) (kept_tuples o p.left) out to)
            ∙ ap (sets out to) (ap (λ (x : List ℕ). x ++ kept_tuples o p.left) k ∙ sym (kept_next o q p))
            ∙ s.same;
      }

  pub copying_end : is_tuple o (drop at r) ≡ false
      → (to ≡ to₀ + length (kept_tuples o r)) × (out ≡ sets out₀ to₀ (kept_tuples o r))
  copying_end e =
      let z = kept-stop o (drop at r) e in
      (omega (arith, s.room, ap length z), sym (ap (sets out to) z) ∙ s.same)

-- ---- the end of file
pub record Seeking (o : Bool) (r : List ℕ) (at : ℕ) : Type 0 where
  pub within : at ≤ length r
  pub same : at + length (frames o (before_end (tuples_in o (drop at r)))) ≡ length (frames o (before_end (tuples_in o r)))

pub seeking_begin : (o : Bool) (r : List ℕ) → Seeking o r 0
seeking_begin o r = record { within = omega arith; same = omega arith }

before_here : (t : Tup) (ts : List Tup) → eqb t.kind 65534 ≡ true → before_end (t ∷ ts) ≡ []
unfolding before_end
before_here t ts e = rw (e, before_end)

before-next : (t : Tup) (ts : List Tup) → eqb t.kind 65534 ≡ false → before_end (t ∷ ts) ≡ t ∷ before_end ts
unfolding before_end
before-next t ts e = rw (e, before_end)

module _ {o : Bool} {r : List ℕ} {at : ℕ} (s : Seeking o r at) where
  pub seeking_found : Front o (drop at r) → kind_at o (drop at r) ≡ 65534 → at ≡ length (frames o (before_end (tuples_in o r)))
  seeking_found p e =
      let b : before_end (tuples_in o (drop at r)) ≡ [] = ap before_end p.tuples
      ∙ before_here p.tuple (tuples_in o p.left) (eq-eqb p.tuple.kind 65534 (sym p.kind ∙ e)) in
      omega (arith, s.same, ap (λ (us : List Tup). length (frames o us)) b)

  pub seeking_again : (p : Front o (drop at r)) → (kind_at o (drop at r) ≡ 65534 → ⊥) → (n : ℕ) → n ≡ len_at o (drop at r)
      → Seeking o r (at + n)
  seeking_again p ne n a =
      let b : before_end (tuples_in o (drop at r)) ≡ p.tuple ∷ before_end (tuples_in o p.left) = ap before_end p.tuples
      ∙ before-next p.tuple (tuples_in o p.left) (ne_eqb p.tuple.kind 65534 (λ z. ne (p.kind ∙ z))) in
      let l : drop (at + n) r ≡ p.left = ap (λ (k : ℕ). drop (at + k) r) a ∙ left_is o r at p in
      record {
        within = omega (arith, ends-within o r at p s.within, a);
        same =
            omega (
              arith,
              s.same,
              a,
              p.size,
              ap (λ (us : List Tup). length (frames o us)) b,
              length-frame o p.tuple,
              length-append (frame o p.tuple) (frames o (before_end (tuples_in o p.left))),
              ap (λ (x : List ℕ). length (frames o (before_end (tuples_in o x)))) l,
            );
      }

  pub seeking_end : is_tuple o (drop at r) ≡ false → at ≡ length (frames o (before_end (tuples_in o r)))
  unfolding before_end
  seeking_end e = omega (arith, s.same, ap (λ (us : List Tup). length (frames o (before_end us))) (tuples-stop o (drop at r) e))
