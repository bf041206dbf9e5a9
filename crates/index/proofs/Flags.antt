-- Flags: what a byte's bits say after one is set, by one computed test over all bytes; so what is flagged after a type is flagged.
-- Assumes nothing.
use mathlib.Core.Path.{◌≡◌, refl, sym, ap, subst, ◌∙◌}
use mathlib.Core.Bool.{Bool, true, false, not, cond, ◌&&◌, ◌||◌, true≢false}
use mathlib.Core.List.{List, [], ◌∷◌, ◌++◌}
use mathlib.Core.Logic.{⊎_elim}
use Prim.Native.Nat.{ℕ, zero, suc, ◌+◌, ◌*◌, ◌/◌, ◌%◌, ◌^◌, ◌≤◌, ◌<◌}
use native.Mathlib.Nat.{le_of_suc-le-suc, not-suc-le-zero, eq-or-lt_of_le}
use native.Mathlib.Omega.{arith}
use borrow.Author.Tests.{eqb-true, eq-eqb, ne_eqb, ltb-true, ltb-false}
use lib.Dec.{T, eqb, ltb, ltb→lt}
use lib.ListN.{get_or, set, replicate, get_or-replicate, length-replicate, length-set, get_or-eq_default}
use lib.Seq.{get_or-set_same, get_or-set_other}
use Rattle.std.proofs.Math.Facts.{eqb_yes}
use Rattle.std.specs.Int.Bits.{bit_or}
use Rattle.rules.proofs.Bools.{or-false}
use Rattle.layout.specs.Types
use Rattle.layout.specs.Types.{in_class}
use Rattle.frame.specs.Frames.{Tup}
use Rattle.links.specs.Links.{has}
use Rattle.index.specs.Index.{is_typed, types_of}
use Rattle.index.specs.inner.Flags.{Flags, bit_of, with_bit, flagged, flag, flag_outside, flag_all, flagged_types, Blank}
use Rattle.index.proofs.Laws.{same_chosen}

-- ---- a test that passes at each number below n
abbrev both : Bool → Bool → Bool
both true b = b
both false b = false

both_left : (a b : Bool) → T (both a b) → T a
both_left true b t = tt
both_left false b t = t

both_right : (a b : Bool) → T (both a b) → T b
both_right true b t = t
both_right false b t = absurd t

abbrev below : (ℕ → Bool) → ℕ → Bool
below f zero = true
below f (suc n) = both (f n) (below f n)

at : (f : ℕ → Bool) (n : ℕ) → T (below f n) → (k : ℕ) → k < n → T (f k)
at f zero t k h = absurd (not-suc-le-zero h)
at f (suc n) t k h =
    ⊎_elim (λ e. subst (λ (m : ℕ). T (f m)) (sym e) (both_left (f n) (below f n) t))
    (λ l. at f n (both_right (f n) (below f n) t) k l)
    (eq-or-lt_of_le (le_of_suc-le-suc h))

-- ---- the bits of a byte with bit j
alike : Bool → Bool → Bool
alike true b = b
alike false b = not b

alike_same : (a b : Bool) → T (alike a b) → a ≡ b
unfolding alike
alike_same true true t = refl
alike_same false false t = refl
alike_same true false t = absurd t
alike_same false true t = absurd t

right : ℕ → ℕ → ℕ → Bool
right b j i = alike (bit_of (with_bit b j) i) (eqb i j || bit_of b i)

inside : ℕ → ℕ → Bool
inside b j = ltb (with_bit b j) 256

all_right : T (below (λ b. below (λ j. both (inside b j) (below (right b j) 8)) 8) 256)
unfolding right inside alike
all_right = tt

module _ (b j : ℕ) (hb : b < 256) (hj : j < 8) where
  here : T (both (inside b j) (below (right b j) 8))
  here = at (λ j. both (inside b j) (below (right b j) 8)) 8
      (at (λ b. below (λ j. both (inside b j) (below (right b j) 8)) 8) 256 all_right b hb) j hj

  pub bit_inside : with_bit b j < 256
  unfolding inside here
  bit_inside = ltb→lt _ _ (both_left (inside b j) (below (right b j) 8) here)

  pub bit_right : (i : ℕ) → i < 8 → bit_of (with_bit b j) i ≡ eqb i j || bit_of b i
  unfolding right here
  bit_right i h = alike_same _ _ (at (right b j) 8 (both_right (inside b j) (below (right b j) 8) here) i h)

-- ---- the flags
-- the same byte and the same bit are the same type
same-type : (j k : ℕ) → j / 8 ≡ k / 8 → eqb (j % 8) (k % 8) ≡ eqb j k
same-type j k e = by_test (eqb (j % 8) (k % 8)) refl
  where
    by_test : (x : Bool) → eqb (j % 8) (k % 8) ≡ x → eqb (j % 8) (k % 8) ≡ eqb j k
    by_test true q = q ∙ sym (eq-eqb j k (omega (arith, eqb-true (j % 8) (k % 8) q)))
    by_test false q = q ∙ sym (ne_eqb j k (λ z. clash (sym q ∙ eq-eqb (j % 8) (k % 8) (ap (λ (x : ℕ). x % 8) z))))
      where
        clash : false ≡ true → ⊥
        clash z = let y : ◌≡◌ {A = ℕ} 0 1 = cc in omega arith

pub flagged-flag : (fs : List ℕ) → Flags fs → (k j : ℕ) → j < 65536 → flagged (flag fs k) j ≡ eqb j k || flagged fs j
unfolding flagged flag
flagged-flag fs w k j hj = by_byte (eqb (j / 8) (k / 8)) refl
  where
    b : ℕ
    b = get_or fs (k / 8) 0

    by_byte : (x : Bool) → eqb (j / 8) (k / 8) ≡ x
        → bit_of (get_or (set fs (k / 8) (with_bit b (k % 8))) (j / 8) 0) (j % 8) ≡ eqb j k || bit_of (get_or fs (j / 8) 0) (j % 8)
    by_byte true q =
        let e = eqb-true (j / 8) (k / 8) q in
        ap (λ (n : ℕ). bit_of (get_or (set fs (k / 8) (with_bit b (k % 8))) n 0) (j % 8)) e
        ∙ ap (λ (n : ℕ). bit_of n (j % 8)) (get_or-set_same fs (k / 8) (with_bit b (k % 8)) 0 (omega (arith, w.long)))
        ∙ bit_right b (k % 8) (w.bytes (k / 8)) (omega arith) (j % 8) (omega arith)
        ∙ ap (λ (x : Bool). x || bit_of b (j % 8)) (same-type j k e)
        ∙ ap (λ (n : ℕ). eqb j k || bit_of (get_or fs n 0) (j % 8)) (sym e)
    by_byte false q =
        let n : j / 8 ≡ k / 8 → ⊥ = λ z. clash (sym q ∙ eq-eqb _ _ z) in
        ap (λ (n : ℕ). bit_of n (j % 8)) (get_or-set_other fs (k / 8) (j / 8) (with_bit b (k % 8)) 0 n)
        ∙ sym (ap (λ (x : Bool). x || bit_of (get_or fs (j / 8) 0) (j % 8)) (ne_eqb j k (λ z. n (ap (λ (x : ℕ). x / 8) z))))
      where
        clash : false ≡ true → ⊥
        clash z = let y : ◌≡◌ {A = ℕ} 0 1 = cc in omega arith

zero_bits : (i : ℕ) → i < 8 → bit_of 0 i ≡ false
unfolding alike
zero_bits i h = alike_same _ _ (at (λ i. alike (bit_of 0 i) false) 8 tt i h)

pub none-flagged : (j : ℕ) → j < 65536 → flagged (replicate 8192 0) j ≡ false
unfolding flagged
none-flagged j h = ap (λ (b : ℕ). bit_of b (j % 8)) (get_or-replicate {A = ℕ} 8192 (j / 8) 0 0 (omega arith)) ∙ zero_bits (j % 8) (omega arith)

-- ---- the code's bits: a byte and its bit j joined by or
ored : ℕ → ℕ → Bool
ored b j = eqb (bit_or b (1 * 2 ^ j % 256)) (with_bit b j)

all_ored : T (below (λ b. below (ored b) 8) 256)
unfolding ored
all_ored = tt

pub flag_ored : (fs : List ℕ) (k : ℕ) → get_or fs (k / 8) 0 < 256
    → set fs (k / 8) (bit_or (get_or fs (k / 8) 0) (1 * 2 ^ (k % 8) % 256)) ≡ flag fs k
unfolding flag ored
flag_ored fs k h =
    let b = get_or fs (k / 8) 0 in
    ap (set fs (k / 8)) (eqb_yes (at (ored b) 8 (at (λ b. below (ored b) 8) 256 all_ored b h) (k % 8) (omega arith)))

-- a type outside the index class is flagged
pub flag-outside : (fs : List ℕ) (k : ℕ) → in_class Types.index k ≡ false → flag fs k ≡ flag_outside fs k
flag-outside fs k e = sym (ap (λ (x : Bool). cond x fs (flag fs k)) e)

-- what is flagged stays flags
pub flags-flag : (fs : List ℕ) → Flags fs → (k : ℕ) → Flags (flag fs k)
unfolding flag
flags-flag fs w k = record { long = length-set fs (k / 8) _ ∙ w.long; bytes = λ i. by_place i (eqb i (k / 8)) refl }
  where
    v : ℕ
    v = with_bit (get_or fs (k / 8) 0) (k % 8)

    clash : false ≡ true → ⊥
    clash z = let y : ◌≡◌ {A = ℕ} 0 1 = cc in omega arith

    -- past the last byte nothing is set
    by_end : (i : ℕ) → i ≡ k / 8 → (x : Bool) → ltb i 8192 ≡ x → get_or (set fs (k / 8) (with_bit (get_or fs (k / 8) 0) (k % 8))) i 0 < 256
    by_end i e true q =
        let h = ltb-true i 8192 q in
        rw (e, get_or-set_same fs (k / 8) (with_bit (get_or fs (k / 8) 0) (k % 8)) 0 (omega (arith, w.long, e)))
        (bit_inside (get_or fs (k / 8) 0) (k % 8) (w.bytes (k / 8)) (omega arith))
    by_end i e false q =
        let l = length-set fs (k / 8) (with_bit (get_or fs (k / 8) 0) (k % 8)) in
        subst (λ (n : ℕ). n < 256)
        (sym (get_or-eq_default {A = ℕ} (set fs (k / 8) (with_bit (get_or fs (k / 8) 0) (k % 8))) 0
        (omega (arith, l, w.long, ltb-false i 8192 q)))) (omega arith)

    by_place : (i : ℕ) (x : Bool) → eqb i (k / 8) ≡ x → get_or (set fs (k / 8) (with_bit (get_or fs (k / 8) 0) (k % 8))) i 0 < 256
    by_place i true q = by_end i (eqb-true i (k / 8) q) (ltb i 8192) refl
    by_place i false q =
        rw (get_or-set_other fs (k / 8) i (with_bit (get_or fs (k / 8) 0) (k % 8)) 0 (λ z. clash (sym q ∙ eq-eqb i (k / 8) z))) (w.bytes i)

-- none flagged
pub flags-none : (fs : List ℕ) → fs ≡ replicate 8192 0 → Flags fs
flags-none fs e = subst Flags (sym e) (record { long = length-replicate {A = ℕ} 8192 0; bytes = λ i. by_place i (ltb i 8192) refl })
  where
    by_place : (i : ℕ) (x : Bool) → ltb i 8192 ≡ x → get_or (replicate 8192 0) i 0 < 256
    by_place i true q = subst (λ (n : ℕ). n < 256) (sym (get_or-replicate {A = ℕ} 8192 i 0 0 (ltb-true i 8192 q))) (omega arith)
    by_place i false q = subst (λ (n : ℕ). n < 256)
        (sym (get_or-eq_default {A = ℕ} (replicate 8192 0) 0
        (subst (λ (n : ℕ). n ≤ i) (sym (length-replicate {A = ℕ} 8192 0)) (ltb-false i 8192 q)))) (omega arith)

-- ---- the types of tuples
pub flags-outside : (fs : List ℕ) → Flags fs → (k : ℕ) → Flags (flag_outside fs k)
flags-outside fs w k = by-class (in_class Types.index k)
  where
    by-class : (x : Bool) → Flags (cond x fs (flag fs k))
    by-class true = w
    by-class false = flags-flag fs w k

pub flags-all : (fs : List ℕ) → Flags fs → (ts : List Tup) → Flags (flag_all fs ts)
unfolding flag_all
flags-all fs w [] = w
flags-all fs w (t ∷ ts) = flags-all (flag_outside fs t.kind) (flags-outside fs w t.kind) ts

-- one part after the other
pub flag_all_append : (fs : List ℕ) (us vs : List Tup) → flag_all fs (us ++ vs) ≡ flag_all (flag_all fs us) vs
unfolding flag_all
flag_all_append fs [] vs = refl
flag_all_append fs (u ∷ us) vs = flag_all_append (flag_outside fs u.kind) us vs

abbrev has_type : List Tup → ℕ → Bool
has_type ts j = has (λ (t : Tup). t.kind) j ts

-- flagged now is what was, and the tuple's type outside the index class
pub flagged-outside : (fs : List ℕ) → Flags fs → (k j : ℕ) → j < 65536
    → flagged (flag_outside fs k) j ≡ flagged fs j || (not (in_class Types.index j) && eqb j k)
flagged-outside fs w k j h = by-class (in_class Types.index k) refl
  where
    apart : in_class Types.index k ≡ true → (x y : Bool) → in_class Types.index j ≡ x → eqb j k ≡ y → not x && y ≡ false
    apart e true y p q = refl
    apart e false true p q = absurd (true≢false (sym e ∙ ap (in_class Types.index) (sym (eqb-true j k q)) ∙ p))
    apart e false false p q = refl

    same : in_class Types.index k ≡ false → (x y : Bool) → in_class Types.index j ≡ x → eqb j k ≡ y → y ≡ not x && y
    same e true true p q = absurd (true≢false (sym p ∙ ap (in_class Types.index) (eqb-true j k q) ∙ e))
    same e true false p q = refl
    same e false y p q = refl

    by-class : (x : Bool) → in_class Types.index k ≡ x
        → flagged (cond x fs (flag fs k)) j ≡ flagged fs j || (not (in_class Types.index j) && eqb j k)
    by-class true e =
        sym (ap (λ (x : Bool). flagged fs j || x) (apart e (in_class Types.index j) (eqb j k) refl refl) ∙ or-false (flagged fs j))
    by-class false e =
        flagged-flag fs w k j h
        ∙ or_swap (eqb j k) (flagged fs j)
        ∙ ap (λ (x : Bool). flagged fs j || x) (same e (in_class Types.index j) (eqb j k) refl refl)
      where
        or_swap : (a b : Bool) → a || b ≡ b || a
        or_swap true true = refl
        or_swap true false = refl
        or_swap false true = refl
        or_swap false false = refl

-- of all, those that were and those of the index
pub flagged-all : (fs : List ℕ) → Flags fs → (ts : List Tup) (j : ℕ) → j < 65536 → flagged (flag_all fs ts) j ≡ flagged fs j || is_typed ts j
unfolding flag_all is_typed has
flagged-all fs w [] j h = sym (ap (λ (x : Bool). flagged fs j || x) (nowhere (not (in_class Types.index j))) ∙ or-false (flagged fs j))
  where
    nowhere : (x : Bool) → x && false ≡ false
    nowhere true = refl
    nowhere false = refl
flagged-all fs w (t ∷ ts) j h =
    flagged-all (flag_outside fs t.kind) (flags-outside fs w t.kind) ts j h
    ∙ ap (λ (x : Bool). x || (not (in_class Types.index j) && has_type ts j)) (flagged-outside fs w t.kind j h)
    ∙ joined (flagged fs j) (not (in_class Types.index j)) (eqb j t.kind) (has_type ts j)
  where
    joined : (a b c d : Bool) → (a || (b && c)) || (b && d) ≡ a || (b && (c || d))
    joined true b c d = refl
    joined false true c d = refl
    joined false false c d = refl

-- with none flagged before, the flagged types are those of the index
pub flagged-types : (ts : List Tup) → flagged_types (flag_all (replicate 8192 0) ts) ≡ types_of ts
unfolding flagged_types types_of
flagged-types ts =
    let zeros = replicate {A = ℕ} 8192 0 in
    same_chosen (flagged (flag_all zeros ts)) (is_typed ts) 65536 0
    (λ j a b. flagged-all zeros (flags-none zeros refl) ts j b ∙ ap (λ (x : Bool). x || is_typed ts j) (none-flagged j b))

-- ---- passing types
-- a byte of 0 flags none
pub blank_byte : (fs : List ℕ) (k : ℕ) → k < 65536 → get_or fs (k / 8) 0 ≡ 0 → Blank fs (k + 1) (8 * (k / 8) + 8)
unfolding flagged
blank_byte fs k h e =
    record {
      on = omega arith;
      few = omega arith;
      none = λ j l u. (let z : j / 8 ≡ k / 8 = omega arith in
          ap (λ (n : ℕ). bit_of (get_or fs n 0) (j % 8)) z ∙ ap (λ (b : ℕ). bit_of b (j % 8)) e ∙ zero_bits (j % 8) (omega arith));
    }

pub blank_none : (fs : List ℕ) (k : ℕ) → k ≤ 65536 → Blank fs k k
blank_none fs k h = record { on = omega arith; few = h; none = λ j l u. absurd (omega arith) }
