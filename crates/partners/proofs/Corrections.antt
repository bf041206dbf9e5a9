-- The ping that is looked for beside corrections is the same with private tuples put in, in either file or in both: its bytes, and its
-- new place. Assumes nothing.
use mathlib.Core.Path.{◌≡◌, refl, sym, ap, ap₂, subst, ◌∙◌}
use mathlib.Core.Bool.{Bool, true, false}
use mathlib.Core.List.{List, [], ◌∷◌}
use Prim.Native.Nat.{ℕ, ◌+◌}
use native.Mathlib.Omega.{arith}
use lib.ListN.{take, drop}
use Rattle.layout.specs.declared.SoftwareChannel.{SoftwareChannel}
use Rattle.frame.specs.Frames.{Tup, length_of}
use Rattle.frame.specs.Files.{is_msb}
use Rattle.frame.specs.Tuples.{tuples_of}
use Rattle.content.specs.Items.{item_of}
use Rattle.corrections.specs.Spot.{Spot}
use Rattle.corrections.specs.Spot.{At, Nowhere}
use Rattle.corrections.specs.Corrections.{wanted, first_that, ping_in, chosen, found_by, found_of, part_of}
use Rattle.partners.specs.Private.{Part, own, put, own_of, all_of, put_in, AllPrivate, parts_of, Mixed, moved, PlacedAt, here, later}
use Rattle.partners.specs.Answers.{found_moved, Both}
use Rattle.partners.proofs.Shapes.{private-item}
use Rattle.partners.proofs.Places.{Follows, at_own, past-own, past-put, moved-begin}
use Rattle.partners.proofs.Files.{all-private, order-own, order-all, tuples-own, tuples-all}
use Rattle.partners.proofs.Readers.{same_bytes}

-- ---- where it stands
abbrev spot_moved : (ℕ → ℕ) → Spot → Spot
spot_moved to (At a n) = At (to a) n
spot_moved to Nowhere = Nowhere

module _ (o : Bool) (edited : Bool) (c : SoftwareChannel) (n : ℕ) where
  abbrev want : Tup → Bool
  want t = wanted edited c n (item_of o t)

  none-wanted : (x : Tup) → AllPrivate (x ∷ []) → want x ≡ false
  none-wanted x v = ap (wanted edited c n) (private-item o x v.0)

  module _ (to : ℕ → ℕ) where
    first-moved : (ps : List Part) → AllPrivate (put_in ps) → {at d : ℕ} → Follows to ps at d
        → first_that want (at + d) (all_of ps) ≡ spot_moved to (first_that want at (own_of ps))
    unfolding first_that
    first-moved [] v h = refl
    first-moved (own t ∷ ps) v {at} {d} h =
        let e : at + d + length_of t ≡ at + length_of t + d = omega arith in
        by (want t) (ap (λ (q : ℕ). first_that want q (all_of ps)) e ∙ first-moved ps v (past-own h))
      where
        by : (b : Bool) → first_that want (at + d + length_of t) (all_of ps) ≡ spot_moved to (first_that want (at + length_of t) (own_of ps))
            → (elim b as (λ _. Spot) [ true ↦ At (at + d) (length_of t) | false ↦ first_that want (at + d + length_of t) (all_of ps) ])
            ≡ spot_moved to
            (elim b as (λ _. Spot) [ true ↦ At at (length_of t) | false ↦ first_that want (at + length_of t) (own_of ps) ])
        by true r = ap (λ (q : ℕ). At q (length_of t)) (sym (at_own h))
        by false r = r
    first-moved (put x ∷ ps) v {at} {d} h =
        let e : at + d + length_of x ≡ at + (d + length_of x) = omega arith in
        rw (none-wanted x (v.0, tt), first_that)
        (ap (λ (q : ℕ). first_that want q (all_of ps)) e ∙ first-moved ps v.1 (past-put h))

-- of two files
module _ {f g : List ℕ} (m : Mixed f g) (edited : Bool) (c : SoftwareChannel) (n : ℕ) where
  pub ping-moved : ping_in edited g c n ≡ spot_moved (moved m) (ping_in edited f c n)
  unfolding ping_in
  ping-moved =
      ap₂ (λ (o : Bool) (ts : List Tup). first_that (λ (t : Tup). wanted edited c n (item_of o t)) 4 ts) (order-all m) (tuples-all m)
      ∙ first-moved m.msb edited c n (moved m) (parts_of m) (all-private m) (moved-begin m)
      ∙ sym (ap₂ (λ (o : Bool) (ts : List Tup). spot_moved (moved m) (first_that (λ (t : Tup). wanted edited c n (item_of o t)) 4 ts))
      (order-own m) (tuples-own m))

-- ---- its bytes: what is found stands there
spot-stands : (want : Tup → Bool) (ts : List Tup) {at a n : ℕ} → first_that want at ts ≡ At a n
    → (t : Tup) × PlacedAt at ts a t × (length_of t ≡ n)
unfolding first_that
spot-stands want [] e = absurd (let z : ◌≡◌ {A = ℕ} 0 1 = cc (e) in omega arith)
spot-stands want (t ∷ ts) {at} {a} {n} e = by (want t) e (spot-stands want ts)
  where
    by : (b : Bool) → (elim b as (λ _. Spot) [ true ↦ At at (length_of t) | false ↦ first_that want (at + length_of t) ts ]) ≡ At a n
        → (first_that want (at + length_of t) ts ≡ At a n → (u : Tup) × PlacedAt (at + length_of t) ts a u × (length_of u ≡ n))
        → (u : Tup) × PlacedAt at (t ∷ ts) a u × (length_of u ≡ n)
    by true h r =
        let place : at ≡ a = cc (h) in
        let size : length_of t ≡ n = cc (h) in
        (t, subst (λ (q : ℕ). PlacedAt at (t ∷ ts) q t) place here, size)
    by false h r = let x = r h in (x.0, later x.1, x.2)

module _ {f g : List ℕ} (m : Mixed f g) (b : Both m) (edited : Bool) (c : SoftwareChannel) (n : ℕ) where
  bytes-moved : {a len : ℕ} → ping_in edited f c n ≡ At a len → take len (drop (moved m a) g) ≡ take len (drop a f)
  unfolding ping_in
  bytes-moved {a} {len} e =
      let x = spot-stands (λ (t : Tup). wanted edited c n (item_of (is_msb f) t)) (tuples_of f) e in
      subst (λ (q : ℕ). take q (drop (moved m a) g) ≡ take q (drop a f)) x.2 (same_bytes m b x.1)

-- ---- in a deposit and in corrections
chosen-moved : (deposit corrections : ℕ → ℕ) (s t : Spot)
    → chosen (spot_moved corrections s) (spot_moved deposit t) ≡ found_moved deposit corrections (chosen s t)
chosen-moved deposit corrections (At a n) t = refl
chosen-moved deposit corrections Nowhere (At a n) = refl
chosen-moved deposit corrections Nowhere Nowhere = refl

module _ {d d' k k' : List ℕ} (m : Mixed d d') (l : Mixed k k') (b : Both m) (e : Both l) (c : SoftwareChannel) (n : ℕ) where
  found-own : found_of d k c n ≡ chosen (ping_in true k c n) (ping_in false d c n)
  unfolding found_of
  found-own = ap₂ (found_by d k c n) b.without e.without

  pub found : found_of d' k' c n ≡ found_moved (moved m) (moved l) (found_of d k c n)
  unfolding found_of
  found =
      ap₂ (found_by d' k' c n) b.within e.within
      ∙ ap₂ chosen (ping-moved l true c n) (ping-moved m false c n)
      ∙ chosen-moved (moved m) (moved l) (ping_in true k c n) (ping_in false d c n)
      ∙ sym (ap (found_moved (moved m) (moved l)) found-own)

  -- and its bytes
  pub part : part_of d' k' (found_of d' k' c n) ≡ part_of d k (found_of d k c n)
  part =
      ap (part_of d' k') (found ∙ ap (found_moved (moved m) (moved l)) found-own)
      ∙ by (ping_in true k c n) (ping_in false d c n) refl refl
      ∙ sym (ap (part_of d k) found-own)
    where
      by : (s t : Spot) → ping_in true k c n ≡ s → ping_in false d c n ≡ t
          → part_of d' k' (found_moved (moved m) (moved l) (chosen s t)) ≡ part_of d k (chosen s t)
      by (At a i) t x y = bytes-moved l e true c n x
      by Nowhere (At a i) x y = bytes-moved m b false c n y
      by Nowhere Nowhere x y = refl
