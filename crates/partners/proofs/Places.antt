-- Where the places of a file are once private tuples are put in: they keep their order, each tuple keeps the places within it, and no
-- place of the file falls on a tuple put in. Assumes nothing.
use mathlib.Core.Path.{◌≡◌, refl, sym, ap, subst, ◌∙◌}
use mathlib.Core.Bool.{Bool, true, false, cond}
use mathlib.Core.List.{List, [], ◌∷◌, ◌++◌}
use Prim.Native.Nat.{ℕ, ◌+◌, ◌≤◌, ◌<◌}
use native.Mathlib.Omega.{arith}
use borrow.Author.Tests.{ltb-true, ltb-false, lt-ltb, le-ltb}
use lib.Dec.{ltb}
use Rattle.rules.proofs.Bools.{same_arms}
use Rattle.frame.specs.Frames.{Tup, length_of}
use Rattle.partners.specs.Private.{Part, own, put, own_of, all_of, put_in, parts_of, shift, Mixed, moved, PlacedAt, here, later}

-- ---- how far a place moves
module _ (t : Tup) (ps : List Part) (at p : ℕ) where
  pub shift-here : p < at + length_of t → shift (own t ∷ ps) at p ≡ 0
  unfolding shift
  shift-here h = rw (lt-ltb p (at + length_of t) h)

  pub shift_past : at + length_of t ≤ p → shift (own t ∷ ps) at p ≡ shift ps (at + length_of t) p
  unfolding shift
  shift_past h = rw (le-ltb p (at + length_of t) h)

-- a later place as far or further
further : (ps : List Part) (at p q : ℕ) → p ≤ q → shift ps at p ≤ shift ps at q
unfolding shift
further [] at p q h = omega arith
further (own t ∷ ps) at p q h = by (ltb p (at + length_of t)) refl (further ps (at + length_of t) p q h)
  where
    by : (b : Bool) → ltb p (at + length_of t) ≡ b → shift ps (at + length_of t) p ≤ shift ps (at + length_of t) q
        → shift (own t ∷ ps) at p ≤ shift (own t ∷ ps) at q
    by true e r = omega (arith, shift-here t ps at p (ltb-true p (at + length_of t) e))
    by false e r =
        let l = ltb-false p (at + length_of t) e in
        omega (arith, r, shift_past t ps at p l, shift_past t ps at q (omega (arith, l, h)))
further (put x ∷ ps) at p q h = omega (arith, further ps at p q h)

-- ---- a map of places that goes by what is left of the parts: the first of them stands at `at` in the file, and d bytes further on where
-- all stand
pub record Follows (to : ℕ → ℕ) (ps : List Part) (at d : ℕ) : Type 0 where
  pub ahead : (p : ℕ) → at ≤ p → to p ≡ p + (d + shift ps at p)
  pub passed : (p : ℕ) → p < at → to p ≤ p + d

module _ {to : ℕ → ℕ} {t : Tup} {ps : List Part} {at d : ℕ} (h : Follows to (own t ∷ ps) at d) where
  pub at_own : to at ≡ at + d
  at_own = omega (arith, h.ahead at (omega arith), shift-here t ps at at (omega arith))

  pub past-own : Follows to ps (at + length_of t) d
  past-own =
      record {
        ahead = λ p l. omega (arith, h.ahead p (omega (arith, l)), shift_past t ps at p l);
        passed = λ p l. by p l (ltb p at) refl;
      }
    where
      by : (p : ℕ) → p < at + length_of t → (b : Bool) → ltb p at ≡ b → to p ≤ p + d
      by p l true e = h.passed p (ltb-true p at e)
      by p l false e = omega (arith, h.ahead p (ltb-false p at e), shift-here t ps at p l)

module _ {to : ℕ → ℕ} {x : Tup} {ps : List Part} {at d : ℕ} (h : Follows to (put x ∷ ps) at d) where
  pub past-put : Follows to ps at (d + length_of x)
  unfolding shift
  past-put = record { ahead = λ p l. omega (arith, h.ahead p l); passed = λ p l. omega (arith, h.passed p l) }

  -- no place of the file falls on it
  pub not-put : (p : ℕ) → at + d ≡ to p → ⊥
  unfolding shift
  not-put p e = by (ltb p at) refl
    where
      by : (b : Bool) → ltb p at ≡ b → ⊥
      by true q = omega (arith, ltb-true p at q, h.passed p (ltb-true p at q))
      by false q = omega (arith, ltb-false p at q, h.ahead p (ltb-false p at q))

-- ---- that of two files
module _ {f g : List ℕ} (m : Mixed f g) where
  abbrev rest : List Part
  rest = m.parts ++ (own m.last ∷ [])

  pub moved-begin : Follows (moved m) (own m.first ∷ rest) 4 0
  unfolding moved
  moved-begin =
      record {
        ahead = λ p l. omega arith;
        passed = λ p l. omega (arith, shift-here m.first rest 4 p (omega (arith, l)));
      }

  -- what lies in the mark stays, and 0, where nothing stands
  pub moved_none : moved m 0 ≡ 0
  unfolding moved
  moved_none = omega (arith, shift-here m.first rest 4 0 (omega arith))

  -- the order of places stays
  pub moved-rises : (p q : ℕ) → p < q → moved m p < moved m q
  unfolding moved
  moved-rises p q h = omega (arith, further (own m.first ∷ rest) 4 p q (omega (arith, h)))

  pub moved_apart : (p q : ℕ) → (p ≡ q → ⊥) → moved m p ≡ moved m q → ⊥
  moved_apart p q n e = by (ltb p q) refl
    where
      by : (b : Bool) → ltb p q ≡ b → ⊥
      by true h = omega (arith, moved-rises p q (ltb-true p q h))
      by false h = below (ltb q p) refl
        where
          below : (b : Bool) → ltb q p ≡ b → ⊥
          below true k = omega (arith, moved-rises q p (ltb-true q p k))
          below false k = n (omega (arith, ltb-false p q h, ltb-false q p k))

-- ---- where none are put in nothing moves
none-put : (ps : List Part) → put_in ps ≡ [] → (at p : ℕ) → shift ps at p ≡ 0
unfolding shift
none-put [] e at p = refl
none-put (own t ∷ ps) e at p = ap (cond (ltb p (at + length_of t)) 0) (none-put ps e (at + length_of t) p)
    ∙ same_arms (ltb p (at + length_of t)) 0
none-put (put x ∷ ps) e at p = absurd (let z : ◌≡◌ {A = ℕ} 0 1 = cc (e) in omega arith)

pub still : {f g : List ℕ} (m : Mixed f g) → put_in (parts_of m) ≡ [] → (p : ℕ) → moved m p ≡ p
unfolding moved
still m e p = omega (arith, none-put (parts_of m) e 4 p)

-- ---- the file's tuples stand among all
module _ (to : ℕ → ℕ) where
  pub stands_on : (ps : List Part) {at d p : ℕ} {t : Tup} → Follows to ps at d → PlacedAt at (own_of ps) p t
      → PlacedAt (at + d) (all_of ps) (to p) t
  stands_on [] {at = at} {d = d} {p = p} {t = t} h s = elim s [ ]
  stands_on (own u ∷ ps) {at} {d} h here = subst (λ (q : ℕ). PlacedAt (at + d) (u ∷ all_of ps) q u) (sym (at_own h)) here
  stands_on (own u ∷ ps) {at} {d} {p} {t} h (later s) =
      let e : at + length_of u + d ≡ at + d + length_of u = omega arith in
      later (subst (λ (q : ℕ). PlacedAt q (all_of ps) (to p) t) e (stands_on ps (past-own h) s))
  stands_on (put x ∷ ps) {at} {d} {p} {t} h s =
      let e : at + (d + length_of x) ≡ at + d + length_of x = omega arith in
      later (subst (λ (q : ℕ). PlacedAt q (all_of ps) (to p) t) e (stands_on ps (past-put h) s))
