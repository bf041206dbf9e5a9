-- The index of a file with private tuples lists their types, and besides these the types that the file's own index lists. Assumes
-- nothing.
use mathlib.Core.Path.{◌≡◌, refl, sym, ap, ap₂, ◌∙◌}
use mathlib.Core.Bool.{Bool, true, false, not, ◌&&◌, ◌||◌, true≢false}
use mathlib.Core.List.{List, [], ◌∷◌}
use Prim.Native.Nat.{ℕ, zero, suc, ◌+◌, ◌≤◌, ◌<◌}
use native.Mathlib.Omega.{arith}
use borrow.Author.Tests.{eqb-true, ne_eqb, eq-eqb, ltb-true, ltb-false}
use lib.Dec.{eqb, ltb}
use Rattle.rules.proofs.Bools.{or_assoc}
use Rattle.layout.specs.Types.{in_class, index}
use Rattle.frame.specs.Frames.{Tup}
use Rattle.frame.specs.Tuples.{tuples_of}
use Rattle.links.specs.Links.{has}
use Rattle.index.specs.Index.{chosen, is_typed, types_of}
use Rattle.index.proofs.Laws.{chosen-next}
use Rattle.partners.specs.Private.{Part, own, put, own_of, all_of, put_in, AllPrivate, parts_of, Mixed}
use Rattle.partners.specs.Types.{has_type, is_listed}
use Rattle.partners.proofs.Shapes.{private-class}
use Rattle.partners.proofs.Files.{put-between, all-private, tuples-own, tuples-all}

-- ---- what is chosen is what the test takes
abbrev among : ℕ → List ℕ → Bool
among k l = has (λ (j : ℕ). j) k l

-- numbers below are not among those from j on
below : (p : ℕ → Bool) (n j k : ℕ) → k < j → among k (chosen p n j) ≡ false
unfolding chosen has
below p zero j k h = refl
below p (suc n) j k h = by (p j) refl (below p n (j + 1) k (omega (arith, h)))
  where
    by : (b : Bool) → p j ≡ b → among k (chosen p n (j + 1)) ≡ false → among k (chosen p (suc n) j) ≡ false
    by true e r = ap (among k) (chosen-next p n j true e) ∙ ap₂ ◌||◌ (ne_eqb k j (omega (arith, h))) r
    by false e r = ap (among k) (chosen-next p n j false e) ∙ r

chosen-has : (p : ℕ → Bool) (n j k : ℕ) → j ≤ k → k < j + n → among k (chosen p n j) ≡ p k
unfolding has
chosen-has p zero j k l h = absurd (omega arith)
chosen-has p (suc n) j k l h = by (eqb k j) refl (λ q. chosen-has p n (j + 1) k (omega (arith, q)) (omega (arith, h)))
  where
    skipped : (b : Bool) → p j ≡ b → eqb k j ≡ false → among k (chosen p (suc n) j) ≡ among k (chosen p n (j + 1))
    skipped true e z = ap (among k) (chosen-next p n j true e) ∙ ap (λ (b : Bool). b || among k (chosen p n (j + 1))) z
    skipped false e z = ap (among k) (chosen-next p n j false e)

    taken : (b : Bool) → p j ≡ b → k ≡ j → among k (chosen p (suc n) j) ≡ p k
    taken true e z =
        ap (among k) (chosen-next p n j true e)
        ∙ ap (λ (b : Bool). b || among k (chosen p n (j + 1))) (eq-eqb k j z)
        ∙ sym (ap p z ∙ e)
    taken false e z =
        ap (among k) (chosen-next p n j false e) ∙ below p n (j + 1) k (omega (arith, z)) ∙ sym (ap p z ∙ e)

    by : (b : Bool) → eqb k j ≡ b → (j + 1 ≤ k → among k (chosen p n (j + 1)) ≡ p k) → among k (chosen p (suc n) j) ≡ p k
    by true e r = taken (p j) refl (eqb-true k j e)
    by false e r = skipped (p j) refl e ∙ r (above (ltb j k) refl e)
      where
        above : (b : Bool) → ltb j k ≡ b → eqb k j ≡ false → j + 1 ≤ k
        above true q z = omega (arith, ltb-true j k q)
        above false q z = absurd (true≢false (sym (eq-eqb k j (omega (arith, ltb-false j k q, l))) ∙ z))

-- ---- of tuples
listed-typed : (ts : List Tup) (k : ℕ) → k < 65536 → is_listed k ts ≡ is_typed ts k
unfolding types_of
listed-typed ts k h = chosen-has (is_typed ts) 65536 0 k (omega arith) h

or_swap : (a b c : Bool) → a || (b || c) ≡ b || (a || c)
or_swap true true c = refl
or_swap true false c = refl
or_swap false b c = refl

has_parts : (k : ℕ) (ps : List Part) → has_type k (all_of ps) ≡ has_type k (own_of ps) || has_type k (put_in ps)
unfolding has
has_parts k [] = refl
has_parts k (own t ∷ ps) =
    ap (λ (b : Bool). eqb k t.kind || b) (has_parts k ps) ∙ or_assoc (eqb k t.kind) (has_type k (own_of ps)) (has_type k (put_in ps))
has_parts k (put x ∷ ps) =
    ap (λ (b : Bool). eqb k x.kind || b) (has_parts k ps) ∙ or_swap (eqb k x.kind) (has_type k (own_of ps)) (has_type k (put_in ps))

-- a private one is of no index class
put-outside : (k : ℕ) (xs : List Tup) → AllPrivate xs → has_type k xs ≡ true → in_class index k ≡ false
unfolding has
put-outside k [] v e = absurd (true≢false (sym e))
put-outside k (x ∷ xs) v e = by (eqb k x.kind) refl e (put-outside k xs v.1)
  where
    by : (b : Bool) → eqb k x.kind ≡ b → b || has_type k xs ≡ true → (has_type k xs ≡ true → in_class index k ≡ false)
        → in_class index k ≡ false
    by true h q r = ap (in_class index) (eqb-true k x.kind h) ∙ private-class x.kind v.0
    by false h q r = r q

typed-parts : (k : ℕ) (ps : List Part) → AllPrivate (put_in ps) → is_typed (all_of ps) k ≡ is_typed (own_of ps) k || has_type k (put_in ps)
unfolding is_typed
typed-parts k ps v =
    ap (λ (b : Bool). not (in_class index k) && b) (has_parts k ps)
    ∙ by (in_class index k) (has_type k (own_of ps)) (has_type k (put_in ps)) (put-outside k (put_in ps) v)
  where
    by : (c a b : Bool) → (b ≡ true → c ≡ false) → not c && (a || b) ≡ (not c && a) || b
    by true a true h = absurd (true≢false (h refl))
    by true a false h = refl
    by false a b h = refl

-- ---- of two files
pub types : {f g : List ℕ} (m : Mixed f g) (k : ℕ) → k < 65536
    → is_listed k (tuples_of g) ≡ is_listed k (tuples_of f) || has_type k (put_in m.parts)
types {f} {g} m k h =
    ap (is_listed k) (tuples-all m)
    ∙ listed-typed (all_of (parts_of m)) k h
    ∙ typed-parts k (parts_of m) (all-private m)
    ∙ ap₂ (λ (a : Bool) (xs : List Tup). a || has_type k xs) (sym (listed-typed (own_of (parts_of m)) k h)) (put-between m.parts m.last)
    ∙ ap (λ (ts : List Tup). is_listed k ts || has_type k (put_in m.parts)) (sym (tuples-own m))
