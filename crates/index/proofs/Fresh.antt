-- An index worked out afresh: what is dropped changes no list of types and no place, nothing is linked or compared for it, and it is
-- its own index afresh. Assumes nothing.
use mathlib.Core.Path.{◌≡◌, refl, sym, ap, ◌∙◌}
use mathlib.Core.Bool.{Bool, true, false, not, cond, ◌&&◌, ◌||◌, true≢false}
use mathlib.Core.List.{List, [], ◌∷◌, ◌++◌}
use Prim.Native.Nat.{ℕ, ◌+◌, ◌*◌, ◌%◌}
use native.Mathlib.Omega.{arith}
use borrow.Author.Tests.{eqb-true}
use lib.Dec.{eqb}
use lib.ListN.{length, length-append}
use Rattle.layout.specs.Types
use Rattle.layout.specs.Types.{in_class, classes}
use Rattle.frame.specs.Frames.{Tup, length_of, frame, frames}
use Rattle.frame.proofs.Frames.{length-frame}
use Rattle.frame.proofs.Tuples.{frames_append}
use Rattle.links.specs.Links.{has}
use Rattle.index.specs.Index.{is_typed, types_of, index_tuple, index_of, before_end, from_end, with_index, outside, reindexed}
use Rattle.index.proofs.Laws.{same_chosen, length_data, end-split}

-- ---- the tests as plain choices
abbrev kept : Bool → Tup → List Tup → List Tup
kept true t ts = ts
kept false t ts = t ∷ ts

pub outside-next : (t : Tup) (ts : List Tup) (b : Bool) → in_class Types.index t.kind ≡ b → outside (t ∷ ts) ≡ kept b t (outside ts)
unfolding outside
outside-next t ts b e = by_test (in_class Types.index t.kind) ∙ ap (λ (x : Bool). kept x t (outside ts)) e
  where
    by_test : (x : Bool) → (elim x as (λ _. List Tup) [ true ↦ outside ts | false ↦ t ∷ outside ts ]) ≡ kept x t (outside ts)
    by_test true = refl
    by_test false = refl

pub before-next : (t : Tup) (ts : List Tup) (b : Bool) → eqb t.kind 65534 ≡ b → before_end (t ∷ ts) ≡ cond b [] (t ∷ before_end ts)
unfolding before_end
before-next t ts b e = by_test (eqb t.kind 65534) ∙ ap (λ (x : Bool). cond x [] (t ∷ before_end ts)) e
  where
    by_test : (x : Bool) → (elim x as (λ _. List Tup) [ true ↦ [] | false ↦ t ∷ before_end ts ]) ≡ cond x [] (t ∷ before_end ts)
    by_test true = refl
    by_test false = refl

pub from_next : (t : Tup) (ts : List Tup) (b : Bool) → eqb t.kind 65534 ≡ b → from_end (t ∷ ts) ≡ cond b (t ∷ ts) (from_end ts)
unfolding from_end
from_next t ts b e = by_test (eqb t.kind 65534) ∙ ap (λ (x : Bool). cond x (t ∷ ts) (from_end ts)) e
  where
    by_test : (x : Bool) → (elim x as (λ _. List Tup) [ true ↦ t ∷ ts | false ↦ from_end ts ]) ≡ cond x (t ∷ ts) (from_end ts)
    by_test true = refl
    by_test false = refl

-- the end of file is outside the index class
end-outside : (k : ℕ) → eqb k 65534 ≡ true → in_class Types.index k ≡ false
unfolding in_class classes
end-outside k e = ap (in_class Types.index) (eqb-true k 65534 e)

-- ---- dropping and parting
pub outside_append : (us vs : List Tup) → outside (us ++ vs) ≡ outside us ++ outside vs
unfolding outside
outside_append [] vs = refl
outside_append (u ∷ us) vs = by-class (in_class Types.index u.kind) refl (outside_append us vs)
  where
    by-class : (b : Bool) → in_class Types.index u.kind ≡ b → outside (us ++ vs) ≡ outside us ++ outside vs
        → outside (u ∷ (us ++ vs)) ≡ outside (u ∷ us) ++ outside vs
    by-class true e ih = outside-next u (us ++ vs) true e ∙ ih ∙ ap (λ (l : List Tup). l ++ outside vs) (sym (outside-next u us true e))
    by-class false e ih =
        outside-next u (us ++ vs) false e
        ∙ ap (λ (l : List Tup). u ∷ l) ih
        ∙ ap (λ (l : List Tup). l ++ outside vs) (sym (outside-next u us false e))

pub outside-again : (ts : List Tup) → outside (outside ts) ≡ outside ts
unfolding outside
outside-again [] = refl
outside-again (t ∷ ts) = by-class (in_class Types.index t.kind) refl (outside-again ts)
  where
    by-class : (b : Bool) → in_class Types.index t.kind ≡ b → outside (outside ts) ≡ outside ts
        → outside (outside (t ∷ ts)) ≡ outside (t ∷ ts)
    by-class true e ih = ap outside (outside-next t ts true e) ∙ ih ∙ sym (outside-next t ts true e)
    by-class false e ih =
        ap outside (outside-next t ts false e)
        ∙ outside-next t (outside ts) false e
        ∙ ap (λ (l : List Tup). t ∷ l) ih
        ∙ sym (outside-next t ts false e)

-- before the end of file and from it on, what is dropped is dropped
pub before-outside : (ts : List Tup) → before_end (outside ts) ≡ outside (before_end ts)
unfolding outside before_end
before-outside [] = refl
before-outside (t ∷ ts) = by_end (eqb t.kind 65534) refl (before-outside ts)
  where
    by-class : eqb t.kind 65534 ≡ false → (b : Bool) → in_class Types.index t.kind ≡ b
        → before_end (outside ts) ≡ outside (before_end ts)
        → before_end (kept b t (outside ts)) ≡ kept b t (outside (before_end ts))
    by-class h true e ih = ih
    by-class h false e ih = before-next t (outside ts) false h ∙ ap (λ (l : List Tup). t ∷ l) ih

    by_end : (b : Bool) → eqb t.kind 65534 ≡ b → before_end (outside ts) ≡ outside (before_end ts)
        → before_end (outside (t ∷ ts)) ≡ outside (before_end (t ∷ ts))
    by_end true e ih =
        ap before_end (outside-next t ts false (end-outside t.kind e))
        ∙ before-next t (outside ts) true e
        ∙ ap outside (sym (before-next t ts true e))
    by_end false e ih =
        ap before_end (outside-next t ts (in_class Types.index t.kind) refl)
        ∙ by-class e (in_class Types.index t.kind) refl ih
        ∙ sym (outside-next t (before_end ts) (in_class Types.index t.kind) refl)
        ∙ ap outside (sym (before-next t ts false e))

pub from-outside : (ts : List Tup) → from_end (outside ts) ≡ outside (from_end ts)
unfolding outside from_end
from-outside [] = refl
from-outside (t ∷ ts) = by_end (eqb t.kind 65534) refl (from-outside ts)
  where
    by-class : eqb t.kind 65534 ≡ false → (b : Bool) → from_end (outside ts) ≡ outside (from_end ts)
        → from_end (kept b t (outside ts)) ≡ outside (from_end ts)
    by-class h true ih = ih
    by-class h false ih = from_next t (outside ts) false h ∙ ih

    by_end : (b : Bool) → eqb t.kind 65534 ≡ b → from_end (outside ts) ≡ outside (from_end ts)
        → from_end (outside (t ∷ ts)) ≡ outside (from_end (t ∷ ts))
    by_end true e ih =
        let o = outside-next t ts false (end-outside t.kind e) in
        ap from_end o ∙ from_next t (outside ts) true e ∙ sym o ∙ ap outside (sym (from_next t ts true e))
    by_end false e ih =
        ap from_end (outside-next t ts (in_class Types.index t.kind) refl)
        ∙ by-class e (in_class Types.index t.kind) ih
        ∙ ap outside (sym (from_next t ts false e))

-- ---- the types
abbrev has_type : List Tup → ℕ → Bool
has_type ts k = has (λ (t : Tup). t.kind) k ts

-- a type outside the index class is among those outside it
has-outside : (k : ℕ) → in_class Types.index k ≡ false → (ts : List Tup) → has_type (outside ts) k ≡ has_type ts k
unfolding outside has
has-outside k h [] = refl
has-outside k h (t ∷ ts) = by-class (in_class Types.index t.kind) refl (eqb k t.kind) refl (has-outside k h ts)
  where
    by-class : (b : Bool) → in_class Types.index t.kind ≡ b → (y : Bool) → eqb k t.kind ≡ y → has_type (outside ts) k ≡ has_type ts k
        → has_type (outside (t ∷ ts)) k ≡ eqb k t.kind || has_type ts k
    by-class true e true q ih = absurd (true≢false (sym e ∙ ap (in_class Types.index) (sym (eqb-true k t.kind q)) ∙ h))
    by-class true e false q ih =
        ap (λ (l : List Tup). has_type l k) (outside-next t ts true e) ∙ ih ∙ ap (λ (b : Bool). b || has_type ts k) (sym q)
    by-class false e y q ih =
        ap (λ (l : List Tup). has_type l k) (outside-next t ts false e) ∙ ap (λ (b : Bool). eqb k t.kind || b) ih

pub types-outside : (ts : List Tup) → types_of (outside ts) ≡ types_of ts
unfolding types_of is_typed
types-outside ts = same_chosen (is_typed (outside ts)) (is_typed ts) 65536 0 (λ k a b. by-class k (in_class Types.index k) refl)
  where
    by-class : (k : ℕ) (b : Bool) → in_class Types.index k ≡ b
        → not (in_class Types.index k) && has_type (outside ts) k ≡ not (in_class Types.index k) && has_type ts k
    by-class k true e = rw e
    by-class k false e = ap (λ (b : Bool). not (in_class Types.index k) && b) (has-outside k e ts)

-- ---- an index is of the index class, and one put in is dropped again
pub outside-indexed : (o : Bool) (ts : List Tup) → outside (with_index o ts) ≡ outside ts
unfolding with_index in_class classes
outside-indexed o ts =
    outside_append (before_end ts) (index_of o ts ∷ from_end ts)
    ∙ ap (λ (l : List Tup). outside (before_end ts) ++ l) (outside-next (index_of o ts) (from_end ts) true refl)
    ∙ sym (outside_append (before_end ts) (from_end ts))
    ∙ ap outside (end-split ts)

-- the same by its parts: those before the end of file, the index of all, those from it on
pub reindexed-parts : (o : Bool) (ts : List Tup) → reindexed o ts ≡ outside (before_end ts) ++ (index_of o ts ∷ outside (from_end ts))
unfolding with_index
reindexed-parts o ts = λ i. before-outside ts i ++ (index_tuple o (types-outside ts i) ∷ from-outside ts i)

-- ---- its bytes
pub length-index : (o : Bool) (ks : List ℕ) → length_of (index_tuple o ks) ≡ 20 + 2 * (length ks + length ks % 2)
length-index o ks = omega (arith, length_data o ks)

pub length-frames-indexed : (o : Bool) (ts : List Tup) → length (frames o (with_index o ts)) ≡ length (frames o ts) + length_of (index_of o ts)
unfolding with_index
length-frames-indexed o ts =
    let us = before_end ts in
    let vs = from_end ts in
    let a = ap length (frames_append o us (index_of o ts ∷ vs)) ∙ length-append (frames o us) (frame o (index_of o ts) ++ frames o vs) in
    let b = length-append (frame o (index_of o ts)) (frames o vs) in
    let c : length (frames o ts) ≡ length (frames o us) + length (frames o vs) =
    ap (λ (l : List Tup). length (frames o l)) (sym (end-split ts)) ∙ ap length (frames_append o us vs)
    ∙ length-append (frames o us) (frames o vs) in
    a ∙ omega (arith, b, c, length-frame o (index_of o ts))
