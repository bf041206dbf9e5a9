-- The places of linked pings rise along their file, so each is the one that stands at its place. Assumes nothing.
use mathlib.Core.Path.{◌≡◌, refl, ap, ap₂, subst, ◌∙◌}
use mathlib.Core.Bool.{Bool}
use mathlib.Core.List.{List, [], ◌∷◌, ◌++◌, map}
use mathlib.Core.Option.{Option, some, none}
use Prim.Native.Nat.{ℕ, ◌+◌, ◌≤◌, ◌<◌}
use native.Mathlib.Omega.{arith}
use borrow.Author.Tests.{eq-eqb, ne_eqb}
use Rattle.frame.specs.Frames.{Tup, length_of}
use Rattle.frame.specs.Files.{is_msb}
use Rattle.frame.specs.Tuples.{tuples_of}
use Rattle.links.specs.Links.{Links, start, note}
use Rattle.links.proofs.Parents.{In, first, later}
use Rattle.content.specs.Items.{Item, plain, ping, raw, item_of, digest}
use Rattle.linked.specs.Linked.{Linked, linked_here, linked_from, linked_of, standing}

-- ---- the one that stands at a place
module _ (l : Linked) (ls : List Linked) where
  pub stands_here : (p : ℕ) → l.place ≡ p → standing p (l ∷ ls) ≡ some l
  unfolding standing
  stands_here p e = rw (eq-eqb l.place p e, standing)

  pub stands-later : (p : ℕ) → (l.place ≡ p → ⊥) → standing p (l ∷ ls) ≡ standing p ls
  unfolding standing
  stands-later p e = rw (ne_eqb l.place p e, standing)

-- ---- places that rise: from p on, each above the one before it
abbrev Ahead : ℕ → List Linked → Type 0
Ahead p [] = Unit {0}
Ahead p (l ∷ ls) = (p ≤ l.place) × Ahead (l.place + 1) ls

ahead-less : (p q : ℕ) → p ≤ q → (ls : List Linked) → Ahead q ls → Ahead p ls
ahead-less p q h [] a = tt
ahead-less p q h (l ∷ ls) a = (omega (arith, h, a.0), a.1)

ahead : (o : Bool) (s : Links) (at : ℕ) (ts : List Tup) → Ahead at (linked_from o s at ts)
unfolding linked_from
ahead o s at [] = tt
ahead o s at (t ∷ ts) = by (item_of o t) _ (ahead o (note s (digest o t)) (at + length_of t) ts)
  where
    by : (i : Option Item) (ls : List Linked) → Ahead (at + length_of t) ls → Ahead at (linked_here s at i ++ ls)
    by none ls a = ahead-less at (at + length_of t) (omega arith) ls a
    by (some (plain k vs)) ls a = ahead-less at (at + length_of t) (omega arith) ls a
    by (some (ping q)) ls a = (omega arith, ahead-less (at + 1) (at + length_of t) (omega arith) ls a)
    by (some (raw k d)) ls a = ahead-less at (at + length_of t) (omega arith) ls a

-- none stands before the first
stands-none : (p q : ℕ) → p < q → (ls : List Linked) → Ahead q ls → standing p ls ≡ none
unfolding standing
stands-none p q h [] a = refl
stands-none p q h (l ∷ ls) a =
    stands-later l ls p (λ e. omega (arith, h, a.0)) ∙ stands-none p (l.place + 1) (omega (arith, h, a.0)) ls a.1

pub stands-behind : (o : Bool) (s : Links) (at p : ℕ) (ts : List Tup) → p < at → standing p (linked_from o s at ts) ≡ none
stands-behind o s at p ts h = stands-none p at h (linked_from o s at ts) (ahead o s at ts)

-- ---- each is the one that stands at its place
in-ahead : (p : ℕ) {l : Linked} (ls : List Linked) → Ahead p ls → In l ls → p ≤ l.place
in-ahead p {l = l} [] a x'' = elim x'' [ ]
in-ahead p (b ∷ ls) a first = a.0
in-ahead p (b ∷ ls) a (later i) = omega (arith, in-ahead (b.place + 1) ls a.1 i, a.0)

each : (p : ℕ) {l : Linked} (ls : List Linked) → Ahead p ls → In l ls → standing l.place ls ≡ some l
each p {l = l} [] a x'' = elim x'' [ ]
each p {l} (b ∷ ls) a first = stands_here b ls b.place refl
each p {l} (b ∷ ls) a (later i) =
    let h = in-ahead (b.place + 1) ls a.1 i in
    stands-later b ls l.place (λ e. omega arith) ∙ each (b.place + 1) ls a.1 i

module _ (f : List ℕ) where
  pub standing-each : (l : Linked) → In l (linked_of f) → standing l.place (linked_of f) ≡ some l
  unfolding linked_of
  standing-each l i = each 4 (linked_of f) (ahead (is_msb f) start 4 (tuples_of f)) i

  -- also the one that a loop is at, behind those that it has told
  pub standing-told : (done ls : List Linked) (l : Linked) → done ++ (l ∷ ls) ≡ linked_of f → standing l.place (linked_of f) ≡ some l
  standing-told done ls l e = standing-each l (subst (In l) e (by done))
    where
      by : (ms : List Linked) → In l (ms ++ (l ∷ ls))
      by [] = first
      by (m ∷ ms) = later (by ms)

  -- so what is made of all of them by their places is made of each
  pub standing-all : {B : Type 0} (g : Option Linked → B)
      → map (λ (l : Linked). g (standing l.place (linked_of f))) (linked_of f) ≡ map (λ (l : Linked). g (some l)) (linked_of f)
  standing-all g = by (linked_of f) (λ l i. ap g (standing-each l i))
    where
      by : (ls : List Linked) → ((l : Linked) → In l ls → g (standing l.place (linked_of f)) ≡ g (some l))
          → map (λ (l : Linked). g (standing l.place (linked_of f))) ls ≡ map (λ (l : Linked). g (some l)) ls
      by [] h = refl
      by (l ∷ ls) h = ap₂ ◌∷◌ (h l first) (by ls (λ m i. h m (later i)))
