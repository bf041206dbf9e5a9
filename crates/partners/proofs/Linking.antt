-- Private tuples put in between sound and linked ones leave them sound and linked, and so does taking them out: the same identifiers
-- are compared. Assumes nothing.
use mathlib.Core.Path.{◌≡◌, refl, ap, ◌∙◌}
use mathlib.Core.Bool.{Bool, false}
use mathlib.Core.List.{List, [], ◌∷◌, ◌++◌}
use Prim.Native.Nat.{ℕ, ◌+◌}
use native.Mathlib.Omega.{arith}
use lib.ListN.{length}
use Rattle.frame.specs.Frames.{Tup}
use Rattle.frame.specs.Tuples.{AllFramed}
use Rattle.links.specs.Links.{Digest, nothing, Links, compares, note}
use Rattle.links.proofs.Linked.{Linked, note-nothing, with_nothing, without, relinked}
use Rattle.content.specs.Items.{digest}
use Rattle.intake.specs.Compared.{comparisons}
use Rattle.intake.proofs.Accepted.{AllSound, digests}
use Rattle.partners.specs.Private.{Part, own, put, own_of, all_of, put_in, AllPrivate}
use Rattle.partners.proofs.Shapes.{private-digest, private-sound}

-- ---- tuples by themselves
pub own-framed : (ps : List Part) → AllFramed (all_of ps) → AllFramed (own_of ps)
own-framed [] g = tt
own-framed (own t ∷ ps) g = (g.0, own-framed ps g.1)
own-framed (put x ∷ ps) g = own-framed ps g.1

pub put-sound : (o : Bool) (ps : List Part) → AllPrivate (put_in ps) → AllFramed (all_of ps) → AllSound o (own_of ps) → AllSound o (all_of ps)
put-sound o [] v g s = tt
put-sound o (own t ∷ ps) v g s = (s.0, put-sound o ps v g.1 s.1)
put-sound o (put x ∷ ps) v g s = (private-sound o x v.0 g.0, put-sound o ps v.1 g.1 s)

pub own-sound : (o : Bool) (ps : List Part) → AllSound o (all_of ps) → AllSound o (own_of ps)
own-sound o [] s = tt
own-sound o (own t ∷ ps) s = (s.0, own-sound o ps s.1)
own-sound o (put x ∷ ps) s = own-sound o ps s.1

pub length-parts : (ps : List Part) → length (all_of ps) ≡ length (own_of ps) + length (put_in ps)
length-parts [] = omega arith
length-parts (own t ∷ ps) = omega (arith, length-parts ps)
length-parts (put x ∷ ps) = omega (arith, length-parts ps)

-- ---- between them
pub same-compared : (o : Bool) (ps : List Part) → AllPrivate (put_in ps) → (s : Links)
    → comparisons o s (all_of ps) ≡ comparisons o s (own_of ps)
unfolding comparisons
same-compared o [] v s = refl
same-compared o (own t ∷ ps) v s =
    ap (λ (n : ℕ). compares s (digest o t).link + n) (same-compared o ps v (note s (digest o t)))
same-compared o (put x ∷ ps) v s =
    let rest : comparisons o (note s nothing) (all_of ps)
    ≡ comparisons o s (own_of ps) = ap (λ (k : Links). comparisons o k (all_of ps)) (note-nothing s) ∙ same-compared o ps v.1 s in
    ap (λ (d : Digest). compares s d.link + comparisons o (note s d) (all_of ps)) (private-digest o x v.0) ∙ omega (arith, rest)

-- behind the first, with a last one of the file's own
module _ (o : Bool) (z : Tup) where
  abbrev ending : List Part → List Part
  ending ps = ps ++ (own z ∷ [])

  empty : {A : Type 0} {d : Digest} {ds : List Digest} → d ∷ ds ≡ [] → A
  empty e = absurd (let y : ◌≡◌ {A = ℕ} 0 1 = cc in omega arith)

  some-own : {A : Type 0} (ps : List Part) → digests o (own_of (ending ps)) ≡ [] → A
  some-own [] e = empty e
  some-own (own t ∷ ps) e = empty e
  some-own (put x ∷ ps) e = some-own ps e

  some-all : {A : Type 0} (ps : List Part) → digests o (all_of (ending ps)) ≡ [] → A
  some-all [] e = empty e
  some-all (own t ∷ ps) e = empty e
  some-all (put x ∷ ps) e = empty e

  pub put_linked : (ps : List Part) → AllPrivate (put_in ps) → (s : Links) → Linked false s (digests o (own_of (ending ps)))
      → Linked false s (digests o (all_of (ending ps)))
  put_linked [] v s l = l
  put_linked (own t ∷ ps) v s l =
      relinked {ds = digests o (own_of (ending ps))} (λ e. some-own ps e) (λ q k. put_linked ps v q k) l
  put_linked (put x ∷ ps) v s l = with_nothing (private-digest o x v.0) (put_linked ps v.1 s l)

  pub own-linked : (ps : List Part) → AllPrivate (put_in ps) → (s : Links) → Linked false s (digests o (all_of (ending ps)))
      → Linked false s (digests o (own_of (ending ps)))
  own-linked [] v s l = l
  own-linked (own t ∷ ps) v s l =
      relinked {ds = digests o (all_of (ending ps))} (λ e. some-all ps e) (λ q k. own-linked ps v q k) l
  own-linked (put x ∷ ps) v s l = own-linked ps v.1 s (without (private-digest o x v.0) l)

  -- and with a first one
  pub put_first : (first : Bool) (s : Links) (a : Tup) (ps : List Part) → AllPrivate (put_in ps)
      → Linked first s (digests o (a ∷ own_of (ending ps)))
      → Linked first s (digests o (a ∷ all_of (ending ps)))
  put_first first s a ps v l = relinked {ds = digests o (own_of (ending ps))} (λ e. some-own ps e) (λ q k. put_linked ps v q k) l

  pub own_first : (first : Bool) (s : Links) (a : Tup) (ps : List Part) → AllPrivate (put_in ps)
      → Linked first s (digests o (a ∷ all_of (ending ps)))
      → Linked first s (digests o (a ∷ own_of (ending ps)))
  own_first first s a ps v l = relinked {ds = digests o (all_of (ending ps))} (λ e. some-all ps e) (λ q k. own-linked ps v q k) l
