-- The ranges of a file: they cover the bytes behind its mark once each, in file order, and their kinds alternate; and the offsets
-- tried: no more than a quarter of the file's length, and each divisible by 4. Assumes nothing.
use mathlib.Core.Path.{◌≡◌, refl, sym, ap, subst, ◌∙◌}
use mathlib.Core.Logic.{⊎_elim}
use mathlib.Core.Bool.{Bool, true, false, not, beq, true≢false}
use mathlib.Core.List.{List, [], ◌∷◌, ◌++◌}
use Prim.Native.Nat.{ℕ, ◌+◌, ◌-◌, ◌*◌, ◌/◌, ◌%◌, ◌≤◌, ◌<◌}
use native.Mathlib.Omega.{arith}
use lib.ListN.{length, drop, take-append-drop, drop_of_length-le}
use lib.Seq.{drop-drop}
use Rattle.frame.specs.Files.{is_msb}
use Rattle.salvage.specs.declared.Piece.{Piece}
use Rattle.salvage.specs.Pieces.{pieces_of, joined, grown, ranges, bytes_in}
use Rattle.salvage.specs.Report.{Covers, bytes_over, Alternates, Alternate, AllFours}
use Rattle.salvage.proofs.Tiles.{Tiles, tiles_of, tiles_none, tiles_lying}

-- ---- the ranges cover
pieces_cover : (o : Bool) (f : List ℕ) (at : ℕ) (ps : List Piece) → Tiles o f at ps → Covers at ps (length f)
pieces_cover o f at [] l = l
pieces_cover o f at (p ∷ ps) l = let y = tiles_lying o f at p ps l in (y.from, y.some, pieces_cover o f p.to ps l.2)

grown_cover : (p : Piece) (ps : List Piece) (at end : ℕ) → p.from ≡ at → at < p.to → Covers p.to ps end → Covers at (grown p ps) end
unfolding grown
grown_cover p [] at end a b c = (a, b, c)
grown_cover p (q ∷ qs) at end a b c =
    by_test (grown_cover (joined p q) qs at end a (omega (arith, b, c.1)) c.2)
    (grown_cover q qs p.to end c.0 c.1 c.2) (beq q.kept p.kept)
  where
    by_test : Covers at (grown (joined p q) qs) end → Covers p.to (grown q qs) end → (t : Bool)
        → Covers at (elim t as (λ _. List Piece) [ true ↦ grown (joined p q) qs | false ↦ p ∷ grown q qs ]) end
    by_test x y true = x
    by_test x y false = (a, b, y)

ranges_cover : (ps : List Piece) (at end : ℕ) → Covers at ps end → Covers at (ranges ps) end
ranges_cover [] at end c = c
ranges_cover (p ∷ ps) at end c = grown_cover p ps at end c.0 c.1 c.2

-- the ranges of a file, from behind its mark to its end
pub report-covers : (f : List ℕ) → 4 ≤ length f → Covers 4 (ranges (pieces_of f)) (length f)
report-covers f h = ranges_cover (pieces_of f) 4 (length f) (pieces_cover (is_msb f) f 4 (pieces_of f) (tiles_of f (is_msb f) h refl))

-- ranges that cover a file from a place on have its bytes from there on, once each and in file order
covers-bytes : (f : List ℕ) (ps : List Piece) (at : ℕ) → Covers at ps (length f) → bytes_over f ps ≡ drop at f
covers-bytes f [] at c = let h : length f ≤ at = omega (arith, c) in sym (drop_of_length-le f h)
covers-bytes f (p ∷ ps) at c =
    let n : p.from + (p.to - p.from) ≡ p.to = omega (arith, c.0, c.1) in
    let rest = covers-bytes f ps p.to c.2 ∙ ap (λ (k : ℕ). drop k f) (sym n) ∙ sym (drop-drop (p.to - p.from) p.from f) in
    ap (λ (x : List ℕ). bytes_in f p ++ x) rest
    ∙ take-append-drop (p.to - p.from) (drop p.from f)
    ∙ ap (λ (k : ℕ). drop k f) c.0

pub report-bytes : (f : List ℕ) → 4 ≤ length f → bytes_over f (ranges (pieces_of f)) ≡ drop 4 f
report-bytes f h = covers-bytes f (ranges (pieces_of f)) 4 (report-covers f h)

-- ---- their kinds alternate
differs : (a b k : Bool) → beq a b ≡ false → b ≡ k → a ≡ not k
differs true true k e h = absurd (true≢false e)
differs true false k e h = ap not h
differs false true k e h = ap not h
differs false false k e h = absurd (true≢false e)

grown_alternates : (k : Bool) (p : Piece) (ps : List Piece) → p.kept ≡ k → Alternates k (grown p ps)
unfolding grown
grown_alternates k p [] e = (e, tt)
grown_alternates k p (q ∷ qs) e =
    by_test (grown_alternates k (joined p q) qs e) (λ x. grown_alternates (not k) q qs x) (beq q.kept p.kept) refl
  where
    by_test : Alternates k (grown (joined p q) qs) → (q.kept ≡ not k → Alternates (not k) (grown q qs)) → (t : Bool)
        → beq q.kept p.kept ≡ t
        → Alternates k (elim t as (λ _. List Piece) [ true ↦ grown (joined p q) qs | false ↦ p ∷ grown q qs ])
    by_test x y true h = x
    by_test x y false h = (e, y (differs q.kept p.kept k h e))

from_first : (k : Bool) (rs : List Piece) → Alternates k rs → Alternate rs
from_first k [] a = tt
from_first k (r ∷ rs) a = subst (λ (x : Bool). Alternates (not x) rs) (sym a.0) a.1

pub report_alternates : (f : List ℕ) → Alternate (ranges (pieces_of f))
report_alternates f = by-pieces (pieces_of f)
  where
    by-pieces : (ps : List Piece) → Alternate (ranges ps)
    by-pieces [] = tt
    by-pieces (p ∷ ps) = from_first p.kept (grown p ps) (grown_alternates p.kept p ps refl)

-- ---- the offsets tried
tiles_count : (o : Bool) (f : List ℕ) (at : ℕ) (ps : List Piece) → Tiles o f at ps → 4 * length ps ≤ length f - at + 3
tiles_count o f at [] l = omega arith
tiles_count o f at (p ∷ ps) l =
    let y = tiles_lying o f at p ps l in
    let ih = tiles_count o f p.to ps l.2 in
    ⊎_elim (λ h. omega (arith, h, ih, y.within, y.some))
    (λ h. omega (arith, ap length (tiles_none o f p.to ps l.2 (omega (arith, h))), y.some, y.within)) y.wide

-- never above a quarter of the file's length
pub tried-most : (f : List ℕ) → 4 ≤ length f → length (pieces_of f) ≤ length f / 4
tried-most f h = omega (arith, tiles_count (is_msb f) f 4 (pieces_of f) (tiles_of f (is_msb f) h refl))

-- each of them is divisible by 4
tiles_fours : (o : Bool) (f : List ℕ) (at : ℕ) (ps : List Piece) → at % 4 ≡ 0 → Tiles o f at ps → AllFours ps
tiles_fours o f at [] z l = tt
tiles_fours o f at (p ∷ ps) z l =
    let y = tiles_lying o f at p ps l in (
      ap (λ (k : ℕ). k % 4) y.from ∙ z,
      ⊎_elim (λ h. tiles_fours o f p.to ps h l.2)
          (λ h. let e : length f ≤ p.to = omega (arith, h) in subst AllFours (sym (tiles_none o f p.to ps l.2 e)) tt) (y.four z),
    )

pub tried-fours : (f : List ℕ) → 4 ≤ length f → AllFours (pieces_of f)
tried-fours f h = tiles_fours (is_msb f) f 4 (pieces_of f) refl (tiles_of f (is_msb f) h refl)
