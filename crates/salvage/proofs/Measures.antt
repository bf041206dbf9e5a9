-- What the loop that measures carries: the pieces to come, with what was measured, are the whole. Assumes nothing.
use mathlib.Core.Path.{◌≡◌, refl, sym, ap, subst, ◌∙◌}
use mathlib.Core.Bool.{Bool, true, false, cond, beq}
use mathlib.Core.List.{List, [], ◌∷◌, ◌++◌}
use Prim.Native.Nat.{ℕ, ◌+◌, ◌-◌, ◌≤◌, ◌<◌}
use native.Mathlib.Omega.{arith}
use lib.ListN.{length, drop, length-append}
use Rattle.frame.specs.Files.{limit, mark, is_msb}
use Rattle.frame.proofs.Files.{length-mark}
use Rattle.salvage.specs.declared.Piece.{Piece}
use Rattle.salvage.specs.declared.Sums.{Sums}
use Rattle.salvage.specs.Pieces.{piece_at, pieces_of, grown, ranges, tuples_kept, kept_in, bytes_kept}
use Rattle.salvage.specs.Salvage.{output_of}
use Rattle.salvage.specs.inner.Passes.{growing, closed, size_kept, sums_first, sums_past, sums_of, Few, Within}
use Rattle.salvage.proofs.Tiles.{Lying, found-lying, Tiles, tiles_of, tiles_none, first_pieces, grown-next, growing_to, length-kept}

-- ---- lengths
pub length-output : (f : List ℕ) → length (output_of f) ≡ 4 + length (bytes_kept f (pieces_of f))
unfolding output_of
length-output f =
    length-append (mark (is_msb f)) (bytes_kept f (pieces_of f))
    ∙ ap (λ (n : ℕ). n + length (bytes_kept f (pieces_of f))) (length-mark (is_msb f))

length-closed : (p q : Piece) → length (closed p q) ≡ cond (beq q.kept p.kept) 0 1
length-closed p q = by_test (beq q.kept p.kept)
  where
    by_test : (b : Bool) → length (cond b [] (p ∷ [])) ≡ cond b 0 1
    by_test true = refl
    by_test false = refl

-- each piece adds one at most
one-most : (b : Bool) → cond b 1 0 ≤ 1
one-most true = omega arith
one-most false = omega arith

none-most : (b : Bool) → cond b 0 1 ≤ 1
none-most true = omega arith
none-most false = omega arith

pub size-most : (p : Piece) → size_kept p ≤ p.to - p.from
size-most p = by_test p.kept
  where
    by_test : (b : Bool) → cond b (p.to - p.from) 0 ≤ p.to - p.from
    by_test true = omega arith
    by_test false = omega arith

pub within_of : {p : Piece} {at n m : ℕ} → Lying p at n → n ≤ m → Within p m
within_of l h = record { some = omega (arith, l.from, l.some); within = omega (arith, l.within) }

-- ---- what the loop carries
pub record Measuring (f : List ℕ) (o : Bool) (p : Piece) (s : Sums) : Type 0 where
  pub pieces : List Piece
  pub tiled : Tiles o f p.to pieces
  pub tuples : s.tuples + tuples_kept pieces ≡ tuples_kept (pieces_of f)
  pub written : s.written + length (bytes_kept f pieces) ≡ length (output_of f)
  pub ranges : s.ranges + length (grown p pieces) ≡ length (ranges (pieces_of f)) + 1
  pub tried : s.tried + length pieces ≡ length (pieces_of f)
  pub few : Few s p.to
  pub small : length f ≤ limit

-- nothing stands behind the mark
pub measured-none : (f : List ℕ) → length f ≡ 4
    → ◌≡◌ {A = Sums} (record { tuples = 0; written = 4; ranges = 0; tried = 0 }) (sums_of f)
measured-none f h =
    let e = tiles_none (is_msb f) f 4 (pieces_of f) (tiles_of f (is_msb f) (omega arith) refl) (omega arith) in
    let w : 4 ≡ length (output_of f) = sym (length-output f ∙ ap (λ (ps : List Piece). 4 + length (bytes_kept f ps)) e) in
    λ i. record {
      tuples = sym (ap tuples_kept e) i;
      written = w i;
      ranges = sym (ap (λ (ps : List Piece). length (ranges ps)) e) i;
      tried = sym (ap length e) i;
    }

module _ (f : List ℕ) (o : Bool) (p : Piece) (low : 4 ≤ length f) (more : length f ≡ 4 → ⊥) (small : length f ≤ limit)
    (a : p ≡ piece_at o f 4) where
  first-lying : Lying p 4 (length f)
  first-lying = found-lying o f 4 p (omega (arith, more)) a

  pub first-within : Within p limit
  first-within = within_of first-lying small

  -- behind the first piece
  pub measuring_begin : (s : Sums) → o ≡ is_msb f → s ≡ sums_first p → Measuring f o p s
  measuring_begin s e b =
      let qs = drop 1 (pieces_of f) in
      let first = first_pieces f o p low more e a in
      let all : pieces_of f ≡ p ∷ qs = first.0 in
      let y = first-lying in
      let kept = ap (λ (ps : List Piece). length (bytes_kept f ps)) all in
      subst (Measuring f o p) (sym b)
      (record {
        pieces = qs;
        tiled = first.1;
        tuples = sym (ap tuples_kept all);
        written = omega (arith, length-output f, kept, length-append (kept_in f p) (bytes_kept f qs), length-kept f p 4 y);
        ranges = omega (arith, ap (λ (ps : List Piece). length (ranges ps)) all);
        tried = omega (arith, ap length all);
        few = record {
          tuples = omega (arith, one-most p.kept, y.some);
          written = omega (arith, size-most p, y.from, y.some);
          ranges = omega (arith, y.some);
          tried = omega (arith, y.some);
        };
        small = small;
      })

module _ (f : List ℕ) (o : Bool) (p : Piece) (s : Sums) (g : Measuring f o p s) where
  -- before the end
  module _ (h : p.to < length f) (q : Piece) (a : q ≡ piece_at o f p.to) where
    next-lying : Lying q p.to (length f)
    next-lying = found-lying o f p.to q h a

    pub measuring_few : Few s q.from
    measuring_few = subst (Few s) (sym next-lying.from) g.few

    pub measuring_within : Within q limit
    measuring_within = within_of next-lying g.small

    pub measuring_past : (r : Piece) (t : Sums) → r ≡ growing p q → t ≡ sums_past s p q → Measuring f o r t
    measuring_past r t c d = rw (c, d) (by-pieces g.pieces g.tiled g.tuples g.written g.ranges g.tried)
      where
        by-pieces : (ps : List Piece) → Tiles o f p.to ps → s.tuples + tuples_kept ps ≡ tuples_kept (pieces_of f)
            → s.written + length (bytes_kept f ps) ≡ length (output_of f)
            → s.ranges + length (grown p ps) ≡ length (ranges (pieces_of f)) + 1
            → s.tried + length ps ≡ length (pieces_of f)
            → Measuring f o (growing p q) (sums_past s p q)
        by-pieces [] l x y z w = absurd (omega (arith, l))
        by-pieces (v ∷ ps) l x y z w =
            let same : v ≡ q = sym l.1 ∙ sym a in
            let n = next-lying in
            let to = growing_to p q in
            let size = length-kept f q p.to n in
            let kept = ap (λ (e : Piece). length (kept_in f e ++ bytes_kept f ps)) same in
            let next : grown p (v ∷ ps) ≡ closed p q ++ grown (growing p q) ps = ap (λ (e : Piece). grown p (e ∷ ps)) same
            ∙ grown-next p q ps in
            record {
              pieces = ps;
              tiled = subst (λ (k : ℕ). Tiles o f k ps) (ap (λ (e : Piece). e.to) same ∙ sym to) l.2;
              tuples = omega (arith, x, ap (λ (e : Piece). tuples_kept (e ∷ ps)) same);
              written = omega (arith, y, kept, length-append (kept_in f q) (bytes_kept f ps), size);
              ranges = omega (arith, z, ap length next, length-append (closed p q) (grown (growing p q) ps), length-closed p q);
              tried = omega (arith, w);
              few = record {
                tuples = omega (arith, to, one-most q.kept, n.some, g.few.tuples);
                written = omega (arith, to, size-most q, n.from, n.some, g.few.written);
                ranges = omega (arith, to, none-most (beq q.kept p.kept), n.some, g.few.ranges);
                tried = omega (arith, to, n.some, g.few.tried);
              };
              small = g.small;
            }

    pub measuring_less : (r : Piece) → r ≡ growing p q → length f - r.to < length f - p.to
    measuring_less r c = omega (arith, ap (λ (e : Piece). e.to) c, growing_to p q, next-lying.some)

  -- at the end the whole is measured
  pub measuring_done : length f ≤ p.to → s ≡ sums_of f
  unfolding grown
  measuring_done h =
      let none = tiles_none o f p.to g.pieces g.tiled h in
      let n : s.tuples ≡ tuples_kept (pieces_of f) = omega (arith, g.tuples, ap tuples_kept none) in
      let m : s.written ≡ length (output_of f) = omega (arith, g.written, ap (λ (ps : List Piece). length (bytes_kept f ps)) none) in
      let k : s.ranges ≡ length (ranges (pieces_of f)) = omega (arith, g.ranges, ap (λ (ps : List Piece). length (grown p ps)) none) in
      let t : s.tried ≡ length (pieces_of f) = omega (arith, g.tried, ap length none) in
      λ i. record { tuples = n i; written = m i; ranges = k i; tried = t i }
