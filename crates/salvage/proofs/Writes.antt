-- What the loop that writes carries: with the pieces to come, the output and the table are the whole. Assumes nothing.
use mathlib.Core.Path.{◌≡◌, refl, sym, ap, ap₂, subst, ◌∙◌}
use mathlib.Core.Bool.{Bool, true, false, beq}
use mathlib.Core.List.{List, [], ◌∷◌, ◌++◌, append-nil}
use Prim.Native.Nat.{ℕ, ◌+◌, ◌*◌, ◌≤◌, ◌<◌}
use native.Mathlib.Omega.{arith}
use lib.ListN.{length, drop, length-append}
use lib.Seq.{sets, length-sets}
use Rattle.order.proofs.Stores.{sets_append}
use Rattle.frame.specs.Files.{mark, is_msb}
use Rattle.frame.proofs.Files.{length-mark}
use Rattle.salvage.specs.declared.Piece.{Piece}
use Rattle.salvage.specs.Pieces.{piece_at, pieces_of, joined, grown, ranges, kept_in, bytes_kept}
use Rattle.salvage.specs.Salvage.{output_of, row_of, rows_of, report_of}
use Rattle.salvage.specs.inner.Passes.{growing, closed, size_kept, Within, Roomy}
use Rattle.salvage.proofs.Tiles.{Lying, found-lying, Tiles, tiles_of, tiles_none, first_pieces, grown-next, growing_to, length-kept}
use Rattle.salvage.proofs.Measures.{length-output, within_of}

-- ---- rows: three entries each, one behind the other
pub length-rows : (ps : List Piece) → length (rows_of ps) ≡ 3 * length ps
length-rows [] = refl
length-rows (p ∷ ps) = omega (arith, length-rows ps)

rows_append : (ps qs : List Piece) → rows_of (ps ++ qs) ≡ rows_of ps ++ rows_of qs
rows_append [] qs = refl
rows_append (p ∷ ps) qs = ap (λ (l : List ℕ). row_of p ++ l) (rows_append ps qs)

-- a range always stands open
grown-some : (p : Piece) (ps : List Piece) → 1 ≤ length (grown p ps)
unfolding grown
grown-some p [] = omega arith
grown-some p (q ∷ qs) = by_test (grown-some (joined p q) qs) (beq q.kept p.kept)
  where
    by_test : 1 ≤ length (grown (joined p q) qs) → (b : Bool)
        → 1 ≤ length {A = Piece} (elim b as (λ _. List Piece) [ true ↦ grown (joined p q) qs | false ↦ p ∷ grown q qs ])
    by_test h true = h
    by_test h false = omega arith

-- ---- the first piece, p, behind the mark
module _ (f : List ℕ) (o : Bool) (p : Piece) (low : 4 ≤ length f) (more : length f ≡ 4 → ⊥) (e : o ≡ is_msb f)
    (a : p ≡ piece_at o f 4) where
  pub first-lying : Lying p 4 (length f)
  first-lying = found-lying o f 4 p (omega (arith, more)) a

  first : (pieces_of f ≡ p ∷ drop 1 (pieces_of f)) × Tiles o f p.to (drop 1 (pieces_of f))
  first = first_pieces f o p low more e a

  size-first : length (kept_in f p) ≡ size_kept p
  size-first = length-kept f p 4 first-lying

  pub length-first : 4 + size_kept p + length (bytes_kept f (drop 1 (pieces_of f))) ≡ length (output_of f)
  length-first =
      let all = ap (λ (ps : List Piece). length (bytes_kept f ps)) first.0 in
      omega (arith, length-output f, all, length-append (kept_in f p) (bytes_kept f (drop 1 (pieces_of f))), size-first)

  pub report-first : report_of f ≡ rows_of (grown p (drop 1 (pieces_of f)))
  unfolding report_of
  report-first = ap (λ (ps : List Piece). rows_of (ranges ps)) first.0

  -- the mark, the first piece and those to come are the output
  pub output-first : (out : List ℕ) {marked put left : List ℕ} {to : ℕ} → marked ≡ sets out 0 (mark o) → put ≡ sets marked 4 (kept_in f p)
      → to ≡ 4 + size_kept p → left ≡ sets put to (bytes_kept f (drop 1 (pieces_of f)))
      → left ≡ sets out 0 (output_of f)
  unfolding output_of
  output-first out {marked} {put} {left} {to} m k n w =
      let rest = bytes_kept f (drop 1 (pieces_of f)) in
      let four : 4 ≡ 0 + length (mark o) = omega (arith, length-mark o) in
      w
      ∙ ap₂ (λ (l : List ℕ) (i : ℕ). sets l i rest) k (n ∙ ap (λ (i : ℕ). 4 + i) (sym size-first))
      ∙ sym (sets_append (kept_in f p) rest marked 4)
      ∙ ap₂ (λ (l : List ℕ) (i : ℕ). sets l i (kept_in f p ++ rest)) m four
      ∙ sym (sets_append (mark o) (kept_in f p ++ rest) out 0)
      ∙ ap₂ (λ (x : Bool) (ps : List Piece). sets out 0 (mark x ++ bytes_kept f ps)) e (sym first.0)

-- ---- what the loop carries
pub record Writing (f out₀ table₀ : List ℕ) (to₀ : ℕ) (o : Bool) (p : Piece) (to i : ℕ) (out table : List ℕ) : Type 0 where
  pub pieces : List Piece
  pub tiled : Tiles o f p.to pieces
  pub same : sets out to (bytes_kept f pieces) ≡ sets out₀ to₀ (bytes_kept f (drop 1 (pieces_of f)))
  pub room : to + length (bytes_kept f pieces) ≤ length out
  pub told : sets table i (rows_of (grown p pieces)) ≡ sets table₀ 0 (report_of f)
  pub entries : i + length (rows_of (grown p pieces)) ≤ length table

pub writing-begin : (f : List ℕ) (o : Bool) (p : Piece) → 4 ≤ length f → (length f ≡ 4 → ⊥) → o ≡ is_msb f → p ≡ piece_at o f 4
    → (out table : List ℕ) (to : ℕ) → to ≡ 4 + size_kept p → Roomy f (length out) (length table)
    → Writing f out table to o p to 0 out table
writing-begin f o p low more e a out table to h r =
    record {
      pieces = drop 1 (pieces_of f);
      tiled = (first f o p low more e a).1;
      same = refl;
      room = omega (arith, length-first f o p low more e a, r.output);
      told = ap (sets table 0) (sym (report-first f o p low more e a));
      entries = omega (arith, ap length (report-first f o p low more e a), r.report);
    }

module _ {f out₀ table₀ : List ℕ} {to₀ : ℕ} {o : Bool} {p : Piece} {to i : ℕ} {out table : List ℕ}
    (w : Writing f out₀ table₀ to₀ o p to i out table) where
  -- a row is free
  pub writing-row : i + 3 ≤ length table
  writing-row = omega (arith, w.entries, length-rows (grown p w.pieces), grown-some p w.pieces)

  -- before the end
  module _ (h : p.to < length f) (q : Piece) (a : q ≡ piece_at o f p.to) where
    writing-lying : Lying q p.to (length f)
    writing-lying = found-lying o f p.to q h a

    pub writing-within : Within q (length f)
    writing-within = within_of writing-lying (omega arith)

    size-next : length (kept_in f q) ≡ size_kept q
    size-next = length-kept f q p.to writing-lying

    pub writing-room : to + size_kept q ≤ length out
    writing-room = by-pieces w.pieces w.tiled w.room
      where
        by-pieces : (ps : List Piece) → Tiles o f p.to ps → to + length (bytes_kept f ps) ≤ length out → to + size_kept q ≤ length out
        by-pieces [] l r = absurd (omega (arith, l))
        by-pieces (v ∷ ps) l r =
            let same : v ≡ q = sym l.1 ∙ sym a in
            let all = ap (λ (x : Piece). length (kept_in f x ++ bytes_kept f ps)) same in
            omega (arith, r, all, length-append (kept_in f q) (bytes_kept f ps), size-next)

    pub writing-again : (r : Piece) (to⁺ i⁺ : ℕ) (out⁺ table⁺ : List ℕ) → r ≡ growing p q → to⁺ ≡ to + size_kept q
        → out⁺ ≡ sets out to (kept_in f q) → i⁺ ≡ i + length (rows_of (closed p q)) → table⁺ ≡ sets table i (rows_of (closed p q))
        → Writing f out₀ table₀ to₀ o r to⁺ i⁺ out⁺ table⁺
    writing-again r to⁺ i⁺ out⁺ table⁺ c d m j t =
        rw (c, d, m, j, t) (by-pieces w.pieces w.tiled w.same w.room w.told w.entries)
      where
        by-pieces : (ps : List Piece) → Tiles o f p.to ps
            → sets out to (bytes_kept f ps) ≡ sets out₀ to₀ (bytes_kept f (drop 1 (pieces_of f))) → to + length (bytes_kept f ps) ≤ length out
            → sets table i (rows_of (grown p ps)) ≡ sets table₀ 0 (report_of f) → i + length (rows_of (grown p ps)) ≤ length table
            → Writing f out₀ table₀ to₀ o (growing p q) (to + size_kept q) (i + length (rows_of (closed p q))) (sets out to (kept_in f q))
            (sets table i (rows_of (closed p q)))
        by-pieces [] l x y z u = absurd (omega (arith, l))
        by-pieces (v ∷ ps) l x y z u =
            let same : v ≡ q = sym l.1 ∙ sym a in
            let rest = rows_of (grown (growing p q) ps) in
            let next : rows_of (grown p (v ∷ ps)) ≡ rows_of (closed p q) ++ rest =
            ap (λ (e : Piece). rows_of (grown p (e ∷ ps))) same ∙ ap rows_of (grown-next p q ps)
            ∙ rows_append (closed p q) (grown (growing p q) ps) in
            let all = ap (λ (e : Piece). length (kept_in f e ++ bytes_kept f ps)) same in
            record {
              pieces = ps;
              tiled = subst (λ (k : ℕ). Tiles o f k ps) (ap (λ (e : Piece). e.to) same ∙ sym (growing_to p q)) l.2;
              same =
                  ap (λ (n : ℕ). sets (sets out to (kept_in f q)) (to + n) (bytes_kept f ps)) (sym size-next)
                  ∙ sym (sets_append (kept_in f q) (bytes_kept f ps) out to)
                  ∙ ap (λ (e : Piece). sets out to (kept_in f e ++ bytes_kept f ps)) (sym same)
                  ∙ x;
              room = omega (arith, y, all, length-append (kept_in f q) (bytes_kept f ps), size-next, length-sets out to (kept_in f q));
              told = sym (sets_append (rows_of (closed p q)) rest table i) ∙ ap (sets table i) (sym next) ∙ z;
              entries =
                  omega (arith, u, ap length next, length-append (rows_of (closed p q)) rest, length-sets table i (rows_of (closed p q)));
            }

  -- at the end of the file the last range is closed
  module _ (h : length f ≤ p.to) where
    pub writing-out : out ≡ sets out₀ to₀ (bytes_kept f (drop 1 (pieces_of f)))
    writing-out =
        sym (ap (λ (ps : List Piece). sets out to (bytes_kept f ps)) (tiles_none o f p.to w.pieces w.tiled h)) ∙ w.same

    pub writing-table : sets table i (row_of p) ≡ sets table₀ 0 (report_of f)
    unfolding grown
    writing-table =
        sym (ap (λ (ps : List Piece). sets table i (rows_of (grown p ps))) (tiles_none o f p.to w.pieces w.tiled h)) ∙ w.told

-- ---- nothing stands behind the mark
module _ (f : List ℕ) (o : Bool) (h : length f ≡ 4) (e : o ≡ is_msb f) where
  none : pieces_of f ≡ []
  none = tiles_none o f 4 (pieces_of f) (tiles_of f o (omega arith) e) (omega arith)

  pub output-none : (out : List ℕ) {left : List ℕ} → left ≡ sets out 0 (mark o) → left ≡ sets out 0 (output_of f)
  unfolding output_of
  output-none out w =
      w
      ∙ sym (ap (λ (xs : List ℕ). sets out 0 xs) (append-nil (mark o)))
      ∙ ap₂ (λ (x : Bool) (ps : List Piece). sets out 0 (mark x ++ bytes_kept f ps)) e (sym none)

  pub table_none : (table : List ℕ) → table ≡ sets table 0 (report_of f)
  unfolding report_of
  table_none table = sym (ap (λ (ps : List Piece). sets table 0 (rows_of (ranges ps))) none)
