-- The pieces of a file lie one behind the other, from behind the mark to its end. Assumes nothing.
use mathlib.Core.Path.{◌≡◌, refl, sym, ap, subst, ◌∙◌}
use mathlib.Core.Logic.{◌⊎◌, inl, inr}
use mathlib.Core.Bool.{Bool, true, false, cond, beq, true≢false}
use mathlib.Core.List.{List, [], ◌∷◌, ◌++◌}
use Prim.Native.Nat.{ℕ, zero, suc, ◌+◌, ◌-◌, ◌%◌, ◌≤◌, ◌<◌}
use native.Mathlib.Omega.{arith}
use borrow.Author.Tests.{ltb-true, ltb-false, lt-ltb, le-ltb}
use lib.Dec.{ltb}
use lib.ListN.{length, drop, length-drop}
use lib.Seq.{length-take-le}
use Rattle.layout.specs.Verdict.{Verdict}
use Rattle.layout.specs.Verdict.{Fine, Fault}
use Rattle.frame.specs.Frames.{len_at}
use Rattle.frame.specs.Files.{is_msb}
use Rattle.frame.proofs.Frames.{allowed_4}
use Rattle.frame.proofs.Places.{Whole, framing-whole}
use Rattle.intake.specs.Alone.{alone}
use Rattle.intake.proofs.Alone.{alone-framed}
use Rattle.layout.specs.Answers.{is_fine}
use Rattle.salvage.specs.declared.Piece.{Piece}
use Rattle.salvage.specs.Pieces.{piece_by, piece_at, pieces_from, pieces_of, joined, grown, bytes_in, kept_in}
use Rattle.salvage.specs.inner.Passes.{Ready, growing, closed, size_kept}

-- ---- one piece: it starts where it is looked for, has a byte and ends in the file; 4 bytes at least, if it isn't the last
pub record Lying (p : Piece) (at end : ℕ) : Type 0 where
  pub from : p.from ≡ at
  pub some : at < p.to
  pub within : p.to ≤ end
  pub wide : (at + 4 ≤ p.to) ⊎ (p.to ≡ end)
  pub four : at % 4 ≡ 0 → (p.to % 4 ≡ 0) ⊎ (p.to ≡ end)

dropped : (at end : ℕ) → at < end → (b : Bool) → ltb (at + 4) end ≡ b
    → Lying (record { kept = false; from = at; to = cond b (at + 4) end }) at end
dropped at end h true e =
    record {
      from = refl;
      some = omega arith;
      within = omega (arith, ltb-true (at + 4) end e);
      wide = inl (omega arith);
      four = λ z. inl (omega (arith, z));
    }
dropped at end h false e = record { from = refl; some = h; within = omega arith; wide = inr refl; four = λ z. inr refl }

-- a kept piece is a whole tuple
pub kept_whole : (o : Bool) (f : List ℕ) (at : ℕ) → alone o (drop at f) ≡ Fine → Whole o f at (len_at o (drop at f))
kept_whole o f at e = framing-whole o f at (alone-framed o (drop at f) e)

-- a verdict that isn't fine
unfine : (v : Verdict) (at n end : ℕ) → is_fine v ≡ false → piece_by v at n end ≡ piece_by (Fault 0 0) at n end
unfine Fine at n end e = absurd (true≢false e)
unfine (Fault c p) at n end e = refl

pub lying : (o : Bool) (f : List ℕ) (at : ℕ) → at < length f → Lying (piece_at o f at) at (length f)
unfolding piece_at
lying o f at h = by-verdict (alone o (drop at f)) refl
  where
    by-verdict : (v : Verdict) → alone o (drop at f) ≡ v → Lying (piece_by v at (len_at o (drop at f)) (length f)) at (length f)
    by-verdict (Fault c p) e = dropped at (length f) h (ltb (at + 4) (length f)) refl
    by-verdict Fine e =
        let w = kept_whole o f at e in
        record {
          from = refl;
          some = omega (arith, w.long);
          within = w.fits;
          wide = inl (omega (arith, w.long));
          four = λ z. inl (omega (arith, z, allowed_4 _ w.allowed));
        }

-- so does a piece that was found there
pub found-lying : (o : Bool) (f : List ℕ) (at : ℕ) (p : Piece) → at < length f → p ≡ piece_at o f at → Lying p at (length f)
found-lying o f at p h a = subst (λ (x : Piece). Lying x at (length f)) (sym a) (lying o f at h)

-- ---- a piece by its verdict
module _ (o : Bool) (f : List ℕ) (at : ℕ) where
  pub piece-kept : alone o (drop at f) ≡ Fine → (n : ℕ) → n ≡ len_at o (drop at f)
      → ◌≡◌ {A = Piece} (record { kept = true; from = at; to = at + n }) (piece_at o f at)
  unfolding piece_at
  piece-kept e n h = rw (e, h)

  module _ (e : is_fine (alone o (drop at f)) ≡ false) where
    pub piece-dropped : 4 < length f - at → ◌≡◌ {A = Piece} (record { kept = false; from = at; to = at + 4 }) (piece_at o f at)
    unfolding piece_at
    piece-dropped h = rw (unfine (alone o (drop at f)) at (len_at o (drop at f)) (length f) e, lt-ltb (at + 4) (length f) (omega arith))

    pub piece-last : length f - at ≤ 4 → ◌≡◌ {A = Piece} (record { kept = false; from = at; to = length f }) (piece_at o f at)
    unfolding piece_at
    piece-last h = rw (unfine (alone o (drop at f)) at (len_at o (drop at f)) (length f) e, le-ltb (at + 4) (length f) (omega arith))

-- ---- how tuples are judged, in the order that was read
pub ready_by : {o p : Bool} (dear : Bool) (f t : List ℕ) → o ≡ p → Ready dear p f t → Ready dear o f t
ready_by dear f t e r = subst (λ (q : Bool). Ready dear q f t) (sym e) r

-- ---- pieces from a place to the file's end
abbrev pub Tiles : Bool → List ℕ → ℕ → List Piece → Type 0
Tiles o f at [] = at ≡ length f
Tiles o f at (p ∷ ps) = (at < length f) × (piece_at o f at ≡ p) × Tiles o f p.to ps

tiles_from : (o : Bool) (f : List ℕ) (k at : ℕ) → at ≤ length f → length f ≤ at + k → Tiles o f at (pieces_from k o f at)
unfolding pieces_from
tiles_from o f zero at low h = omega arith
tiles_from o f (suc k) at low h = by_test (λ p a b. tiles_from o f k p a b) (ltb at (length f)) refl
  where
    by_test : ((p : ℕ) → p ≤ length f → length f ≤ p + k → Tiles o f p (pieces_from k o f p)) → (b : Bool) → ltb at (length f) ≡ b
        → Tiles o f at (elim b as (λ _. List Piece) [ true ↦ piece_at o f at ∷ pieces_from k o f (piece_at o f at).to | false ↦ [] ])
    by_test ih true e =
        let a = ltb-true at (length f) e in
        let l = lying o f at a in
        (a, refl, ih (piece_at o f at).to l.within (omega (arith, l.some)))
    by_test ih false e = omega (arith, ltb-false at (length f) e)

pub tiles_of : (f : List ℕ) (o : Bool) → 4 ≤ length f → o ≡ is_msb f → Tiles o f 4 (pieces_of f)
unfolding pieces_of
tiles_of f o h e = subst (λ (x : Bool). Tiles o f 4 (pieces_from (length f) x f 4)) e (tiles_from o f (length f) 4 h (omega arith))

module _ (o : Bool) (f : List ℕ) (at : ℕ) where
  -- at the end there is none
  pub tiles_none : (ps : List Piece) → Tiles o f at ps → length f ≤ at → ps ≡ []
  tiles_none [] l h = refl
  tiles_none (p ∷ ps) l h = absurd (omega (arith, l.0))

  -- each lies
  pub tiles_lying : (p : Piece) (ps : List Piece) → Tiles o f at (p ∷ ps) → Lying p at (length f)
  tiles_lying p ps l = subst (λ (x : Piece). Lying x at (length f)) l.1 (lying o f at l.0)

-- the first piece, p, behind the mark, and those behind it
pub first_pieces : (f : List ℕ) (o : Bool) (p : Piece) → 4 ≤ length f → (length f ≡ 4 → ⊥) → o ≡ is_msb f → p ≡ piece_at o f 4
    → (pieces_of f ≡ p ∷ drop 1 (pieces_of f)) × Tiles o f p.to (drop 1 (pieces_of f))
first_pieces f o p low more e a = by-pieces (pieces_of f) (tiles_of f o low e)
  where
    by-pieces : (all : List Piece) → Tiles o f 4 all → (all ≡ p ∷ drop 1 all) × Tiles o f p.to (drop 1 all)
    by-pieces [] l = absurd (more (sym l))
    by-pieces (q ∷ qs) l =
        let same : q ≡ p = sym l.1 ∙ sym a in
        (ap (λ (x : Piece). x ∷ qs) same, subst (λ (x : Piece). Tiles o f x.to qs) same l.2)

-- ---- the open range, and the one that a piece closes
pub grown-next : (p q : Piece) (ps : List Piece) → grown p (q ∷ ps) ≡ closed p q ++ grown (growing p q) ps
unfolding grown
grown-next p q ps = by_test (beq q.kept p.kept)
  where
    by_test : (b : Bool) → elim b as (λ _. List Piece) [ true ↦ grown (joined p q) ps | false ↦ p ∷ grown q ps ]
        ≡ cond b [] (p ∷ []) ++ grown (cond b (joined p q) q) ps
    by_test true = refl
    by_test false = refl

pub growing_to : (p q : Piece) → (growing p q).to ≡ q.to
growing_to p q = by_test (beq q.kept p.kept)
  where
    by_test : (b : Bool) → (cond b (joined p q) q).to ≡ q.to
    by_test true = refl
    by_test false = refl

-- ---- the bytes of a piece
pub length-kept : (f : List ℕ) (p : Piece) (at : ℕ) → Lying p at (length f) → length (kept_in f p) ≡ size_kept p
length-kept f p at y = by_test p.kept
  where
    by_test : (k : Bool) → length (cond k (bytes_in f p) []) ≡ cond k (p.to - p.from) 0
    by_test true = length-take-le (p.to - p.from) (drop p.from f) (omega (arith, length-drop p.from f, y.from, y.some, y.within))
    by_test false = refl
