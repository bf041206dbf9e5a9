-- What is kept divides into framed tuples that keep their own rules, with no byte over: each kept range, and the output, which is the
-- mark and the kept ranges. Assumes nothing.
use mathlib.Core.Path.{◌≡◌, refl, sym, ap, ap₂, subst, ◌∙◌}
use mathlib.Core.Bool.{Bool, true, false, cond, beq, true≢false}
use mathlib.Core.List.{List, [], ◌∷◌, ◌++◌, append_assoc, append-nil}
use Prim.Native.Nat.{ℕ, ◌+◌, ◌-◌, ◌≤◌}
use native.Mathlib.Omega.{arith}
use lib.ListN.{length, take, drop}
use lib.Seq.{drop-drop, take-add, take_at}
use Rattle.order.specs.Order.{Bytes}
use Rattle.order.proofs.Laws.{bytes_drop}
use Rattle.layout.specs.Verdict.{Verdict}
use Rattle.layout.specs.Verdict.{Fine, Fault}
use Rattle.layout.proofs.Verdicts.{both-fine, judged_append}
use Rattle.frame.specs.Frames.{Tup, frame, frames, len_at, tup_at}
use Rattle.frame.specs.Files.{is_msb}
use Rattle.frame.specs.Tuples.{tuples_from, AllFramed}
use Rattle.frame.proofs.Frames.{cut, length-frame}
use Rattle.frame.proofs.Tuples.{frames_append, length-frames, cut-frames}
use Rattle.content.specs.Items.{head_rules, inner_rules}
use Rattle.content.proofs.Fine.{Sound}
use Rattle.content.proofs.Places.{length-place}
use Rattle.intake.specs.Alone.{alone}
use Rattle.intake.proofs.Alone.{alone-framed, alone-sound}
use Rattle.intake.proofs.Accepted.{AllSound, sound_append, all-framed}
use Rattle.salvage.specs.declared.Piece.{Piece}
use Rattle.salvage.specs.Pieces.{piece_by, piece_at, pieces_of, joined, grown, ranges, bytes_in, kept_in, bytes_kept, tuples_kept}
use Rattle.salvage.specs.Report.{AllOwn, Divides, KeptDivide}
use Rattle.salvage.proofs.Tiles.{Lying, Tiles, tiles_of, tiles_lying, kept_whole}

-- ---- sound tuples, one behind the other
all_own : (o : Bool) (ts : List Tup) → AllSound o ts → AllOwn o ts
all_own o [] s = tt
all_own o (t ∷ ts) s = (judged_append (head_rules o t) (inner_rules o t) ∙ both-fine s.0.head s.0.inner, all_own o ts s.1)

-- ---- bytes that are such tuples
record Holds (o : Bool) (bs : List ℕ) : Type 0 where
  pub tuples : List Tup
  pub whole : bs ≡ frames o tuples
  pub sound : AllSound o tuples

divides : (o : Bool) (bs : List ℕ) → Holds o bs → Divides o bs
divides o bs h =
    let few : length h.tuples ≤ length bs = omega (arith, ap length h.whole, length-frames o h.tuples) in
    let framed = all-framed o h.tuples h.sound in
    let e : tuples_from (length bs) o bs ≡ h.tuples = ap (tuples_from (length bs) o) h.whole
    ∙ cut-frames (length bs) o h.tuples framed few in
    record {
      whole = h.whole ∙ ap (frames o) (sym e);
      framed = subst AllFramed (sym e) framed;
      own = subst (AllOwn o) (sym e) (all_own o h.tuples h.sound);
    }

holds_append : {o : Bool} {a b : List ℕ} → Holds o a → Holds o b → Holds o (a ++ b)
holds_append {o} {a} {b} x y =
    record {
      tuples = x.tuples ++ y.tuples;
      whole = ap₂ (λ (u v : List ℕ). u ++ v) x.whole y.whole ∙ sym (frames_append o x.tuples y.tuples);
      sound = sound_append o x.tuples y.tuples x.sound y.sound;
    }

-- ---- the bytes of joined pieces are those of the one and of the other
bytes-joined : (f : List ℕ) (p q : Piece) → p.from ≤ p.to → q.from ≡ p.to → q.from ≤ q.to
    → bytes_in f (joined p q) ≡ bytes_in f p ++ bytes_in f q
bytes-joined f p q x e y =
    let n : q.to - p.from ≡ p.to - p.from + (q.to - q.from) = omega (arith, x, e, y) in
    let m : p.from + (p.to - p.from) ≡ q.from = omega (arith, x, e) in
    let rest = drop-drop (p.to - p.from) p.from f ∙ ap (λ (k : ℕ). drop k f) m in
    ap (λ (k : ℕ). take k (drop p.from f)) n
    ∙ take-add (p.to - p.from) (q.to - q.from) (drop p.from f)
    ∙ ap (λ (l : List ℕ). bytes_in f p ++ take (q.to - q.from) l) rest

-- one is kept where the other is
same_kept : (a c : Bool) → beq a c ≡ true → c ≡ a
same_kept true true e = refl
same_kept true false e = absurd (true≢false (sym e))
same_kept false true e = absurd (true≢false (sym e))
same_kept false false e = refl

module _ (o : Bool) (f : List ℕ) where
  -- ---- the kept bytes of the pieces are those of the ranges
  kept-joined : (p q : Piece) → beq q.kept p.kept ≡ true → p.from ≤ p.to → q.from ≡ p.to → q.from ≤ q.to
      → kept_in f (joined p q) ≡ kept_in f p ++ kept_in f q
  kept-joined p q h x e y =
      ap (λ (l : List ℕ). cond p.kept l []) (bytes-joined f p q x e y)
      ∙ by_kind p.kept
      ∙ ap (λ (k : Bool). kept_in f p ++ cond k (bytes_in f q) []) (same_kept q.kept p.kept h)
    where
      by_kind : (k : Bool) → cond k (bytes_in f p ++ bytes_in f q) [] ≡ cond k (bytes_in f p) [] ++ cond k (bytes_in f q) []
      by_kind true = refl
      by_kind false = refl

  grown-bytes : (p : Piece) (ps : List Piece) → p.from ≤ p.to → Tiles o f p.to ps
      → bytes_kept f (grown p ps) ≡ kept_in f p ++ bytes_kept f ps
  unfolding grown
  grown-bytes p [] x l = refl
  grown-bytes p (q ∷ qs) x l =
      by_test (grown-bytes (joined p q) qs low l.2) (grown-bytes q qs some l.2) (beq q.kept p.kept) refl
    where
      y : Lying q p.to (length f)
      y = tiles_lying o f p.to q qs l

      some : q.from ≤ q.to
      some = omega (arith, y.from, y.some)

      low : p.from ≤ q.to
      low = omega (arith, x, y.some)

      by_test : bytes_kept f (grown (joined p q) qs) ≡ kept_in f (joined p q) ++ bytes_kept f qs
          → bytes_kept f (grown q qs) ≡ kept_in f q ++ bytes_kept f qs → (t : Bool) → beq q.kept p.kept ≡ t
          → bytes_kept f (elim t as (λ _. List Piece) [ true ↦ grown (joined p q) qs | false ↦ p ∷ grown q qs ])
          ≡ kept_in f p ++ (kept_in f q ++ bytes_kept f qs)
      by_test u v true e =
          u
          ∙ ap (λ (l : List ℕ). l ++ bytes_kept f qs) (kept-joined p q e x y.from some)
          ∙ append_assoc (kept_in f p) (kept_in f q) (bytes_kept f qs)
      by_test u v false e = ap (λ (l : List ℕ). kept_in f p ++ l) v

  ranges-bytes : (at : ℕ) (ps : List Piece) → Tiles o f at ps → bytes_kept f (ranges ps) ≡ bytes_kept f ps
  ranges-bytes at [] l = refl
  ranges-bytes at (p ∷ ps) l = let y = tiles_lying o f at p ps l in grown-bytes p ps (omega (arith, y.from, y.some)) l.2

  module _ (b : Bytes f) where
    -- ---- a piece that is kept is one tuple
    piece-tuple : (at : ℕ) (p : Piece) → piece_at o f at ≡ p → p.kept ≡ true
        → (bytes_in f p ≡ frame o (tup_at o (drop at f))) × Sound o (tup_at o (drop at f))
    unfolding piece_at
    piece-tuple at p e k = by-verdict (alone o (drop at f)) refl e
      where
        by-verdict : (v : Verdict) → alone o (drop at f) ≡ v → piece_by v at (len_at o (drop at f)) (length f) ≡ p
            → (bytes_in f p ≡ frame o (tup_at o (drop at f))) × Sound o (tup_at o (drop at f))
        by-verdict (Fault c x) h q = absurd (true≢false (sym k ∙ ap (λ (z : Piece). z.kept) (sym q)))
        by-verdict Fine h q =
            let t = tup_at o (drop at f) in
            let m = len_at o (drop at f) in
            let y = bytes_drop at f b in
            let z : at + m - at ≡ m = omega arith in
            let n : length (frame o t) ≡ m = length-frame o t ∙ length-place o f at _ (kept_whole o f at h) in (
              ap (bytes_in f) (sym q)
                  ∙ ap (λ (i : ℕ). take i (drop at f)) z
                  ∙ ap (take m) (cut o (drop at f) y (alone-framed o (drop at f) h))
                  ∙ take_at (frame o t) (drop m (drop at f)) m n,
              alone-sound o (drop at f) h y,
            )

    piece-holds : (at : ℕ) (p : Piece) → piece_at o f at ≡ p → p.kept ≡ true → Holds o (bytes_in f p)
    piece-holds at p e k =
        let x = piece-tuple at p e k in
        record { tuples = tup_at o (drop at f) ∷ []; whole = x.0 ∙ sym (append-nil (frame o (tup_at o (drop at f)))); sound = (x.1, tt) }

    -- ---- each kept range
    grown-divide : (p : Piece) (ps : List Piece) → p.from ≤ p.to → Tiles o f p.to ps → (p.kept ≡ true → Holds o (bytes_in f p))
        → KeptDivide o f (grown p ps)
    unfolding grown
    grown-divide p [] x l h = (λ k. divides o (bytes_in f p) (h k), tt)
    grown-divide p (q ∷ qs) x l h =
        by_test (λ j. grown-divide (joined p q) qs low l.2 j) (grown-divide q qs some l.2 (piece-holds p.to q l.1))
        (beq q.kept p.kept) refl
      where
        y : Lying q p.to (length f)
        y = tiles_lying o f p.to q qs l

        some : q.from ≤ q.to
        some = omega (arith, y.from, y.some)

        low : p.from ≤ q.to
        low = omega (arith, x, y.some)

        both : beq q.kept p.kept ≡ true → p.kept ≡ true → Holds o (bytes_in f (joined p q))
        both e k =
            let next = piece-holds p.to q l.1 (sym (same_kept q.kept p.kept e) ∙ k) in
            subst (Holds o) (sym (bytes-joined f p q x y.from some)) (holds_append (h k) next)

        by_test : ((p.kept ≡ true → Holds o (bytes_in f (joined p q))) → KeptDivide o f (grown (joined p q) qs))
            → KeptDivide o f (grown q qs) → (t : Bool) → beq q.kept p.kept ≡ t
            → KeptDivide o f (elim t as (λ _. List Piece) [ true ↦ grown (joined p q) qs | false ↦ p ∷ grown q qs ])
        by_test u v true e = u (both e)
        by_test u v false e = (λ k. divides o (bytes_in f p) (h k), v)

    ranges-divide : (at : ℕ) (ps : List Piece) → Tiles o f at ps → KeptDivide o f (ranges ps)
    ranges-divide at [] l = tt
    ranges-divide at (p ∷ ps) l =
        let y = tiles_lying o f at p ps l in
        grown-divide p ps (omega (arith, y.from, y.some)) l.2 (piece-holds at p l.1)

    -- ---- all that is kept
    pub record AllKept (ps : List Piece) : Type 0 where
      pub tuples : List Tup
      pub whole : bytes_kept f ps ≡ frames o tuples
      pub sound : AllSound o tuples
      pub count : tuples_kept ps ≡ length tuples

    pub all-kept : (at : ℕ) (ps : List Piece) → Tiles o f at ps → AllKept ps
    all-kept at [] l = record { tuples = []; whole = refl; sound = tt; count = refl }
    all-kept at (p ∷ ps) l = by_kind (all-kept p.to ps l.2) p.kept refl
      where
        by_kind : AllKept ps → (k : Bool) → p.kept ≡ k → AllKept (p ∷ ps)
        by_kind i true k =
            let x = piece-tuple at p l.1 k in
            record {
              tuples = tup_at o (drop at f) ∷ i.tuples;
              whole = ap₂ (λ (u v : List ℕ). u ++ v) (ap (λ (c : Bool). cond c (bytes_in f p) []) k ∙ x.0) i.whole;
              sound = (x.1, i.sound);
              count = ap (λ (c : Bool). cond c 1 0 + tuples_kept ps) k ∙ omega (arith, i.count);
            }
        by_kind i false k =
            record {
              tuples = i.tuples;
              whole = ap (λ (c : Bool). cond c (bytes_in f p) [] ++ bytes_kept f ps) k ∙ i.whole;
              sound = i.sound;
              count = ap (λ (c : Bool). cond c 1 0 + tuples_kept ps) k ∙ omega (arith, i.count);
            }

-- each kept range of a file divides into framed tuples
pub report-divides : (f : List ℕ) → Bytes f → 4 ≤ length f → KeptDivide (is_msb f) f (ranges (pieces_of f))
report-divides f b h = ranges-divide (is_msb f) f b 4 (pieces_of f) (tiles_of f (is_msb f) h refl)

-- what is kept are the bytes of the kept ranges
pub report-kept : (f : List ℕ) → 4 ≤ length f → bytes_kept f (ranges (pieces_of f)) ≡ bytes_kept f (pieces_of f)
report-kept f h = ranges-bytes (is_msb f) f 4 (pieces_of f) (tiles_of f (is_msb f) h refl)
