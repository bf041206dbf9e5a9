-- A mark and sound tuples are kept whole: so are a file that the check accepts and the output of a salvage. Assumes nothing.
use mathlib.Core.Path.{◌≡◌, refl, sym, ap, ap₂, subst₂, ◌∙◌}
use mathlib.Core.Bool.{Bool, true, false}
use mathlib.Core.List.{List, [], ◌∷◌, ◌++◌}
use Prim.Native.Nat.{ℕ, zero, suc, ◌+◌, ◌-◌, ◌≤◌, ◌<◌}
use native.Mathlib.Omega.{arith}
use borrow.Author.Tests.{lt-ltb, le-ltb}
use lib.Dec.{ltb}
use lib.ListN.{length, take, drop, length-append, length-drop}
use lib.Seq.{drop-drop, take_at, drop_at}
use Rattle.order.specs.Order.{Bytes}
use Rattle.layout.specs.declared.Counts.{Counts}
use Rattle.layout.specs.Answer.{Accepted}
use Rattle.layout.specs.Answers.{counts}
use Rattle.frame.specs.Frames.{Tup, length_of, frame, frames, len_at}
use Rattle.frame.specs.Files.{limit, mark, is_msb}
use Rattle.frame.specs.Tuples.{tuples_of}
use Rattle.frame.proofs.Frames.{length-frame, size-frame, allowed_16}
use Rattle.frame.proofs.Files.{length-mark, msb-mark, marked-mark}
use Rattle.frame.proofs.Tuples.{length-frames}
use Rattle.content.proofs.Fine.{Sound}
use Rattle.intake.specs.Alone.{alone}
use Rattle.intake.specs.Check.{check_file}
use Rattle.intake.proofs.Alone.{sound-alone}
use Rattle.intake.proofs.Accepted.{AllSound, divided}
use Rattle.salvage.specs.declared.Piece.{Piece}
use Rattle.salvage.specs.Outcome.{Saved}
use Rattle.salvage.specs.Pieces.{piece_at, pieces_from, pieces_of, grown, ranges, kept_in, bytes_kept, tuples_kept}
use Rattle.salvage.specs.Salvage.{output_of, rows_of, report_of, outcome_by, salvage_outcome}
use Rattle.salvage.specs.Whole.{all_kept, saved_all, KeepsAll}
use Rattle.salvage.proofs.Tiles.{Tiles, piece-kept, tiles_of, tiles_lying, length-kept}
use Rattle.salvage.proofs.Measures.{length-output, size-most}
use Rattle.salvage.proofs.Outcomes.{saves}
use Rattle.salvage.proofs.Divisions.{all-kept}

-- ---- the pieces of tuples at a place: each is kept
abbrev kept_at : ℕ → ℕ → Piece
kept_at at to = record { kept = true; from = at; to = to }

abbrev pieces_in : ℕ → List Tup → List Piece
pieces_in at [] = []
pieces_in at (t ∷ ts) = kept_at at (at + length_of t) ∷ pieces_in (at + length_of t) ts

module _ (o : Bool) (f : List ℕ) where
  -- a sound tuple in front of what is left is kept
  module _ (at : ℕ) (t : Tup) (r : List ℕ) (e : drop at f ≡ frame o t ++ r) where
    sound-piece : Sound o t → piece_at o f at ≡ kept_at at (at + length_of t)
    sound-piece s =
        let n : length_of t ≡ len_at o (drop at f) = sym (ap (len_at o) e ∙ ap (λ (k : ℕ). k + 10) (size-frame o t s.framed r)) in
        sym (piece-kept o f at (ap (alone o) e ∙ sound-alone o t s r) (length_of t) n)

    past-piece : drop (at + length_of t) f ≡ r
    past-piece = sym (drop-drop (length_of t) at f) ∙ ap (drop (length_of t)) e ∙ drop_at (frame o t) r (length_of t) (length-frame o t)

    more_left : Sound o t → at < length f
    more_left s =
        let long = allowed_16 (length_of t) s.framed.allowed in
        omega (arith, length-drop at f, ap length e, length-append (frame o t) r, length-frame o t, long)

  walk : (k : ℕ) (ts : List Tup) (at : ℕ) → drop at f ≡ frames o ts → AllSound o ts → length ts ≤ k → pieces_from k o f at ≡ pieces_in at ts
  unfolding pieces_from
  walk zero [] at e s h = refl
  walk (suc k) [] at e s h =
      let z : ltb at (length f) ≡ false = le-ltb at (length f) (omega (arith, length-drop at f, ap length e)) in
      rw (z, pieces_from)
  walk zero (t ∷ ts) at e s h = absurd (omega arith)
  walk (suc k) (t ∷ ts) at e s h =
      let r = frames o ts in
      let z : ltb at (length f) ≡ true = lt-ltb at (length f) (more_left at t r e s.0) in
      let p = sound-piece at t r e s.0 in
      let ih = walk k ts (at + length_of t) (past-piece at t r e) s.1 (omega arith) in
      rw (z, pieces_from, p) (ap (λ (ps : List Piece). kept_at at (at + length_of t) ∷ ps) ih)

  -- their bytes are the tuples'
  bytes-in : (ts : List Tup) (at : ℕ) → drop at f ≡ frames o ts → bytes_kept f (pieces_in at ts) ≡ frames o ts
  bytes-in [] at e = refl
  bytes-in (t ∷ ts) at e =
      let r = frames o ts in
      let n : at + length_of t - at ≡ length_of t = omega arith in
      let first = take_at (frame o t) r (length_of t) (length-frame o t) in
      ap₂ (λ (x y : List ℕ). x ++ y) (ap (λ (k : ℕ). take k (drop at f)) n ∙ ap (take (length_of t)) e ∙ first)
      (bytes-in ts (at + length_of t) (past-piece at t r e))

kept_in_lem : (at : ℕ) (ts : List Tup) → tuples_kept (pieces_in at ts) ≡ length ts
kept_in_lem at [] = refl
kept_in_lem at (t ∷ ts) = omega (arith, kept_in_lem (at + length_of t) ts)

tried-in : (at : ℕ) (ts : List Tup) → length (pieces_in at ts) ≡ length ts
tried-in at [] = refl
tried-in at (t ∷ ts) = ap suc (tried-in (at + length_of t) ts)

-- one range
grown-in : (o : Bool) (from at : ℕ) (ts : List Tup)
    → grown (kept_at from at) (pieces_in at ts) ≡ kept_at from (at + length (frames o ts)) ∷ []
unfolding grown
grown-in o from at [] = let z : at ≡ at + 0 = omega arith in ap (λ (k : ℕ). kept_at from k ∷ []) z
grown-in o from at (t ∷ ts) =
    let n : at + length_of t + length (frames o ts) ≡ at + length (frame o t ++ frames o ts) =
    omega (arith, length-append (frame o t) (frames o ts), length-frame o t) in
    grown-in o from (at + length_of t) ts ∙ ap (λ (k : ℕ). kept_at from k ∷ []) n

-- ---- the output is no longer than the file
kept-most : (o : Bool) (f : List ℕ) (at : ℕ) (ps : List Piece) → Tiles o f at ps → at + length (bytes_kept f ps) ≤ length f
kept-most o f at [] l = omega (arith, l)
kept-most o f at (p ∷ ps) l =
    let y = tiles_lying o f at p ps l in
    let size = length-kept f p at y in
    let ih = kept-most o f p.to ps l.2 in
    omega (arith, length-append (kept_in f p) (bytes_kept f ps), size, size-most p, ih, y.from, y.some)

pub output-most : (f : List ℕ) → 4 ≤ length f → length (output_of f) ≤ length f
output-most f h = omega (arith, length-output f, kept-most (is_msb f) f 4 (pieces_of f) (tiles_of f (is_msb f) h refl))

-- ---- a mark and sound tuples
pub keeps-all : (o : Bool) (ts : List Tup) → AllSound o ts → length (mark o ++ frames o ts) ≤ limit
    → KeepsAll (mark o ++ frames o ts) (length ts)
unfolding pieces_of output_of report_of
keeps-all o ts s small = record { output = output; tuples = tuples; tried = tried; ranges = one; saved = saved }
  where
    r : List ℕ
    r = frames o ts

    f : List ℕ
    f = mark o ++ frames o ts

    behind : drop 4 f ≡ frames o ts
    behind = drop_at (mark o) r 4 (length-mark o)

    size : length f ≡ 4 + length (frames o ts)
    size = length-append (mark o) r ∙ ap (λ (n : ℕ). n + length r) (length-mark o)

    pieces : pieces_of f ≡ pieces_in 4 ts
    pieces =
        ap (λ (x : Bool). pieces_from (length f) x f 4) (msb-mark o r)
        ∙ walk o f (length f) ts 4 behind s (omega (arith, size, length-frames o ts))

    output : output_of f ≡ f
    output =
        ap₂ (λ (x : Bool) (bs : List ℕ). mark x ++ bs) (msb-mark o r) (ap (bytes_kept f) pieces ∙ bytes-in o f ts 4 behind)

    tuples : tuples_kept (pieces_of f) ≡ length ts
    tuples = ap tuples_kept pieces ∙ kept_in_lem 4 ts

    tried : length (pieces_of f) ≡ length ts
    tried = ap length pieces ∙ tried-in 4 ts

    by-tuples : (us : List Tup) → length f ≡ 4 + length (frames o us) → ranges (pieces_in 4 us) ≡ all_kept (length f) (length us)
    by-tuples [] e = refl
    by-tuples (u ∷ us) e =
        let n : 4 + length_of u + length (frames o us) ≡ length f =
        omega (arith, e, length-append (frame o u) (frames o us), length-frame o u) in
        grown-in o 4 (4 + length_of u) us ∙ ap (λ (k : ℕ). kept_at 4 k ∷ []) n

    one : ranges (pieces_of f) ≡ all_kept (length f) (length ts)
    one = ap ranges pieces ∙ by-tuples ts size

    saved : (entries room : ℕ) → length (rows_of (all_kept (length f) (length ts))) ≤ entries → length f ≤ room
        → salvage_outcome f entries room ≡ saved_all (length f) (length ts)
    saved entries room h w =
        let k = ap (λ (ps : List Piece). length (rows_of ps)) one in
        ap (outcome_by f) (saves f entries room small (marked-mark o r) (omega (arith, k)) (omega (arith, ap length output)))
        ∙ (λ i. Saved (ap length one i) (tried i) (counts (tuples i) (ap length output i)))

-- ---- a file that the check accepts
pub accepted-kept : (f : List ℕ) → Bytes f → (n : Counts) → check_file f ≡ Accepted n → KeepsAll f n.tuples
accepted-kept f b n e =
    let d = divided f b n e in
    let whole = keeps-all (is_msb f) (tuples_of f) d.sound (omega (arith, ap length d.whole, d.small)) in
    subst₂ KeepsAll (sym d.whole) (sym (ap (λ (x : Counts). x.tuples) d.count)) whole

-- ---- the output of a salvage
output-parts : (f : List ℕ) → output_of f ≡ mark (is_msb f) ++ bytes_kept f (pieces_of f)
unfolding output_of
output-parts f = refl

pub output-kept : (f : List ℕ) → Bytes f → 4 ≤ length f → length f ≤ limit → KeepsAll (output_of f) (tuples_kept (pieces_of f))
output-kept f b low small =
    let o = is_msb f in
    let k = all-kept o f b 4 (pieces_of f) (tiles_of f o low refl) in
    let e : output_of f ≡ mark o ++ frames o k.tuples = output-parts f ∙ ap (λ (bs : List ℕ). mark o ++ bs) k.whole in
    let short : length (mark o ++ frames o k.tuples) ≤ limit = omega (arith, ap length e, output-most f low, small) in
    subst₂ KeepsAll (sym e) (sym k.count) (keeps-all o k.tuples k.sound short)
