-- What is told by every call of the salvage that its promise allows. Assumes nothing.
use Rattle.std.specs.Prelude.{◌≡◌, List, [], ◌∷◌, ℕ, ◌+◌, ◌*◌, ◌/◌, ◌≤◌, length, take, drop}
use Rattle.order.specs.Order.{Bytes}
use Rattle.layout.specs.declared.Counts.{Counts}
use Rattle.layout.specs.Answer.{Accepted}
use Rattle.intake.specs.Check.{check_file}
use Rattle.salvage.specs.Outcome.{Outcome}
use Rattle.salvage.specs.Outcome.{Saved}
use Rattle.salvage.specs.Pieces.{pieces_of, tuples_kept}
use Rattle.salvage.specs.Salvage.{rows_of, Salvaged}
use Rattle.salvage.specs.Report.{Reported, AllFours}
use Rattle.salvage.specs.Whole.{all_kept, saved_all}

-- a call that saves: it hands `w` over in front of the lent bytes, and `t` in front of the lent table
pub record Call (f w t : List ℕ) : Type 0 where
  pub bytes : Bytes f
  pub out : List ℕ
  pub table : List ℕ
  pub left : List ℕ
  pub told : List ℕ
  pub ranges : ℕ
  pub tried : ℕ
  pub counts : Counts
  pub promise : Salvaged f out table (Saved ranges tried counts) left told
  pub written : w ≡ take counts.written left
  pub report : t ≡ take (3 * ranges) told

-- the offsets tried are those of the definition, each divisible by 4, and at most a quarter of the file's length plus one
pub record Tried (f : List ℕ) (n : ℕ) : Type 0 where
  pub count : n ≡ length (pieces_of f)
  pub fours : AllFours (pieces_of f)
  pub most : n ≤ length f / 4 + 1

pub record Salvages : Type 0 where
  -- the table lists as many ranges as are told; they cover the file behind its mark and are what the output is made of
  pub reported : {f w t : List ℕ} (c : Call f w t) → Reported f w t c.ranges
  pub tried : {f w t : List ℕ} (c : Call f w t) → Tried f c.tried
  -- the tuples told are those of the definition, and the length told is the output's
  pub tuples : {f w t : List ℕ} (c : Call f w t) → c.counts.tuples ≡ tuples_kept (pieces_of f)
  pub written : {f w t : List ℕ} (c : Call f w t) → c.counts.written ≡ length w
  -- what stands behind the output and behind the report stays
  pub stays : {f w t : List ℕ} (c : Call f w t)
      → (drop (length w) c.left ≡ drop (length w) c.out) × (drop (length t) c.told ≡ drop (length t) c.table)
  -- a file that the check accepts is kept whole, given room: the one range is its tuples, as many as the check tells
  pub accepted : {f : List ℕ} → Bytes f → {n : Counts} → check_file f ≡ Accepted n
      → {out table left told : List ℕ} {r : Outcome} → Salvaged f out table r left told → length f ≤ length out → 3 ≤ length table
      → (r ≡ saved_all (length f) n.tuples) × (take (length f) left ≡ f) × (take 3 told ≡ 1 ∷ 4 ∷ length f ∷ [])
  -- a salvage of the output keeps everything, given room
  pub again : {f w t : List ℕ} (c : Call f w t)
      → {out table left told : List ℕ} {r : Outcome} → Salvaged w out table r left told → length w ≤ length out → 3 ≤ length table
      → (r ≡ saved_all (length w) c.counts.tuples) × (take (length w) left ≡ w)
      × (take (length (rows_of (all_kept (length w) c.counts.tuples))) told ≡ rows_of (all_kept (length w) c.counts.tuples))
