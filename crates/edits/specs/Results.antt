-- What is told by every call that a promise of the three allows: what a result holds, what is answered where the check would refuse it,
-- and that removing undoes appending. Assumes nothing.
use Rattle.std.specs.Prelude.{◌≡◌, ℕ, ◌+◌, ◌≤◌, Bool, false, cond, List, [], ◌∷◌, ◌++◌, length, take}
use Rattle.std.proofs.Math.Option.{some}
use Rattle.order.specs.Order.{Bytes}
use Rattle.layout.specs.declared.Counts.{Counts}
use Rattle.layout.specs.Answer.{Answer}
use Rattle.layout.specs.Answer.{Accepted, Refused}
use Rattle.layout.specs.Types
use Rattle.layout.specs.Types.{in_class}
use Rattle.frame.specs.Frames.{Tup, frame, frames, Framed}
use Rattle.frame.specs.Files.{limit, is_msb}
use Rattle.frame.specs.Tuples.{tuples_of}
use Rattle.intake.specs.Check.{check_file}
use Rattle.index.specs.Index.{index_of, before_end, from_end, with_index, outside}
use Rattle.edits.specs.Edits.{indexed_file, appended_file, removed_file, tuples_in, without, Indexed, Appended, Removed}

-- the tuples of the index class
unfoldable pub indexes : List Tup → List Tup
indexes [] = []
indexes (t ∷ ts) = cond (in_class Types.index t.kind) (t ∷ indexes ts) (indexes ts)

-- a file of an order that the check accepts: the tuples ts outside the index class in their order, and one of that class, which is the
-- index worked out afresh over the file's own tuples, just before the end of file
pub record Anew (o : Bool) (ts : List Tup) (g : List ℕ) : Type 0 where
  pub order : is_msb g ≡ o
  pub counts : Counts
  pub accepted : check_file g ≡ Accepted counts
  pub others : outside (tuples_of g) ≡ outside ts
  pub one : indexes (tuples_of g) ≡ index_of o (tuples_of g) ∷ []
  pub place : tuples_of g ≡ with_index o (outside (tuples_of g))

-- a call that hands `g` over in front of the lent bytes, by what is promised of lent bytes, an answer and the bytes left
pub record Handed (promised : List ℕ → Answer → List ℕ → Type 0) (g : List ℕ) : Type 0 where
  pub out : List ℕ
  pub left : List ℕ
  pub counts : Counts
  pub promise : promised out (Accepted counts) left
  pub written : g ≡ take counts.written left

-- the file's tuples with those of the bytes handed in before the end of file
abbrev pub with_tuples : List ℕ → List ℕ → List Tup
with_tuples f bytes = (before_end (tuples_of f) ++ tuples_in (is_msb f) bytes) ++ from_end (tuples_of f)

-- where the first tuple appended stands in the result
abbrev pub behind_kept : List ℕ → ℕ
behind_kept f = 4 + length (frames (is_msb f) (outside (before_end (tuples_of f))))

-- the tuples of a file without the one at a place
pub record Without (f : List ℕ) (p : ℕ) : Type 0 where
  pub tuples : List Tup
  pub found : without p 4 (tuples_of f) ≡ some tuples

pub record Edits : Type 0 where
  -- what each result holds
  pub indexed : (f : List ℕ) {g : List ℕ} → Bytes f → Handed (Indexed f) g → Anew (is_msb f) (tuples_of f) g
  pub appended : (f bytes : List ℕ) {g : List ℕ} → Bytes f → Bytes bytes → Handed (Appended f bytes) g → Anew (is_msb f)
      (with_tuples f bytes) g
  pub removed : (f : List ℕ) (p : ℕ) {g : List ℕ} → Bytes f → Handed (Removed f p) g → (w : Without f p) × Anew (is_msb f) w.tuples g
  -- what the check would say of the result is what is answered
  pub index_said : (f out : List ℕ) {left : List ℕ} {r : Answer} {n : Counts} {c p : ℕ} → Indexed f out r left → check_file f ≡ Accepted n
      → check_file (indexed_file f) ≡ Refused c p → r ≡ Refused c p
  pub append_said : (f bytes out : List ℕ) {left : List ℕ} {r : Answer} {n : Counts} {c p : ℕ} → Appended f bytes out r left
      → check_file f ≡ Accepted n → length bytes ≤ limit
      → check_file (appended_file f bytes) ≡ Refused c p → r ≡ Refused c p
  pub remove_said : (f : List ℕ) (at : ℕ) (out : List ℕ) {left : List ℕ} {r : Answer} {n : Counts} {c p : ℕ} → Removed f at out r left
      → check_file f ≡ Accepted n → Without f at
      → check_file (removed_file f at) ≡ Refused c p → r ≡ Refused c p
  -- the index of an accepted file can be written, if the result is within the limit
  pub indexable : (f : List ℕ) {n : Counts} → Bytes f → check_file f ≡ Accepted n → length (indexed_file f) ≤ limit
      → (m : Counts) × (check_file (indexed_file f) ≡ Accepted m)
  -- a tuple appended and then removed gives the indexed file back
  pub back : (f : List ℕ) (t : Tup) (g : List ℕ) {h : List ℕ} → Bytes f → Framed t → in_class Types.index t.kind ≡ false
      → Handed (Appended f (frame (is_msb f) t)) g → Handed (Removed g (behind_kept f)) h → h ≡ indexed_file f
