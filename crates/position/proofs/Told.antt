-- Made from views/records.txt by views/make.
-- What reading hands back is settled by what the view says of it, and so by the promises of reading and writing. Assumes nothing.
use mathlib.Core.Path.{◌≡◌, refl, ap}
use mathlib.Core.Bool.{Bool}
use mathlib.Core.List.{List}
use Prim.Native.Nat.{ℕ}
use Rattle.std.specs.Prelude.{Result, Ok, Err}
use Rattle.layout.specs.declared.Counts.{Counts}
use Rattle.layout.specs.declared.Refusal.{Refusal}
use Rattle.layout.specs.Views.{as_answer}
use Rattle.layout.proofs.Told.{refusal_by, refusal_back, same_seen}
use Rattle.tuples.proofs.Told.{written_told}
use Rattle.position.specs.declared.Position.{Position}
use Rattle.position.specs.PositionRead.{PositionRead, Read, Refused}
use Rattle.position.specs.Position.{as_read, PositionAt, position-settled, PositionWritten}

abbrev read_by : PositionRead → Result Position Refusal
read_by (Read r) = Ok r
read_by (Refused c p) = Err (refusal_by c p)

read_back : (r : Result Position Refusal) → read_by (as_read r) ≡ r
read_back (Ok r) = refl
read_back (Err r) = ap Err (refusal_back r)

pub same_read : (r s : Result Position Refusal) → as_read r ≡ as_read s → r ≡ s
same_read = same_seen as_read read_by read_back

-- ---- two outcomes that a promise allows are one, with the memory that it leaves
pub position_told : {f : List ℕ} {p : ℕ} (r t : Result Position Refusal) → PositionAt f p (as_read r)
    → PositionAt f p (as_read t) → r ≡ t
position_told r t a b = same_read r t (position-settled a b)

pub position_written_told : (o : Bool) (x : Position) (out : List ℕ) (r s : Result Counts Refusal)
    {left kept : List ℕ} → PositionWritten o x out (as_answer r) left
    → PositionWritten o x out (as_answer s) kept → (r ≡ s) × (left ≡ kept)
position_written_told o x out r s a b = written_told r s a b
