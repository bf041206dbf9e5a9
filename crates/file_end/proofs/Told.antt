-- Made from views/records.txt by views/make.
-- What reading hands back is settled by what the view says of it, and so by the promises of reading and writing. Assumes nothing.
use mathlib.Core.Path.{◌≡◌, refl, ap}
use mathlib.Core.Bool.{Bool}
use mathlib.Core.List.{List}
use Prim.Native.Nat.{ℕ}
use Rattle.std.specs.Prelude.{Result, Ok, Err}
use Rattle.layout.specs.declared.Counts.{Counts}
use Rattle.layout.specs.declared.Refusal.{Refusal}
use Rattle.layout.specs.Views.{as_answer}
use Rattle.layout.proofs.Told.{refusal_by, refusal_back, same_seen}
use Rattle.tuples.specs.declared.Part.{Part}
use Rattle.tuples.proofs.Told.{written_told}
use Rattle.file_end.specs.declared.FileEnd.{FileEnd}
use Rattle.file_end.specs.FileEndRead.{FileEndRead, Read, Refused}
use Rattle.file_end.specs.FileEnd.{as_read, FileEndAt, file-end-settled, FileEndWritten}

abbrev read_by : FileEndRead → Result (FileEnd × Part) Refusal
read_by (Read r t) = Ok (r, t)
read_by (Refused c p) = Err (refusal_by c p)

read_back : (r : Result (FileEnd × Part) Refusal) → read_by (as_read r) ≡ r
read_back (Ok r) = refl
read_back (Err r) = ap Err (refusal_back r)

pub same_read : (r s : Result (FileEnd × Part) Refusal) → as_read r ≡ as_read s → r ≡ s
same_read = same_seen as_read read_by read_back

-- ---- two outcomes that a promise allows are one, with the memory that it leaves
pub file-end_told : {f : List ℕ} {p : ℕ} (r t : Result (FileEnd × Part) Refusal) → FileEndAt f p (as_read r)
    → FileEndAt f p (as_read t) → r ≡ t
file-end_told r t a b = same_read r t (file-end-settled a b)

pub file-end_written_told : (o : Bool) (x : FileEnd) (out : List ℕ) (r s : Result Counts Refusal)
    {left kept : List ℕ} → FileEndWritten o x out (as_answer r) left
    → FileEndWritten o x out (as_answer s) kept → (r ≡ s) × (left ≡ kept)
file-end_written_told o x out r s a b = written_told r s a b
