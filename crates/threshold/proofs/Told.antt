-- Made from views/records.txt by views/make.
-- What reading hands back is settled by what the view says of it, and so by the promises of reading and writing. Assumes nothing.
use mathlib.Core.Path.{◌≡◌, refl, ap}
use mathlib.Core.Bool.{Bool}
use mathlib.Core.List.{List}
use Prim.Native.Nat.{ℕ}
use Rattle.std.specs.Prelude.{Result, Ok, Err}
use Rattle.layout.specs.declared.Counts.{Counts}
use Rattle.layout.specs.declared.Refusal.{Refusal}
use Rattle.layout.specs.Views.{as_answer}
use Rattle.layout.proofs.Told.{refusal_by, refusal_back, same_seen}
use Rattle.tuples.proofs.Told.{written_told}
use Rattle.threshold.specs.declared.Threshold.{Threshold}
use Rattle.threshold.specs.ThresholdRead.{ThresholdRead, Read, Refused}
use Rattle.threshold.specs.Threshold.{as_read, ThresholdAt, threshold-settled, ThresholdWritten}

abbrev read_by : ThresholdRead → Result Threshold Refusal
read_by (Read r) = Ok r
read_by (Refused c p) = Err (refusal_by c p)

read_back : (r : Result Threshold Refusal) → read_by (as_read r) ≡ r
read_back (Ok r) = refl
read_back (Err r) = ap Err (refusal_back r)

pub same_read : (r s : Result Threshold Refusal) → as_read r ≡ as_read s → r ≡ s
same_read = same_seen as_read read_by read_back

-- ---- two outcomes that a promise allows are one, with the memory that it leaves
pub threshold_told : {f : List ℕ} {p : ℕ} (r t : Result Threshold Refusal) → ThresholdAt f p (as_read r)
    → ThresholdAt f p (as_read t) → r ≡ t
threshold_told r t a b = same_read r t (threshold-settled a b)

pub threshold_written_told : (o : Bool) (x : Threshold) (out : List ℕ) (r s : Result Counts Refusal)
    {left kept : List ℕ} → ThresholdWritten o x out (as_answer r) left
    → ThresholdWritten o x out (as_answer s) kept → (r ≡ s) × (left ≡ kept)
threshold_written_told o x out r s a b = written_told r s a b
