-- What the reader and the writer of rows hand back is settled by what the views say of it, and so by the promises. Assumes nothing.
use mathlib.Core.Path.{◌≡◌, refl, ap}
use mathlib.Core.Bool.{Bool}
use mathlib.Core.List.{List}
use Prim.Native.Nat.{ℕ}
use Rattle.std.specs.Prelude.{Result, Ok, Err}
use Rattle.layout.specs.declared.Counts.{Counts}
use Rattle.layout.specs.declared.Refusal.{Refusal}
use Rattle.layout.specs.Views.{as_answer}
use Rattle.layout.proofs.Told.{refusal_by, refusal_back, same_seen}
use Rattle.tuples.specs.declared.Part.{Part}
use Rattle.tuples.proofs.Told.{written_told}
use Rattle.rows.specs.RowRead.{RowRead, Read, Refused}
use Rattle.rows.specs.Views.{as_row}
use Rattle.rows.specs.Readers.{RowAt, row_settled}
use Rattle.rows.specs.Writers.{RowWritten}

abbrev row_by : RowRead → Result Part Refusal
row_by (Read t) = Ok t
row_by (Refused c p) = Err (refusal_by c p)

row_back : (r : Result Part Refusal) → row_by (as_row r) ≡ r
row_back (Ok t) = refl
row_back (Err r) = ap Err (refusal_back r)

pub same_row : (r s : Result Part Refusal) → as_row r ≡ as_row s → r ≡ s
same_row = same_seen as_row row_by row_back

-- ---- two outcomes that a promise allows are one, with the memory that it leaves
pub row_told : {k : ℕ} {f : List ℕ} {p : ℕ} {lent : List ℕ} (r s : Result Part Refusal) {left kept : List ℕ}
    → RowAt k f p lent (as_row r) left → RowAt k f p lent (as_row s) kept → (r ≡ s) × (left ≡ kept)
row_told r s a b = let e = row_settled a b in (same_row r s e.0, e.1)

pub row_written_told : (k : ℕ) (ns t : List ℕ) (o : Bool) (out : List ℕ) (r s : Result Counts Refusal) {left kept : List ℕ}
    → RowWritten k ns t o out (as_answer r) left → RowWritten k ns t o out (as_answer s) kept → (r ≡ s) × (left ≡ kept)
row_written_told k ns t o out r s a b = written_told r s a b
