-- Made from views/records.txt by views/make.
-- What reading hands back is settled by what the view says of it, and so by the promises of reading and writing. Assumes nothing.
use mathlib.Core.Path.{◌≡◌, refl, ap}
use mathlib.Core.Bool.{Bool}
use mathlib.Core.List.{List}
use Prim.Native.Nat.{ℕ}
use Rattle.std.specs.Prelude.{Result, Ok, Err}
use Rattle.layout.specs.declared.Counts.{Counts}
use Rattle.layout.specs.declared.Refusal.{Refusal}
use Rattle.layout.specs.Views.{as_answer}
use Rattle.layout.proofs.Told.{refusal_by, refusal_back, same_seen}
use Rattle.tuples.specs.declared.Part.{Part}
use Rattle.tuples.proofs.Told.{written_told}
use Rattle.event.specs.declared.Event.{Event}
use Rattle.event.specs.EventRead.{EventRead, Read, Refused}
use Rattle.event.specs.Event.{as_read, EventAt, event_settled, EventWritten}

abbrev read_by : EventRead → Result (Event × Part) Refusal
read_by (Read r t) = Ok (r, t)
read_by (Refused c p) = Err (refusal_by c p)

read_back : (r : Result (Event × Part) Refusal) → read_by (as_read r) ≡ r
read_back (Ok r) = refl
read_back (Err r) = ap Err (refusal_back r)

pub same_read : (r s : Result (Event × Part) Refusal) → as_read r ≡ as_read s → r ≡ s
same_read = same_seen as_read read_by read_back

-- ---- two outcomes that a promise allows are one, with the memory that it leaves
pub event_told : {f : List ℕ} {p : ℕ} (r t : Result (Event × Part) Refusal) → EventAt f p (as_read r)
    → EventAt f p (as_read t) → r ≡ t
event_told r t a b = same_read r t (event_settled a b)

pub event_written_told : (o : Bool) (x : Event) (t : List ℕ) (out : List ℕ) (r s : Result Counts Refusal)
    {left kept : List ℕ} → EventWritten o x t out (as_answer r) left
    → EventWritten o x t out (as_answer s) kept → (r ≡ s) × (left ≡ kept)
event_written_told o x t out r s a b = written_told r s a b
