-- What the check, asking and a turn of the code hand back is settled by what the views say of it, and so by the promises. Assumes
-- nothing.
use mathlib.Core.Path.{◌≡◌, refl, ap}
use mathlib.Core.List.{List}
use Prim.Native.Nat.{ℕ}
use Rattle.std.specs.Prelude.{Result, Ok, Err}
use Rattle.std.specs.declared.ops.ControlFlow.{ControlFlow}
use Rattle.std.specs.declared.ops.ControlFlow.TheVariants.{Continue, Break}
use Rattle.layout.specs.declared.Counts.{Counts}
use Rattle.layout.specs.declared.Refusal.{Refusal}
use Rattle.layout.specs.Views.{as_answer}
use Rattle.layout.proofs.Told.{refusal_by, refusal_back, answer_by, answer_back, same_seen, same_answer}
use Rattle.intake.specs.declared.Parents.{Parents}
use Rattle.intake.specs.declared.Tally.{Tally}
use Rattle.intake.specs.Asked.{Asked, Refused}
use Rattle.intake.specs.Asked
use Rattle.intake.specs.Views.{as_asked}
use Rattle.intake.specs.inner.Turned.{Turned, On, Done}
use Rattle.intake.specs.inner.Views.{as_turned}
use Rattle.intake.specs.Check.{Checked, checked-settled}
use Rattle.intake.specs.Asking.{AskedFor, asked-settled}

-- ---- what is said when it is asked
abbrev asked_by : Asked → Result Parents Refusal
asked_by (Asked.Parents c i r k s j n) =
    Ok (
    record { channel = c; channel_place = i; sampling_rate = r; sample_type = k; sounder = s; sounder_place = j; counts = n }
    )
asked_by (Refused c p) = Err (refusal_by c p)

asked_back : (r : Result Parents Refusal) → asked_by (as_asked r) ≡ r
asked_back (Ok it) = refl
asked_back (Err r) = ap Err (refusal_back r)

pub same_asked : (r s : Result Parents Refusal) → as_asked r ≡ as_asked s → r ≡ s
same_asked = same_seen as_asked asked_by asked_back

-- ---- a turn
abbrev turned_by : Turned → ControlFlow (Result Counts Refusal) Tally
turned_by (On w) = Continue w
turned_by (Done a) = Break (answer_by a)

turned_back : (r : ControlFlow (Result Counts Refusal) Tally) → turned_by (as_turned r) ≡ r
turned_back (Continue w) = refl
turned_back (Break a) = ap Break (answer_back a)

pub same_turned : (r s : ControlFlow (Result Counts Refusal) Tally) → as_turned r ≡ as_turned s → r ≡ s
same_turned = same_seen as_turned turned_by turned_back

-- ---- two outcomes that a promise allows are one
pub checked_told : (f : List ℕ) (r t : Result Counts Refusal) → Checked f (as_answer r) → Checked f (as_answer t) → r ≡ t
checked_told f r t p q = same_answer r t (checked-settled f p q)

pub asked_told : (f : List ℕ) (p : ℕ) (r t : Result Parents Refusal) → AskedFor f p (as_asked r) → AskedFor f p (as_asked t) → r ≡ t
asked_told f p r t g h = same_asked r t (asked-settled f p g h)
