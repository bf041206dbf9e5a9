-- What a step of the code hands back is settled by what the view says of it, and so by each step's promise. Assumes nothing.
use mathlib.Core.Path.{◌≡◌, refl, ap}
use mathlib.Core.List.{List}
use Prim.Native.Nat.{ℕ}
use Rattle.std.specs.Prelude.{Result, Ok, Err, Option, Some, None}
use Rattle.layout.specs.declared.Refusal.{Refusal}
use Rattle.layout.proofs.Told.{refusal_by, refusal_back, same_seen}
use Rattle.frame.specs.declared.Tuple.{Tuple}
use Rattle.frame.specs.Step.{Step, End, Refused}
use Rattle.frame.specs.Step
use Rattle.frame.specs.Views.{as_step}
use Rattle.frame.specs.Steps.{SteppedForward, SteppedBackward, forward-settled, backward-settled}

abbrev step_by : Step → Result (Option Tuple) Refusal
step_by (Step.Tuple p n k w) = Ok (Some (record { place = p; length = n; kind = k; next = w }))
step_by End = Ok None
step_by (Refused c p) = Err (refusal_by c p)

step_back : (r : Result (Option Tuple) Refusal) → step_by (as_step r) ≡ r
step_back (Ok (Some t)) = refl
step_back (Ok None) = refl
step_back (Err r) = ap Err (refusal_back r)

pub same_step : (r s : Result (Option Tuple) Refusal) → as_step r ≡ as_step s → r ≡ s
same_step = same_seen as_step step_by step_back

-- ---- two outcomes that a promise allows are one
pub forward_told : (f : List ℕ) (at : ℕ) (r t : Result (Option Tuple) Refusal) → SteppedForward f at (as_step r)
    → SteppedForward f at (as_step t) → r ≡ t
forward_told f at r t p q = same_step r t (forward-settled f at p q)

pub backward_told : (f : List ℕ) (at : ℕ) (r t : Result (Option Tuple) Refusal) → SteppedBackward f at (as_step r)
    → SteppedBackward f at (as_step t) → r ≡ t
backward_told f at r t p q = same_step r t (backward-settled f at p q)
