-- How much a step tells. Assumes nothing.
use Prim.Native.Nat.{◌+◌, ◌≤◌}
use native.Mathlib.Omega.{arith}
use lib.ListN.{length}
use Rattle.frame.specs.Step.{Step}
use Rattle.frame.specs.Step.{Tuple, End, Refused}
use Rattle.frame.specs.Steps.{step_numbers, step_fields}
use Rattle.archive.specs.Saying.{head}
use Rattle.archive.specs.Numbers.{told}

-- at most four fields
pub step-short : (s : Step) → length (told step_numbers step_fields s) ≤ head + 4
step-short (Tuple at n k next) = omega arith
step-short End = omega arith
step-short (Refused c p) = omega arith
