-- A place sought among the tuples of a file. Assumes nothing.
use Rattle.std.specs.Prelude.{◌≡◌, ℕ, ◌+◌, ◌≤◌, ◌<◌, List, ◌++◌, length}
use Rattle.std.proofs.Math.Option.{Option, some, none}
use Rattle.layout.specs.declared.Counts.{Counts}
use Rattle.layout.specs.Answer.{Accepted}
use Rattle.frame.specs.Frames.{Tup, frames}
use Rattle.frame.specs.Files.{is_msb}
use Rattle.frame.specs.Tuples.{tuples_of}
use Rattle.intake.specs.Check.{check_file}
use Rattle.edits.specs.Edits.{without}

-- tuples before those of which one is left out
abbrev pub before : List Tup → Option (List Tup) → Option (List Tup)
before us none = none
before us (some vs) = some (us ++ vs)

-- a place between tuples, those passed and those to come, where place p isn't before it
pub record Between (f : List ℕ) (p at : ℕ) : Type 0 where
  pub passed : List Tup
  pub coming : List Tup
  pub all : tuples_of f ≡ passed ++ coming
  pub place : at ≡ 4 + length (frames (is_msb f) passed)
  pub same : without p 4 (tuples_of f) ≡ before passed (without p at coming)

-- the first such that isn't before p; the file's end where p is behind it
pub record Sought (f : List ℕ) (p at : ℕ) : Type 0 where
  pub between : Between f p at
  pub within : at ≤ length f
  pub reached : at < length f → p ≤ at

-- a file that the check accepts, with its counts
abbrev pub Taken : List ℕ → Counts → Type 0
Taken f n = check_file f ≡ Accepted n
