-- What the iterator over a file's tuples gives. Assumes nothing.
use Rattle.std.specs.Prelude.{◌≡◌, ℕ, ◌+◌, ◌-◌, ◌≤◌, length, drop, Option, Some, None}
use Rattle.std.specs.Iterator.{at_most, Count}
use Rattle.frame.specs.declared.passing.Located.{Located}
use Rattle.frame.specs.declared.passing.Tuples.{Tuples}
use Rattle.frame.specs.Frames.{len_at, kind_at}

-- there is room for the tuple where it stands
pub record Roomy (s : Tuples) : Type 0 where
  pub least : s.at + 16 ≤ length s.file.now
  pub whole : s.at + len_at s.msb (drop s.at s.file.now) ≤ length s.file.now

-- it goes on behind the tuple, in the same file and order; or there is no room for one
pub record Passes (s : Tuples) (x : Located) (t : Tuples) : Type 0 where
  pub room : Roomy s
  pub at : x.at ≡ s.at
  pub whole : x.whole ≡ len_at s.msb (drop s.at s.file.now)
  pub code : x.code ≡ kind_at s.msb (drop s.at s.file.now)
  pub file : t.file ≡ s.file
  pub msb : t.msb ≡ s.msb
  pub next : t.at ≡ s.at + len_at s.msb (drop s.at s.file.now)

abbrev pub StepsTo : Tuples → Option Located → Tuples → Type 0
StepsTo s None t = Roomy s → ⊥
StepsTo s (Some x) t = Passes s x t

abbrev pub room_left : Tuples → Count
room_left s = at_most (length s.file.now - s.at)
