-- What the iterator over a file's pieces gives. Assumes nothing.
use Rattle.std.specs.Prelude.{◌≡◌, ◌-◌, ◌≤◌, ◌<◌, length, Option, Some, None}
use Rattle.std.specs.Iterator.{at_most, Count}
use Rattle.salvage.specs.declared.Piece.{Piece}
use Rattle.salvage.specs.declared.pieces.Pieces.{Pieces}
use Rattle.salvage.specs.Pieces.{piece_at}
use Rattle.salvage.specs.inner.Passes.{Ready}

-- tuples can be judged in its file
abbrev pub CanGo : Pieces → Type 0
CanGo s = Ready s.dear s.msb s.file.now s.sums.now

-- it goes on behind the piece, in the same file and order; or it is at the file's end
pub record Passes (s : Pieces) (x : Piece) (t : Pieces) : Type 0 where
  pub more : s.at < length s.file.now
  pub piece : x ≡ piece_at s.msb s.file.now s.at
  pub file : t.file ≡ s.file
  pub msb : t.msb ≡ s.msb
  pub dear : t.dear ≡ s.dear
  pub sums : t.sums ≡ s.sums
  pub next : t.at ≡ x.to

abbrev pub StepsTo : Pieces → Option Piece → Pieces → Type 0
StepsTo s None t = length s.file.now ≤ s.at
StepsTo s (Some x) t = Passes s x t

abbrev pub left_over : Pieces → Count
left_over s = at_most (length s.file.now - s.at)
