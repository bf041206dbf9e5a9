-- What the iterator over a part's judged tuples gives. Assumes nothing.
use Rattle.std.specs.Prelude.{◌≡◌, true, false, ◌+◌, ◌-◌, ◌≤◌, length, drop, Option, Some, None}
use Rattle.std.specs.Iterator.{at_most, Count}
use Rattle.frame.specs.declared.passing.Located.{Located}
use Rattle.frame.specs.Frames.{len_at, kind_at}
use Rattle.edits.specs.declared.judged.Judged.{Judged}
use Rattle.edits.specs.inner.Parts.{is_tuple}

abbrev pub Within : Judged → Type 0
Within s = s.at ≤ length s.part.now

-- it goes on behind the tuple, in the same part and order; or no tuple stands there
pub record Passes (s : Judged) (x : Located) (t : Judged) : Type 0 where
  pub stands : is_tuple s.msb (drop s.at s.part.now) ≡ true
  pub at : x.at ≡ s.at
  pub whole : x.whole ≡ len_at s.msb (drop s.at s.part.now)
  pub code : x.code ≡ kind_at s.msb (drop s.at s.part.now)
  pub part : t.part ≡ s.part
  pub msb : t.msb ≡ s.msb
  pub next : t.at ≡ s.at + len_at s.msb (drop s.at s.part.now)

abbrev pub StepsTo : Judged → Option Located → Judged → Type 0
StepsTo s None t = is_tuple s.msb (drop s.at s.part.now) ≡ false
StepsTo s (Some x) t = Passes s x t

abbrev pub left_over : Judged → Count
left_over s = at_most (length s.part.now - s.at)
