-- A sound tuple at a place of a file: framed, and fine by its own rules; a file that the check accepts. Assumes nothing.
use Rattle.std.specs.Prelude.{◌≡◌, ℕ, ◌≤◌, Bool, List, length, drop}
use Rattle.layout.specs.declared.Counts.{Counts}
use Rattle.layout.specs.Answer.{Accepted}
use Rattle.layout.specs.Verdict.{Fine}
use Rattle.frame.specs.Frames.{len_at, kind_at, tup_at}
use Rattle.intake.specs.Check.{check_file}
use Rattle.intake.specs.inner.Tallies.{Here, own_verdict}

pub record SoundHere (o : Bool) (f : List ℕ) (at n k : ℕ) : Type 0 where
  pub within : at ≤ length f
  pub here : Here o f at n k
  pub own : own_verdict o (tup_at o (drop at f)) ≡ Fine

-- with the length and the type code that it says of itself
abbrev pub SoundAt : Bool → List ℕ → ℕ → Type 0
SoundAt o f at = SoundHere o f at (len_at o (drop at f)) (kind_at o (drop at f))

pub record Accepts (f : List ℕ) : Type 0 where
  pub counts : Counts
  pub answer : check_file f ≡ Accepted counts
