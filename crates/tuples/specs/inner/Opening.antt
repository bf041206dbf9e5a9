-- What a reader finds at a place, as the functions that open a tuple say it. Assumes nothing.
use Rattle.std.specs.Prelude.{◌≡◌, ℕ, Bool, true, List, Result, Ok, Err}
use Rattle.layout.specs.declared.Refusal.{Refusal}
use Rattle.layout.specs.Code.{number}
use Rattle.layout.specs.Answer.{Refused}
use Rattle.layout.specs.Verdict.{Fine}
use Rattle.layout.specs.Answers.{accepting}
use Rattle.frame.specs.declared.Walk.{Walk}
use Rattle.frame.specs.Step.{Tuple}
use Rattle.frame.specs.Step
use Rattle.frame.specs.Files.{is_msb}
use Rattle.frame.specs.Steps.{step_forward}
use Rattle.intake.specs.inner.Tallies.{own_verdict}
use Rattle.tuples.specs.declared.Opened.{Opened}
use Rattle.tuples.specs.Readers.{tuple_there, read_answer}

-- ---- what a reader finds
-- a step forward finds a tuple of n bytes and of a type code
pub record Found (f : List ℕ) (p n k : ℕ) : Type 0 where
  pub walk : Walk
  pub step : step_forward f p ≡ Tuple p n k walk

-- in the file's byte order o
pub record FoundTuple (f : List ℕ) (p : ℕ) (o : Bool) (n k : ℕ) : Type 0 where
  pub msb : o ≡ is_msb f
  pub found : Found f p n k

-- a tuple, or the refusal of every reader
abbrev pub FoundAs : List ℕ → ℕ → Result Opened Refusal → Type 0
FoundAs f p (Ok t) = FoundTuple f p t.msb t.whole t.code
FoundAs f p (Err r) = (asked : ℕ → Bool) → Refused (number r.code) r.place ≡ read_answer asked f p

-- it is a tuple that was asked for and that keeps its own rules, n bytes of type k in the byte order o
pub record Readable (asked : ℕ → Bool) (f : List ℕ) (p : ℕ) (o : Bool) (n k : ℕ) : Type 0 where
  pub answer : accepting 1 0 ≡ read_answer asked f p
  pub msb : o ≡ is_msb f
  pub found : Found f p n k
  pub asks : asked k ≡ true
  pub own : own_verdict (is_msb f) (tuple_there f p) ≡ Fine

-- a tuple to be read, or the refusal
abbrev pub OpenedAs : (ℕ → Bool) → List ℕ → ℕ → Result Opened Refusal → Type 0
OpenedAs asked f p (Ok t) = Readable asked f p t.msb t.whole t.code
OpenedAs asked f p (Err r) = Refused (number r.code) r.place ≡ read_answer asked f p
