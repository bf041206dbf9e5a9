-- What judging a part of a result takes and hands back. Assumes nothing.
use Rattle.std.specs.Prelude.{◌≡◌, ℕ, ◌+◌, Bool, true, false, List, [], ◌++◌, eqb, length}
use Rattle.layout.specs.Answer.{Answer}
use Rattle.layout.specs.Types
use Rattle.layout.specs.Types.{in_class}
use Rattle.frame.specs.Frames.{Tup, length_of, frame, Framed}
use Rattle.links.specs.Links.{Steady, nothing}
use Rattle.content.specs.Items.{digest}
use Rattle.intake.specs.declared.Tally.{Tally}
use Rattle.intake.specs.inner.Turned.{Turned}
use Rattle.intake.specs.inner.Turned.{On, Done}
use Rattle.intake.specs.inner.Tallies.{Tables, Sized, course_of, Standing}
use Rattle.edits.specs.Edits.{rest_in}
use Rattle.edits.specs.inner.Parts.{kept_of}
use Rattle.edits.specs.inner.Left.{left}

-- where a part is judged from
pub record Ready (w : Tally) (c : Tables) : Type 0 where
  pub standing : Standing w
  pub steady : Steady (course_of w c).links
  pub sized : Sized c

-- nothing stands behind bytes that don't divide
abbrev pub Closes : Bool → List ℕ → List ℕ → Type 0
Closes o part behind = eqb (length (rest_in o part)) 0 ≡ false → behind ≡ []

-- in a file of n bytes: a part passed, whatever stands behind it,
pub record Passed (o : Bool) (n : ℕ) (part : List ℕ) (w : Tally) (c : Tables) (v : Tally) (d : Tables) : Type 0 where
  pub ready : Ready v d
  pub at : v.at ≡ w.at + length (kept_of o part)
  pub divides : rest_in o part ≡ []
  pub same : (behind : List ℕ) → left o n (course_of w c) (kept_of o part ++ behind) ≡ left o n (course_of v d) behind

-- or the answer given in it
abbrev pub Answered : Bool → ℕ → List ℕ → Tally → Tables → Answer → Type 0
Answered o n part w c a = (behind : List ℕ) → Closes o part behind → left o n (course_of w c) (kept_of o part ++ behind) ≡ a

abbrev pub PartTo : Bool → ℕ → List ℕ → Tally → Tables → Turned → Tables → Type 0
PartTo o n part w c (On v) d = Passed o n part w c v d
PartTo o n part w c (Done a) d = Answered o n part w c a

-- ---- from the index on: whichever index it is of so many bytes
pub record IndexOf (o : Bool) (m : ℕ) (x : Tup) : Type 0 where
  pub framed : Framed x
  pub class : in_class Types.index x.kind ≡ true
  pub silent : digest o x ≡ nothing
  pub size : length_of x ≡ m

abbrev pub SaidBehind : Bool → ℕ → List ℕ → ℕ → Tally → Tables → Answer → Type 0
SaidBehind o n z m w c r = (x : Tup) → IndexOf o m x → r ≡ left o n (course_of w c) (frame o x ++ kept_of o z)
