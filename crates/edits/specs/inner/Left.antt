-- The check of a file of which only its length is known and the bytes that are left: what the parts of a result are judged by, before
-- they are written one behind the other. Assumes nothing.
use Rattle.std.specs.Prelude.{ℕ, zero, suc, Bool, List, length, drop}
use Rattle.layout.specs.Answer.{Answer}
use Rattle.layout.specs.Answer.{Refused}
use Rattle.frame.specs.Frames.{len_at}
use Rattle.intake.specs.Check.{Course, stop, go, turn_on}

-- the turns from a course on, in a file of n bytes of which r are left; at most k of them
unfoldable pub check_left : ℕ → Bool → ℕ → Course → List ℕ → Answer
check_left zero o n w r = Refused 4 w.at
check_left (suc k) o n w r = elim (turn_on o n w r) [ stop a ↦ a | go v ↦ check_left k o n v (drop (len_at o r) r) ]

-- one turn a byte, and one more, are enough
unfoldable pub left : Bool → ℕ → Course → List ℕ → Answer
left o n w r = check_left (suc (length r)) o n w r
