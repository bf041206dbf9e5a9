-- Answers of a file with private tuples, by those of the file without them: each place is taken to its new one, and the check counts so
-- many tuples more. Assumes nothing.
use Rattle.std.specs.Prelude.{◌≡◌, ℕ, ◌+◌, cond, List, eqb, length}
use Rattle.layout.specs.declared.Counts.{Counts}
use Rattle.layout.specs.Answer.{Answer}
use Rattle.layout.specs.Answer.{Accepted, Refused}
use Rattle.layout.specs.Answers.{counting}
use Rattle.intake.specs.Check.{check_file}
use Rattle.intake.specs.Asked.{Asked}
use Rattle.intake.specs.Asked as asked
use Rattle.linked.specs.Linked.{Linked}
use Rattle.energy.specs.Echo.{Echo}
use Rattle.energy.specs.Echo as echo
use Rattle.settings.specs.Settings.{Row}
use Rattle.corrections.specs.Found.{Found}
use Rattle.corrections.specs.Found as found
use Rattle.partners.specs.Private.{put_in, Mixed}

-- so many tuples more; what is written and the identifiers compared stay
abbrev pub more : ℕ → Counts → Counts
more k n = counting (n.tuples + k) n.written n.compared

abbrev pub answer_moved : (ℕ → ℕ) → ℕ → Answer → Answer
answer_moved to k (Accepted n) = Accepted (more k n)
answer_moved to k (Refused c p) = Refused c (to p)

-- the channel's and the sounder's tuples have their new places
abbrev pub asked_moved : (ℕ → ℕ) → ℕ → Asked → Asked
asked_moved to k (asked.Parents c cp r s d dp n) = asked.Parents c (to cp) r s d (to dp) (more k n)
asked_moved to k (asked.Refused c p) = asked.Refused c (to p)

-- a ping and its channel stay
abbrev pub linked_moved : (ℕ → ℕ) → Linked → Linked
linked_moved to l = record { place = to l.place; ping = l.ping; channel = l.channel }

-- 29's place is one of the list of samples, and stays
abbrev pub echo_moved : (ℕ → ℕ) → ℕ → Echo → Echo
echo_moved to k (echo.Sum e n) = echo.Sum e (more k n)
echo_moved to k (echo.Refused c p) = echo.Refused c (cond (eqb c 29) p (to p))

-- 0, for none, is taken to 0 (`none`, specs/Partners.antt)
abbrev pub row_moved : (ℕ → ℕ) → Row → Row
row_moved to r = record { ping = to r.ping; threshold = to r.threshold; attitude = to r.attitude }

-- a deposit's ping moves as the deposit's places do, a correction's as those of the corrections; no refusal of accepted files has a place
abbrev pub found_moved : (ℕ → ℕ) → (ℕ → ℕ) → Found → Found
found_moved deposit corrections (found.Corrected a m) = found.Corrected (corrections a) m
found_moved deposit corrections (found.Deposited a m) = found.Deposited (deposit a) m
found_moved deposit corrections (found.Refused mark x p) = found.Refused mark x p

-- ---- how many are put in; and both files accepted, the one with that many tuples more
abbrev pub extra : {f g : List ℕ} → Mixed f g → ℕ
extra m = length (put_in m.parts)

pub record Both {f g : List ℕ} (m : Mixed f g) : Type 0 where
  pub counts : Counts
  pub without : check_file f ≡ Accepted counts
  pub within : check_file g ≡ Accepted (more (extra m) counts)
