-- A turn takes the tally past a tuple, or ends the check with an answer. Assumes nothing.
use Rattle.layout.specs.Answer.{Answer}
use Rattle.intake.specs.declared.Tally.{Tally}

pub data Turned : Type 0 where
  On : Tally → Turned
  Done : Answer → Turned
