-- What the code hands back, in the words of these definitions. Assumes nothing.
use Rattle.std.specs.Prelude.{Result, Ok, Err}
use Rattle.layout.specs.declared.Refusal.{Refusal}
use Rattle.layout.specs.Code.{number}
use Rattle.salvage.specs.declared.Saved.{Saved}
use Rattle.salvage.specs.Outcome.{Outcome, Refused}

abbrev pub as_outcome : Result Saved Refusal → Outcome
as_outcome (Ok s) = Outcome.Saved s.ranges s.tried s.counts
as_outcome (Err r) = Refused (number r.code) r.place
