-- What the code hands back when it is asked, in the words of these definitions. Assumes nothing.
use Rattle.std.specs.Prelude.{Result, Ok, Err}
use Rattle.layout.specs.declared.Refusal.{Refusal}
use Rattle.layout.specs.Code.{number}
use Rattle.intake.specs.declared.Parents.{Parents}
use Rattle.intake.specs.Asked.{Asked, Refused}
use Rattle.intake.specs.Asked

abbrev pub as_asked : Result Parents Refusal → Asked
as_asked (Ok it) = Asked.Parents it.channel it.channel_place it.sampling_rate it.sample_type it.sounder it.sounder_place it.counts
as_asked (Err r) = Refused (number r.code) r.place
