-- What the code tells of a ping, in the words of these definitions. Assumes nothing.
use Rattle.std.specs.Prelude.{Result, Ok, Err}
use Rattle.layout.specs.declared.Refusal.{Refusal}
use Rattle.layout.specs.Code.{number}
use Rattle.energy.specs.declared.Told.{Told}
use Rattle.energy.specs.Echo.{Echo, Sum, Refused}

abbrev pub as_echo : Result Told Refusal → Echo
as_echo (Ok e) = Sum e.units e.counts
as_echo (Err r) = Refused (number r.code) r.place
