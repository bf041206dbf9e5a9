-- What a step of the code hands back, in the words of these definitions. Assumes nothing.
use Rattle.std.specs.Prelude.{Result, Ok, Err, Option, Some, None}
use Rattle.layout.specs.declared.Refusal.{Refusal}
use Rattle.layout.specs.Code.{number}
use Rattle.frame.specs.declared.Tuple.{Tuple}
use Rattle.frame.specs.Step.{Step, End, Refused}
use Rattle.frame.specs.Step

abbrev pub as_step : Result (Option Tuple) Refusal → Step
as_step (Ok (Some t)) = Step.Tuple t.place t.length t.kind t.next
as_step (Ok None) = End
as_step (Err r) = Refused (number r.code) r.place
