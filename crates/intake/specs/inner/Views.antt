-- What a turn of the code hands back, in the words of these definitions. Assumes nothing.
use Rattle.std.specs.Prelude.{Result}
use Rattle.std.specs.declared.ops.ControlFlow.{ControlFlow}
use Rattle.std.specs.declared.ops.ControlFlow.TheVariants.{Continue, Break}
use Rattle.layout.specs.declared.Counts.{Counts}
use Rattle.layout.specs.declared.Refusal.{Refusal}
use Rattle.layout.specs.Views.{as_answer}
use Rattle.intake.specs.declared.Tally.{Tally}
use Rattle.intake.specs.inner.Turned.{Turned, On, Done}

abbrev pub as_turned : ControlFlow (Result Counts Refusal) Tally → Turned
as_turned (Continue w) = On w
as_turned (Break a) = Done (as_answer a)
