-- The numbers by which an outcome is told. Assumes nothing.
use Rattle.std.specs.Prelude.{Bool, true, false, List, [], ◌∷◌, ◌++◌, ℕ, ℤ}
use Rattle.std.proofs.Math.Option.{Option, some, none}
use Rattle.layout.specs.Answer.{Answer}
use Rattle.layout.specs.Answers.{Numbers, numbers}
use Rattle.pings.specs.declared.PingHeader.{PingHeader}

-- an answer's five numbers, in order: code, place, tuples, length, identifiers compared
abbrev pub five_of : Numbers → List ℕ
five_of n = n.code ∷ n.place ∷ n.tuples ∷ n.length ∷ n.compared ∷ []

abbrev pub five : Answer → List ℕ
five a = five_of (numbers a)

-- and behind them the fields of what was found: both as the call's own chapter says them
abbrev pub told : {O : Type 0} → (O → Numbers) → (O → List ℕ) → O → List ℕ
told numbers fields o = five_of (numbers o) ++ fields o

-- the header of a ping whose fields are handed over one by one
abbrev pub header_with : ℕ → ℕ → ℕ → ℕ → ℕ → ℤ → PingHeader
header_with fraction time channel mode ping bottom =
    record {
      time_fraction = fraction;
      time_cpu = time;
      software_channel_identifier = record { 0 = channel };
      transmitter_mode = mode;
      ping_number = ping;
      detected_bottom_range = bottom;
    }

-- its length, handed over as whether there is one, and which
abbrev pub handed_by : Bool → ℕ → Option ℕ
handed_by true n = some n
handed_by false n = none
