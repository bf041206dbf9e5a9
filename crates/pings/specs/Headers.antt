-- A ping's header as the values of its row, and its length as it is handed over and told. Assumes nothing.
use Rattle.std.specs.Prelude.{ℕ, List, [], ◌∷◌}
use Rattle.std.proofs.Math.Option.{Option, some, none}
use Rattle.order.specs.Order.{pattern_of}
use Rattle.turning.specs.Rows.{Value, number}
use Rattle.pings.specs.declared.PingHeader.{PingHeader}
use Rattle.pings.specs.PingLength.{PingLength}
use Rattle.std.specs.Prelude.{Some, None}

-- the values of a header's row
abbrev pub head_of : PingHeader → List Value
head_of h =
    number h.time_fraction ∷ number h.time_cpu ∷ number h.software_channel_identifier.0 ∷ number h.transmitter_mode
    ∷ number h.ping_number ∷ number (pattern_of 4 h.detected_bottom_range) ∷ []

-- the length that is handed over, and a length as it is told
abbrev pub handed_length : PingLength → Option ℕ
handed_length None = none
handed_length (Some n) = some n

abbrev pub told_length : Option ℕ → PingLength
told_length none = None
told_length (some n) = Some n
