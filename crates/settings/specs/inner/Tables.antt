-- What the code keeps of the tuples before a place: the channels declared, the last threshold and the last attitude of each, and the last
-- attitude for all. Assumes nothing.
use Rattle.std.specs.Prelude.{◌≡◌, ℕ, ◌+◌, ◌≤◌, ◌<◌, true, false, cond, List, [], ◌∷◌, ltb, length, get_or, set, replicate, Option, Some, None}
use Rattle.layout.specs.declared.SoftwareChannel.{SoftwareChannel}
use Rattle.links.specs.Links.{place_of, id_of, most_channels}
use Rattle.links.specs.inner.Tables.{channel_of, channel_row, channels_in}
use Rattle.intake.specs.inner.Sound.{Accepts}
use Rattle.settings.specs.declared.Held.{Held}
use Rattle.settings.specs.declared.Told.{Told}
use Rattle.settings.specs.declared.Role.{Role}
use Rattle.settings.specs.declared.Role.TheVariants.{Ping, Threshold, Attitude, ForAll, Declares, Other}
use Rattle.settings.specs.Settings.{Row, settings_of}

-- the line of a channel among the n declared; n where it isn't
abbrev pub channel_line : ℕ → List (List ℕ) → SoftwareChannel → ℕ
channel_line n rows c = place_of id_of c.0 (channels_in n rows)

-- the line of the channel that a tuple names; 0 where it names none
abbrev pub line_of : Role → ℕ → List (List ℕ) → ℕ
line_of (Ping c) n rows = channel_line n rows c
line_of (Threshold c) n rows = channel_line n rows c
line_of (Attitude c) n rows = channel_line n rows c
line_of ForAll n rows = 0
line_of (Declares c) n rows = 0
line_of Other n rows = 0

-- ---- a line: the last threshold and the last attitude of a channel
abbrev pub threshold_in : List ℕ → ℕ
threshold_in l = get_or l 0 0

abbrev pub attitude_in : List ℕ → ℕ
attitude_in l = get_or l 1 0

-- the lines while nothing is set
abbrev pub no_lines : List (List ℕ)
no_lines = replicate most_channels (0 ∷ 0 ∷ [])

-- ---- what a tuple at a place changes
abbrev pub held : ℕ → ℕ → ℕ → Held
held channels every near = record { channels = channels; every = every; near = near }

-- where the next channel is looked for first is any
abbrev pub held_by : Role → ℕ → Held → ℕ → Held
held_by (Ping c) at h near = held h.channels h.every near
held_by (Threshold c) at h near = held h.channels h.every near
held_by (Attitude c) at h near = held h.channels h.every near
held_by ForAll at h near = held h.channels at near
held_by (Declares c) at h near = held (h.channels + 1) h.every near
held_by Other at h near = held h.channels h.every near

abbrev pub rows_by : Role → ℕ → Held → List (List ℕ) → List (List ℕ)
rows_by (Ping c) at h rows = rows
rows_by (Threshold c) at h rows = rows
rows_by (Attitude c) at h rows = rows
rows_by ForAll at h rows = rows
rows_by (Declares c) at h rows = set rows h.channels (channel_row c at)
rows_by Other at h rows = rows

abbrev pub lines_by : Role → ℕ → ℕ → List (List ℕ) → List (List ℕ)
lines_by (Ping c) at i ls = ls
lines_by (Threshold c) at i ls = set ls i (at ∷ attitude_in (get_or ls i []) ∷ [])
lines_by (Attitude c) at i ls = set ls i (threshold_in (get_or ls i []) ∷ at ∷ [])
lines_by ForAll at i ls = ls
lines_by (Declares c) at i ls = ls
lines_by Other at i ls = ls

-- one more channel may be declared; its row stands for it
abbrev pub Room : Role → Held → Type 0
Room (Ping c) h = Unit {0}
Room (Threshold c) h = Unit {0}
Room (Attitude c) h = Unit {0}
Room ForAll h = Unit {0}
Room (Declares c) h = h.channels < most_channels
Room Other h = Unit {0}

abbrev pub Stands : Role → ℕ → Type 0
Stands (Ping c) at = Unit {0}
Stands (Threshold c) at = Unit {0}
Stands (Attitude c) at = Unit {0}
Stands ForAll at = Unit {0}
Stands (Declares c) at = channel_of (channel_row c at) ≡ c
Stands Other at = Unit {0}

-- ---- what governs a ping on a line: the later of two attitudes
abbrev pub later : ℕ → ℕ → ℕ
later a b = cond (ltb a b) b a

abbrev pub told_by : Role → ℕ → Held → List (List ℕ) → Option Told
told_by (Ping c) i h ls = Some (record { threshold = threshold_in (get_or ls i []); attitude = later (attitude_in (get_or ls i [])) h.every })
told_by (Threshold c) i h ls = None
told_by (Attitude c) i h ls = None
told_by ForAll i h ls = None
told_by (Declares c) i h ls = None
told_by Other i h ls = None

-- the row of a ping at a place, and no row of any other tuple
abbrev pub row_told : ℕ → Told → Row
row_told at t = record { ping = at; threshold = t.threshold; attitude = t.attitude }

abbrev pub rows_told : ℕ → Option Told → List Row
rows_told at (Some t) = row_told at t ∷ []
rows_told at None = []

-- which has room in all three slices
abbrev pub RowRoom : Option Told → ℕ → ℕ → ℕ → ℕ → Type 0
RowRoom told row pings thresholds attitudes = (t : Told) → told ≡ Some t → (row < pings) × (row < thresholds) × (row < attitudes)

-- ---- what the writing wants: an accepted file, and room for a row of each ping
pub record Roomy (f : List ℕ) (pings thresholds attitudes : ℕ) : Type 0 where
  pub accepted : Accepts f
  pub ping_room : length (settings_of f) ≤ pings
  pub threshold_room : length (settings_of f) ≤ thresholds
  pub attitude_room : length (settings_of f) ≤ attitudes
