-- The classes of type codes, by their places in the table of classes. Assumes nothing.
use Rattle.std.specs.Prelude.{ℕ}
use Rattle.layout.specs.declared.Class.{Class}
use Rattle.layout.specs.declared.Class.TheVariants.{Position, Sounder, Channel, Ping, Index}
use Rattle.layout.specs.Types.{position, sounder, channel, ping, index}

abbrev pub class_number : Class → ℕ
class_number Position = position
class_number Sounder = sounder
class_number Channel = channel
class_number Ping = ping
class_number Index = index
