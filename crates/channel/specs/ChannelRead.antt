-- Made from views/records.txt by views/make.
-- What reading gives: the record and the place of its remarks, or a refusal. Assumes nothing.
use Rattle.std.specs.Prelude.{ℕ}
use Rattle.tuples.specs.declared.Part.{Part}
use Rattle.channel.specs.declared.Channel.{Channel}

pub data ChannelRead : Type 0 where
  Read : Channel → Part → ChannelRead
  Refused : ℕ → ℕ → ChannelRead
