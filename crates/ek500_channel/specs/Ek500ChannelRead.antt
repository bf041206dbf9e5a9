-- Made from views/records.txt by views/make.
-- What reading gives: the record and the place of its remarks, or a refusal. Assumes nothing.
use Rattle.std.specs.Prelude.{ℕ}
use Rattle.tuples.specs.declared.Part.{Part}
use Rattle.ek500_channel.specs.declared.Ek500Channel.{Ek500Channel}

pub data Ek500ChannelRead : Type 0 where
  Read : Ek500Channel → Part → Ek500ChannelRead
  Refused : ℕ → ℕ → Ek500ChannelRead
