-- What the code gives for a ping's fields, in the words of these definitions. Assumes nothing.
use Rattle.std.specs.Prelude.{Result, Ok, Err}
use Rattle.layout.specs.declared.Refusal.{Refusal}
use Rattle.layout.specs.Code.{number}
use Rattle.pings.specs.declared.Ping.{Ping}
use Rattle.pings.specs.PingRead.{PingRead, Read, Refused}

abbrev pub as_ping : Result Ping Refusal → PingRead
as_ping (Ok it) = Read it.header it.attribute it.kind it.values it.length
as_ping (Err r) = Refused (number r.code) r.place
