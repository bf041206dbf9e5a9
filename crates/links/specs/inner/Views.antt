-- What the code says of a link, in the words of these definitions. Assumes nothing.
use Rattle.std.specs.Prelude.{ℕ, Result, Ok, Err}
use Rattle.layout.specs.declared.Flaw.{Flaw}
use Rattle.layout.specs.Code.{number}
use Rattle.links.specs.inner.LinkVerdict.{LinkVerdict, Faulty, Linked}

abbrev pub as_linked : Result ℕ Flaw → LinkVerdict
as_linked (Ok n) = Linked n
as_linked (Err b) = Faulty (number b.code) b.offset
