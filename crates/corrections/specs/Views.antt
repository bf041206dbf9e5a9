-- What the code hands back, in the words of these definitions: a file as its mark, a code as its number. Assumes nothing.
use Rattle.std.specs.Prelude.{ℕ, Result, Ok, Err, Option, Some, None}
use Rattle.layout.specs.Code.{number}
use Rattle.corrections.specs.declared.Source.{Source}
use Rattle.corrections.specs.declared.Source.TheVariants.{Deposit, Corrections}
use Rattle.corrections.specs.declared.Span.{Span}
use Rattle.corrections.specs.declared.Held.{Held}
use Rattle.corrections.specs.declared.FileRefusal.{FileRefusal}
use Rattle.corrections.specs.Spot.{Spot, At, Nowhere}
use Rattle.corrections.specs.Found.{Found, Corrected, Deposited, Refused}

abbrev pub source_mark : Source → ℕ
source_mark Deposit = 1
source_mark Corrections = 2

abbrev pub whose_mark : Option Source → ℕ
whose_mark (Some s) = source_mark s
whose_mark None = 0

abbrev pub as_spot : Option Span → Spot
as_spot (Some s) = At s.from s.length
as_spot None = Nowhere

abbrev pub held_as : Source → Span → Found
held_as Corrections s = Corrected s.from s.length
held_as Deposit s = Deposited s.from s.length

abbrev pub as_found : Result Held FileRefusal → Found
as_found (Ok h) = held_as h.source h.span
as_found (Err r) = Refused (whose_mark r.source) (number r.refusal.code) r.refusal.place
