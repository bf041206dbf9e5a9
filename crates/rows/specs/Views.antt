-- What the code gives for a record that is read, in the words of these definitions. Assumes nothing.
use Rattle.std.specs.Prelude.{Result, Ok, Err}
use Rattle.layout.specs.declared.Refusal.{Refusal}
use Rattle.layout.specs.Code.{number}
use Rattle.tuples.specs.declared.Part.{Part}
use Rattle.rows.specs.RowRead.{RowRead, Read, Refused}

abbrev pub as_row : Result Part Refusal → RowRead
as_row (Ok t) = Read t
as_row (Err r) = Refused (number r.code) r.place
