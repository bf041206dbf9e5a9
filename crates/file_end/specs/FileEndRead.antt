-- Made from views/records.txt by views/make.
-- What reading gives: the record and the place of its data, or a refusal. Assumes nothing.
use Rattle.std.specs.Prelude.{ℕ}
use Rattle.tuples.specs.declared.Part.{Part}
use Rattle.file_end.specs.declared.FileEnd.{FileEnd}

pub data FileEndRead : Type 0 where
  Read : FileEnd → Part → FileEndRead
  Refused : ℕ → ℕ → FileEndRead
