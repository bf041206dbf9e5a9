-- Made from views/records.txt by views/make.
-- What reading gives: the record and the place of its remarks, or a refusal. Assumes nothing.
use Rattle.std.specs.Prelude.{ℕ}
use Rattle.tuples.specs.declared.Part.{Part}
use Rattle.sounder.specs.declared.Sounder.{Sounder}

pub data SounderRead : Type 0 where
  Read : Sounder → Part → SounderRead
  Refused : ℕ → ℕ → SounderRead
