-- Made from views/records.txt by views/make.
-- What reading gives: the record and the place of its remarks, or a refusal. Assumes nothing.
use Rattle.std.specs.Prelude.{ℕ}
use Rattle.tuples.specs.declared.Part.{Part}
use Rattle.ek500_sounder.specs.declared.Ek500Sounder.{Ek500Sounder}

pub data Ek500SounderRead : Type 0 where
  Read : Ek500Sounder → Part → Ek500SounderRead
  Refused : ℕ → ℕ → Ek500SounderRead
