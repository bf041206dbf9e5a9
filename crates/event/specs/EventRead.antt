-- Made from views/records.txt by views/make.
-- What reading gives: the record and the place of its text, or a refusal. Assumes nothing.
use Rattle.std.specs.Prelude.{ℕ}
use Rattle.tuples.specs.declared.Part.{Part}
use Rattle.event.specs.declared.Event.{Event}

pub data EventRead : Type 0 where
  Read : Event → Part → EventRead
  Refused : ℕ → ℕ → EventRead
