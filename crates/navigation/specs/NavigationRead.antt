-- Made from views/records.txt by views/make.
-- What reading gives: the record, or a refusal. Assumes nothing.
use Rattle.std.specs.Prelude.{ℕ}
use Rattle.navigation.specs.declared.Navigation.{Navigation}

pub data NavigationRead : Type 0 where
  Read : Navigation → NavigationRead
  Refused : ℕ → ℕ → NavigationRead
