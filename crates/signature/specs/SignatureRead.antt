-- Made from views/records.txt by views/make.
-- What reading gives: the record, or a refusal. Assumes nothing.
use Rattle.std.specs.Prelude.{ℕ}
use Rattle.signature.specs.declared.Signature.{Signature}

pub data SignatureRead : Type 0 where
  Read : Signature → SignatureRead
  Refused : ℕ → ℕ → SignatureRead
