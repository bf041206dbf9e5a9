-- What asking gives: both identifiers and both tuples' places, the channel's sampling rate and type of data sample, and what the file's
-- acceptance counts, in the order of Parents; or a refusal. Assumes nothing.
use Rattle.std.specs.Prelude.{ℕ}
use Rattle.layout.specs.declared.Counts.{Counts}
use Rattle.layout.specs.declared.DocumentId.{DocumentId}
use Rattle.layout.specs.declared.SoftwareChannel.{SoftwareChannel}

pub data Asked : Type 0 where
  Parents : SoftwareChannel → ℕ → ℕ → ℕ → DocumentId → ℕ → Counts → Asked
  Refused : ℕ → ℕ → Asked
