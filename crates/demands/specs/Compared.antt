-- The identifiers compared while linking, in words: each call that checks a file and accepts it tells as many as the definition counts,
-- and no more than there may be channels for each tuple. Assumes nothing.
use Rattle.std.specs.Prelude.{◌≡◌, List, ℕ, ◌*◌, ◌≤◌}
use Rattle.order.specs.Order.{Bytes}
use Rattle.layout.specs.declared.Counts.{Counts}
use Rattle.layout.specs.declared.SoftwareChannel.{SoftwareChannel}
use Rattle.layout.specs.declared.DocumentId.{DocumentId}
use Rattle.layout.specs.Answer.{Accepted}
use Rattle.links.specs.Links.{most_channels}
use Rattle.intake.specs.Asked.{Parents}
use Rattle.intake.specs.Check.{Checked}
use Rattle.intake.specs.Compared.{comparisons_of}
use Rattle.intake.specs.Asking.{AskedFor}
use Rattle.normal.specs.Normaliser.{Normalised}

-- what an acceptance counts of the file handed in
pub record Compared (f : List ℕ) (n : Counts) : Type 0 where
  pub is : n.compared ≡ comparisons_of f
  pub most : n.compared ≤ most_channels * n.tuples

pub record Comparisons : Type 0 where
  pub check : {f : List ℕ} {n : Counts} → Bytes f → Checked f (Accepted n) → Compared f n
  pub normal : {f out left : List ℕ} {n : Counts} → Bytes f → Normalised f out (Accepted n) left → Compared f n
  pub ask : {f : List ℕ} (p : ℕ) {cp r k dp : ℕ} {c : SoftwareChannel} {d : DocumentId} {n : Counts} → Bytes f
      → AskedFor f p (Parents c cp r k d dp n) → Compared f n
