-- `samples16::sample_bytes` meets its contract. Assumes nothing.
use mathlib.Core.Path.{sym, ap}
use Prim.Native.Nat.{ℕ}
use mathlib.Core.Bool.{Bool}
use native.Mathlib.Omega.{arith}
use Rattle.layout.specs.Families.{sample_bytes}
use Rattle.samples.specs.inner.Narrow.{plain_by}
use Rattle.samples16.proofs.sample_bytes.Statement.{statement}
use Rattle.samples16.proofs.sample_bytes.Tie as tie

bytes : Bool → ℕ
bytes b = sample_bytes (plain_by b)

returns : tie.Need-returns-then-angles
unfolding bytes
returns c = (sym (ap bytes c.if-angles.true), (omega arith, omega arith))

returns-2 : tie.Need-returns-else-angles
unfolding bytes
returns-2 c = (sym (ap bytes c.if-angles.false), (omega arith, omega arith))

pub sample_bytes_spec : {M : Type 1} → statement M
sample_bytes_spec = tie.close (tie.spec
    returns
    returns-2)
