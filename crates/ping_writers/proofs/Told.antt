-- Two outcomes that a ping writer's promise allows are one, with the memory that it leaves: over the family. Assumes nothing.
use mathlib.Core.Path.{◌≡◌}
use mathlib.Core.Bool.{Bool}
use mathlib.Core.List.{List}
use mathlib.Core.Option.{Option}
use Prim.Native.Nat.{ℕ}
use lib.IntN.{ℤ}
use Rattle.std.specs.Prelude.{Result}
use Rattle.layout.specs.declared.Counts.{Counts}
use Rattle.layout.specs.declared.Refusal.{Refusal}
use Rattle.layout.specs.Families.{Family}
use Rattle.layout.specs.Views.{as_answer}
use Rattle.tuples.proofs.Told.{written_told}
use Rattle.pings.specs.declared.PingHeader.{PingHeader}
use Rattle.ping_writers.specs.Writers.{WrittenU, WrittenC, WrittenA}

module _ (f : Family) (o : Bool) (h : PingHeader) (a : ℤ) (ns : List ℕ) (out : List ℕ) (r s : Result Counts Refusal)
    {left kept : List ℕ} where
  pub written_u_told : (vs : List ℤ) → WrittenU f o h a ns vs out (as_answer r) left → WrittenU f o h a ns vs out (as_answer s) kept
      → (r ≡ s) × (left ≡ kept)
  written_u_told vs p q = written_told r s p q

  pub written_c_told : (vs : List ℤ) (l : Option ℕ) → WrittenC f o h a ns vs l out (as_answer r) left
      → WrittenC f o h a ns vs l out (as_answer s) kept → (r ≡ s) × (left ≡ kept)
  written_c_told vs l p q = written_told r s p q

  pub written_a_told : (xs ys : List ℤ) → WrittenA f o h a ns xs ys out (as_answer r) left
      → WrittenA f o h a ns xs ys out (as_answer s) kept → (r ≡ s) × (left ≡ kept)
  written_a_told xs ys p q = written_told r s p q
