-- `normal::measure_file` meets its contract: the forms and the index of their types. Assumes nothing.
use mathlib.Core.Path.{ap, ◌∙◌}
use Prim.Native.Nat.{ℕ, ◌+◌}
use native.Mathlib.Omega.{arith}
use borrow.Author.Rules.{rules}
use Rattle.intake.proofs.Loops.{accepted-small}
use Rattle.index.proofs.Writes.{few-flagged}
use Rattle.normal.proofs.Measures.{measured-index}
use Rattle.normal.proofs.measure_file.Statement.{statement}
use Rattle.normal.proofs.measure_file.Tie as tie

index-length-requires : tie.Need-index_length-more-requires
index-length-requires c κs = omega (arith, c.count_types.ensures, few-flagged c.measure_forms-m.new.flags)

add-bytes : tie.Need-overflow_add-result
add-bytes c =
    omega (
      arith,
      c.index_length-more.ensures,
      c.count_types.ensures,
      few-flagged c.measure_forms-m.new.flags,
      c.measure_forms-m.ensures.1.0,
      accepted-small _ c.requires.0,
    )

returns : tie.Need-returns
returns c =
    let m = c.measure_forms-m in (
      ap (λ (n : ℕ). record { bytes = m.result.bytes + n; unlisted = m.result.unlisted }) c.index_length-more.ensures
          ∙ measured-index _ m.result m.new.flags c.count_types.result m.ensures.0 m.ensures.1.1
          c.count_types.ensures,
      m.ensures.1.1,
    )

pub measure_file_spec : {M : Type 1} → statement M
measure_file_spec =
    tie.close
    (tie.spec
    (λ c κs. (c.requires.0, c.requires.1))
    (λ c κs. search rules)
    index-length-requires
    add-bytes
    returns)
