-- The rows of sums: which has a kind's things that stand at a place. Assumes nothing.
use mathlib.Core.Path.{◌≡◌, refl, sym}
use Prim.Native.Nat.{ℕ, zero, suc, ◌+◌, ◌*◌, ◌/◌, ◌%◌, ◌<◌}
use native.Mathlib.Omega.{arith}
use lib.Dec.{lit<}
use Rattle.weights.specs.declared.Kind.TheVariants.{C32, C16, CE16, Pairs, Shorts, Triples}
use Rattle.weights.specs.inner.Rows.{RowOf}

pub row_c32 : (at : ℕ) → at % 4 ≡ 0 → RowOf C32 at 0
row_c32 at h = record { there = lit< tt; kind = refl; base = sym h }

pub row_c16 : (at : ℕ) → at % 4 ≡ 0 → RowOf C16 at 1
row_c16 at h = record { there = lit< tt; kind = refl; base = omega arith }

pub row_ce16 : (at : ℕ) → at % 4 ≡ 0 → RowOf CE16 at 2
row_ce16 at h = record { there = lit< tt; kind = refl; base = omega arith }

pub row_shorts : (at : ℕ) → at % 4 ≡ 0 → RowOf Shorts at 5
row_shorts at h = record { there = lit< tt; kind = refl; base = sym h }

two-rows : (at q : ℕ) → at % 8 ≡ 4 * q → q < 2 → RowOf Pairs at (3 + q)
two-rows at zero e h = record { there = lit< tt; kind = refl; base = omega (arith, e) }
two-rows at (suc zero) e h = record { there = lit< tt; kind = refl; base = omega (arith, e) }
two-rows at (suc (suc q)) e h = absurd (omega arith)

pub row-pairs : (at : ℕ) → at % 4 ≡ 0 → RowOf Pairs at (3 + at % 8 / 4)
row-pairs at h = two-rows at (at % 8 / 4) (omega arith) (omega arith)

three_rows : (at q : ℕ) → at % 6 ≡ 2 * q → q < 3 → RowOf Triples at (6 + q)
three_rows at zero e h = record { there = lit< tt; kind = refl; base = omega (arith, e) }
three_rows at (suc zero) e h = record { there = lit< tt; kind = refl; base = omega (arith, e) }
three_rows at (suc (suc zero)) e h = record { there = lit< tt; kind = refl; base = omega (arith, e) }
three_rows at (suc (suc (suc q))) e h = absurd (omega arith)

pub row-triples : (at : ℕ) → at % 4 ≡ 0 → RowOf Triples at (6 + at % 6 / 2)
row-triples at h = three_rows at (at % 6 / 2) (omega arith) (omega arith)
