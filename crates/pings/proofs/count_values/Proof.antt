-- `pings::count_values` meets its contract: an uncompressed ping has as many samples as its bytes hold, any other as many as it counts.
-- Assumes nothing.
use mathlib.Core.Path.{◌≡◌, refl, ◌∙◌}
use native.Mathlib.Omega.{arith}
use borrow.Author.Rules.{rules}
use Rattle.layout.specs.Families.{Family, wide, narrow, wide_angles, narrow_angles}
use Rattle.layout.specs.Types.{listings, shape_of, compressed}
use Rattle.pings.proofs.Parts.{arm_u, compressed-left, plain-count, words_count}
use Rattle.pings.proofs.count_values.Statement.{statement}
use Rattle.pings.proofs.count_values.Tie as tie

-- behind the arms a compressed ping is left
left : (c : tie.In_default) → (f : Family) × (shape_of c.args.code ≡ compressed f)
unfolding listings
left c = let s = c.before.before in compressed-left s.args.code s.requires.listed c.in_default.in_default-own.rest

read4-requires : tie.Need-read4-requires
read4-requires c κs = let f = left c in omega (arith, (c.requires.words f.0 f.1).long)

returns : tie.Need-returns-in-10000
returns c = let a = c.args in plain-count a.code a.msb a.part.now wide (arm_u wide refl c.in-10000.is)

returns-2 : tie.Need-returns-in-10001
returns-2 c =
    let a = c.args in
    plain-count a.code a.msb a.part.now wide_angles (arm_u wide_angles refl c.in-10001.is)

returns-3 : tie.Need-returns-in-10030
returns-3 c =
    let a = c.args in
    plain-count a.code a.msb a.part.now narrow (arm_u narrow refl c.in-10030.is)

returns-4 : tie.Need-returns-in-10031
returns-4 c =
    let a = c.args in
    plain-count a.code a.msb a.part.now narrow_angles (arm_u narrow_angles refl c.in-10031.is)

returns-5 : tie.Need-returns-in_default
returns-5 c =
    let s = c.before.before.before in
    let a = s.args in
    let f = left c.before in
    c.read4.ensures ∙ words_count a.code a.msb a.part.now s.requires f.0 f.1

pub count_values_spec : {M : Type 1} → statement M
count_values_spec =
    tie.close (tie.spec
    read4-requires
    (λ c. search rules)
    returns
    returns-2
    returns-3
    returns-4
    returns-5)
