-- `weights::first` meets its contract: the whole blocks by their entry, and the rest. Assumes nothing.
use Prim.Native.Nat.{◌+◌, ◌*◌, ◌/◌, ◌<◌}
use native.Mathlib.Omega.{arith}
use borrow.Author.Rules.{rules}
use lib.ListN.{length}
use Rattle.weights.proofs.Parts.{Parted, parted-by, entry-most, first-is}
use Rattle.weights.proofs.Filling.{span}
use Rattle.weights.proofs.first.Statement.{statement}
use Rattle.weights.proofs.first.Tie as tie

-- places, named by what has been done there
abbrev start : tie.After-bytes_of → tie.Start
start c = c.before.before.before.before

-- the blocks, and the rest
parts : (c : tie.After-bytes_of) →
    let a = (start c).args in
    Parted a.kind c.block_of-block.result c.bytes_of.result a.base a.n (length a.file.now)
parts c =
    let a = (start c).args in
    let p = (start c).requires in
    parted-by a.kind _ _ a.base a.n (length a.file.now) c.block_of-block.ensures c.bytes_of.ensures
    p.1.1.1.0 p.0.1

-- the entry is there
there : (c : tie.After-bytes_of) →
    let a = (start c).args in
    let i = 1025 * a.row + a.n / c.block_of-block.result in
    (i < length a.sums.now) × (i < 10000)
there c = let p = (start c).requires in omega (arith, (parts c).few, p.0, p.1.1.1.1.long)

add-result-2 : tie.Need-overflow_add-result-2
add-result-2 c =
    let b = c.before.before in
    let a = (start b).args in
    let p = (start b).requires in
    let entry = entry-most a.msb a.file.now a.sums.now a.row a.kind a.base a.n _ _ p.1.1.1.1 p.0.0
    p.1.0
    p.1.1.0 b.block_of-block.ensures (parts b) in
    omega (arith, entry, c.weigh.ensures.1, (parts b).less, b.block_of-block.ensures, span a.kind)

returns : tie.Need-returns
returns c =
    let b = c.before.before in
    let a = (start b).args in
    let p = (start b).requires in
    first-is a.msb a.file.now a.sums.now a.row a.kind a.base a.n _ _ p.1.1.1.1 p.0.0 p.1.0 p.1.1.0
    b.block_of-block.ensures (parts b) _ c.weigh.ensures.0

pub first_spec : {M : Type 1} → statement M
first_spec =
    tie.close
    (tie.spec
    (λ c κs. search rules)
    (λ c. omega (arith, c.block_of-block.ensures, span c.args.kind))
    (λ c κs. search rules)
    (λ c. omega (arith, (parts c).near, (start c).requires.0))
    (λ c. omega (arith, (parts c).near, (start c).requires.0))
    (λ c. omega (arith, (start c).requires.0))
    (λ c. omega (arith, there c))
    (λ c. omega (arith, there c))
    (λ c. (there c.before).0)
    (λ c. (parts c.before).some)
    (λ c κs. let b = c.before in ((parts b).behind, omega (arith, (parts b).less, b.block_of-block.ensures)))
    add-result-2
    returns)
