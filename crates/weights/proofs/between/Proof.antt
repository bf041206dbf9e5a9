-- `weights::between` meets its contract: what weighs a row up to the last of them, but for what is before the first. Assumes nothing.
use mathlib.Core.Path.{◌≡◌, sym, ap, ◌∙◌}
use Prim.Native.Nat.{ℕ, ◌+◌, ◌/◌, ◌%◌}
use native.Mathlib.Omega.{arith}
use borrow.Author.Rules.{rules}
use lib.ListN.{length}
use Rattle.weights.specs.inner.Weights.{weight_at}
use Rattle.weights.specs.inner.Rows.{base_at}
use Rattle.weights.proofs.Parts.{Reached, reached-by, between_is}
use Rattle.weights.proofs.between.Statement.{statement}
use Rattle.weights.proofs.between.Tie as tie

-- places, named by what has been done there
abbrev start : tie.After-step_of-step → tie.Start
start c = c.before.before.before.before

reach : (c : tie.After-step_of-step) → let a = (start c).args in Reached a.kind c.step_of-step.result a.at a.n (length a.file.now)
reach c =
    let a = (start c).args in
    let p = (start c).requires in
    reached-by a.kind _ a.at a.n (length a.file.now) c.step_of-step.ensures p.1.0 p.0.1

-- the row has them
based : (c : tie.After-step_of-step) → base_at c.row_of-row.result ≡ (start c).args.at % c.step_of-step.result
based c = c.row_of-row.ensures.base ∙ ap (λ (s : ℕ). (start c).args.at % s) (sym c.step_of-step.ensures)

first-requires : tie.Need-first-behind-requires
first-requires c κs =
    let p = (start c).requires in
    let r = c.row_of-row.ensures in
    ((r.there, p.0.1), (r.kind, (based c, ((reach c).all, p.1.1))))

first-requires-2 : tie.Need-first-requires
first-requires-2 c κs =
    let b = c.before in
    let p = (start b).requires in
    let r = b.row_of-row.ensures in
    ((r.there, p.0.1), (r.kind, (based b, ((reach b).before, p.1.1))))

-- all of them, and what is before
parts : (c : tie.After-first) →
    let b = c.before.before in
    let a = (start b).args in
    let s = b.step_of-step.result in
    let weight = weight_at a.kind a.msb a.file.now in
    weight (a.at % s) (a.at / s + a.n) ≡ weight (a.at % s) (a.at / s) + weight a.at a.n
parts c =
    let b = c.before.before in
    let a = (start b).args in
    between_is a.kind a.msb a.file.now _ a.at a.n (length a.file.now) b.step_of-step.ensures (reach b)

sub-result : tie.Need-overflow_sub-result
sub-result c = omega (arith, parts c, c.first-behind.ensures, c.first.ensures)

returns : tie.Need-returns
returns c = omega (arith, parts c, c.first-behind.ensures, c.first.ensures)

pub between_spec : {M : Type 1} → statement M
between_spec =
    tie.close
    (tie.spec
    (λ c κs. search rules)
    (λ c κs. search rules)
    (λ c. (reach c).some)
    (λ c. (reach c).some)
    (λ c. omega (arith, (reach c).most))
    first-requires
    first-requires-2
    sub-result
    returns)
