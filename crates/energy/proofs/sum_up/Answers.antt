-- `energy::sum_up` meets its contract: what is left at a piece gives, behind the sum there, what all give (`Summing`). Assumes nothing.
use Rattle.std.proofs.Common.{◌≡◌, ℕ, ◌*◌, sym, ap, ◌∙◌, arith, rules}
use mathlib.Core.Path.{ap₂}
use lib.IntN.{pos}
use lib.Signed.{lt_z}
use mir.Syntax.{w32}
use mir.Val.{to_z, of_z}
use mir.ValLaws.{to_z-of_z}
use Rattle.quantities.specs.inner.Codes.{family_of}
use Rattle.linear.specs.Linear.{negated, depth_of, linear_of, linear_below}
use Rattle.linear.proofs.Levels.{within, too_loud, too_quiet}
use Rattle.energy.proofs.Sums.{summing_done, turn-by, turn-run, turn-stop, turn-value}
use Rattle.energy.proofs.sum_up.Goals as goal

pub returns-then-loud : goal.returns-then-loud
returns-then-loud c =
    let s = c.in-Some.ensures.steps in
    let i = c.loop-piece.invariant in
    let turn = turn-by i.summing s.1.0 (s.1.1 ∙ i.size) c.width_of-width.ensures c.requires.values_value.1 c.value_at.ensures in
    let same : to_z w32 (of_z w32 c.in-Some-value_at.value) ≡ c.in-Some-value_at.value = to_z-of_z w32 _ (search rules) in
    turn-stop turn c.in-Some-value_at.is (too_loud _ _ (ap (lt_z (pos 0)) (sym same) ∙ c.if-loud.true))

pub returns-then-depth-gt-QUIETEST : goal.returns-then-depth-gt-QUIETEST
returns-then-depth-gt-QUIETEST c =
    let s = c.in-Some.ensures.steps in
    let i = c.loop-piece.invariant in
    let turn = turn-by i.summing s.1.0 (s.1.1 ∙ i.size) c.width_of-width.ensures c.requires.values_value.1 c.value_at.ensures in
    let same : to_z w32 (of_z w32 c.in-Some-value_at.value) ≡ c.in-Some-value_at.value = to_z-of_z w32 _ (search rules) in
    let depth : c.negated_of.result * c.unit_of-unit.result ≡ depth_of (family_of c.args.code) c.in-Some-value_at.value =
    ap₂ (λ (x y : ℕ). x * y) (c.negated_of.ensures.0 ∙ ap negated same) c.unit_of-unit.ensures.0 in
    turn-stop turn c.in-Some-value_at.is (too_quiet _ _ (rw depth at c.if-depth-gt-QUIETEST.true))

pub loop-piece-preserved : goal.loop-piece-preserved
unfolding linear_of
loop-piece-preserved c =
    let s = c.in-Some.ensures.steps in
    let i = c.loop-piece.invariant in
    let turn = turn-by i.summing s.1.0 (s.1.1 ∙ i.size) c.width_of-width.ensures c.requires.values_value.1 c.value_at.ensures in
    let same : to_z w32 (of_z w32 c.in-Some-value_at.value) ≡ c.in-Some-value_at.value = to_z-of_z w32 _ (search rules) in
    let depth : c.negated_of.result * c.unit_of-unit.result ≡ depth_of (family_of c.args.code) c.in-Some-value_at.value =
    ap₂ (λ (x y : ℕ). x * y) (c.negated_of.ensures.0 ∙ ap negated same) c.unit_of-unit.ensures.0 in
    let inside = within _ _ (ap (lt_z (pos 0)) (sym same) ∙ c.if-loud.false) (rw depth at c.if-depth-gt-QUIETEST.false) in
    let l = c.linear_below-sum.ensures in
    record { size = s.0 ∙ i.size; summing = turn-value turn c.in-Some-value_at.is inside (l.0 ∙ ap linear_below depth) l.1 }

pub loop-piece-preserved-in_default : goal.loop-piece-preserved-in_default
loop-piece-preserved-in_default c =
    let s = c.in-Some.ensures.steps in
    let i = c.loop-piece.invariant in
    let turn = turn-by i.summing s.1.0 (s.1.1 ∙ i.size) c.width_of-width.ensures c.requires.values_value.1 c.value_at.ensures in
    record { size = s.0 ∙ i.size; summing = turn-run turn c.in_default.is }

pub returns : goal.returns
returns c =
    let i = c.loop-piece.invariant in
    summing_done i.summing (omega (arith, c.in-None.ensures.steps.1.0, i.size, c.width_of-width.ensures.0))
