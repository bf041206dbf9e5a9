-- `readings::lay` meets its contract: the samples from here on are still to be laid. Assumes nothing.
use Rattle.std.proofs.Common.{◌≡◌, ◌+◌, ◌*◌, ◌<◌, ◌≤◌, ◌∙◌, length, arith}
use Rattle.std.proofs.Math.Nat.{le-div_iff_mul-le}
use Rattle.layout.specs.Types.{shape_of}
use Rattle.sampling.proofs.Walking.{left_end}
use Rattle.readings.specs.Reading.{case_in, double_in}
use Rattle.readings.proofs.Laying.{laid-all, laid-turn}
use Rattle.readings.proofs.lay.Goals as goal

pub loop-i-preserved : goal.loop-i-preserved
loop-i-preserved c =
    let a = c.args in
    let i = c.loop-i.invariant in
    let s = c.sample_at-it.ensures in
    let laid = c.lay_step.ensures in
    let width = c.width_of-width.ensures.0 in
    let divisor = c.divisor_of-divisor.ensures.0 in
    let at : (c.loop-i.i + 1) * c.width_of-width.result ≡ c.loop-i.i * c.width_of-width.result + c.width_of-width.result = omega arith in (
      omega (arith, s.near, width, i.0),
      rw at (laid-turn case_in a.quantity s width divisor a.first c.loop-i.cases laid.cases_after ∙ i.1),
      rw at (laid-turn double_in a.quantity s width divisor a.first c.loop-i.doubles laid.doubles_after ∙ i.2),
    )

pub returns : goal.returns
returns c =
    let a = c.args in
    let i = c.loop-i.invariant in
    let n = c.loop-i.i in
    let width = c.width_of-width.ensures in
    let least : 0 < c.width_of-width.result = omega (arith, width.1) in
    let over : (n + 1) * c.width_of-width.result ≤ length a.held.now → ⊥ = λ h.
    let m = (le-div_iff_mul-le least).1 h in
    omega (arith, m, c.loop-i-test.false) in
    let none = left_end (shape_of a.code) a.msb c.loop-i.number a.held.now (n * c.width_of-width.result) (omega (arith, over, width.0)) in
    record { cases_after = laid-all _ _ none i.1; doubles_after = laid-all _ _ none i.2 }
