-- `weights::weigh::drops` meets its contract: what was compared so far is counted. Assumes nothing.
use Rattle.std.proofs.Common.{ℕ, ◌+◌, refl, ap, arith, add-one}
use lib.Dec.{leb}
use Rattle.samples.proofs.Judging.{counts-one}
use Rattle.weights.specs.inner.Weights.{Dropped}
use Rattle.weights.proofs.weigh.drops.Goals as goal

pub loop-i-init : goal.loop-i-init
unfolding Dropped
loop-i-init g c = (omega arith, refl)

pub loop-i-preserved : goal.loop-i-preserved
unfolding Dropped
loop-i-preserved g c =
    let l = c.loop-i in
    let y = c.number.result in
    let x = c.number-in-loop-i.result in (
      omega (arith, c.from-drops.ensures, counts-one (leb y x)),
      rw (add-one l.i)
          (x, y, l.drops, c.number-in-loop-i.ensures, c.number.ensures, l.invariant.1, ap (λ (k : ℕ). l.drops + k) c.from-drops.ensures),
    )
