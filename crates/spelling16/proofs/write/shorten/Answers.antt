-- A halving more, and none where thirteen bits hold what is left or none is left.
use Rattle.std.proofs.Common.{◌≡◌, ◌+◌, ◌-◌, arith}
use Rattle.samples.proofs.Meaning.{short-here}
use Rattle.spelling16.proofs.Laws.{short-more, short-end}
use Rattle.spelling16.proofs.write.shorten.Goals as goal

pub returns-then-rest-lt-THIRTEEN_BITS : goal.returns-then-rest-lt-THIRTEEN_BITS
returns-then-rest-lt-THIRTEEN_BITS c =
    let l = c.loop in
    let i = l.invariant in
    record { value = omega (arith, short-here (6 - l.counter) l.rest c.if-rest-lt-THIRTEEN_BITS.true); upper_bound = omega arith }

pub loop-preserved : goal.loop-preserved
loop-preserved c =
    let l = c.loop in
    let i = l.invariant in
    let e = short-more (6 - l.counter) l.rest (omega arith) c.if-rest-lt-THIRTEEN_BITS.false in
    let less : 6 - l.counter - 1 ≡ 6 - (l.counter + 1) = omega arith in
    record { few = omega arith; same = omega (arith, rw less at e) }

pub returns : goal.returns
returns c =
    let l = c.loop in
    let i = l.invariant in
    record { value = omega (arith, short-end (6 - l.counter) l.rest (omega arith)); upper_bound = omega arith }
