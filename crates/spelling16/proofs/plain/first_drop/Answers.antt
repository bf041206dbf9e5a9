-- The number at the loop's place, and those behind it.
use Rattle.std.proofs.Common.{◌∙◌, ap, arith}
use borrow.Author.Tests.{lt-leb}
use Rattle.samples.specs.Judging.{first_drop}
use Rattle.samples.proofs.Apart.{numbered_next, numbered-end}
use Rattle.samples.proofs.Rising.{drop-later, drop_here}
use Rattle.spelling16.proofs.plain.first_drop.Goals as goal

pub returns-then-number-next : goal.returns-then-number-next
returns-then-number-next c =
    let l = c.loop-i in
    let e = ap (first_drop l.next) (rw (← c.from-number.ensures) at (numbered_next c.args.numbers.now l.i (omega arith))) in
    omega (arith, e ∙ drop_here l.next _ _ (lt-leb _ _ c.if-number-next.true))

pub loop-i-preserved : goal.loop-i-preserved
loop-i-preserved c =
    let l = c.loop-i in
    let e = ap (first_drop l.next) (rw (← c.from-number.ensures) at (numbered_next c.args.numbers.now l.i (omega arith))) in
    omega (arith, e ∙ drop-later l.next _ _ c.if-number-next.false)

pub returns : goal.returns
unfolding first_drop
returns c =
    let l = c.loop-i in
    omega (arith, ap (first_drop l.next) (numbered-end c.args.numbers.now l.i c.loop-i-test.false))
