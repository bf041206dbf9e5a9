-- `weights::weigh::words4` meets its contract: what is weighed and what is left are all. Assumes nothing.
use Rattle.std.proofs.Common.{◌+◌, ◌*◌, arith, not, drop}
use mir.Val.{bool_byte}
use Rattle.layout.specs.Families.{wide}
use Rattle.samples.proofs.Judging.{counts-one}
use Rattle.weights.specs.inner.Weights.{by_words}
use Rattle.weights.proofs.Weighing.{left-turn, left-none, word_read}
use Rattle.weights.proofs.weigh.words4.Goals as goal

pub loop-i-preserved : goal.loop-i-preserved
loop-i-preserved c =
    let l = c.loop-i in
    let a = c.args in
    let run = c.is_run.result in
    let bad = c.is_bad.result in
    let x = word_read wide a.msb (drop (a.from + 4 * l.i) a.file.now) c.read4-word.result run bad
    c.read4-word.ensures c.is_run.ensures c.is_bad.ensures in
    let turn = left-turn (by_words wide a.msb) 4 a.n a.from a.file.now l.i (bool_byte (not run) + 32765 * bool_byte bad)
    (l.values + 32765 * l.bad) c.loop-i-test.true x in (
      omega (arith, c.from-values.ensures, counts-one (not run)),
      omega (arith, c.from-bad.ensures, counts-one bad),
      omega (arith, c.from-values.ensures, c.from-bad.ensures, turn),
    )

pub returns : goal.returns
returns c =
    let l = c.loop-i in
    let a = c.args in
    let none = left-none (by_words wide a.msb) 4 a.n a.from a.file.now l.i (l.values + 32765 * l.bad) c.loop-i-test.false in
    omega (arith, none, l.invariant.2)
