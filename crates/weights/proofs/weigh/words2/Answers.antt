-- `weights::weigh::words2` meets its contract: what is weighed and what is left are all. Assumes nothing.
use Rattle.std.proofs.Common.{◌+◌, ◌*◌, arith, not, drop}
use mir.Val.{bool_byte}
use Rattle.samples.specs.inner.Narrow.{words_by}
use Rattle.samples16.proofs.Laws.{outside}
use Rattle.samples.proofs.Judging.{counts-one}
use Rattle.weights.specs.inner.Weights.{by_words}
use Rattle.weights.proofs.Weighing.{left-turn, left-none, word_read, narrow-read, run-narrow}
use Rattle.weights.proofs.weigh.words2.Goals as goal

pub loop-i-preserved : goal.loop-i-preserved
loop-i-preserved c =
    let l = c.loop-i in
    let a = c.args in
    let f = words_by a.encoded in
    let run = c.is_run.result in
    let bad = c.is_bad.result in
    let word = c.read2-word.result in
    let x = word_read f a.msb (drop (a.from + 2 * l.i) a.file.now) word run bad (narrow-read a.encoded a.msb _ _ c.read2-word.ensures)
    (run-narrow a.encoded word _ c.is_run.ensures) (outside a.encoded word _ _ c.is_bad.ensures c.most_bad-most.ensures) in
    let turn = left-turn (by_words f a.msb) 2 a.n a.from a.file.now l.i (bool_byte (not run) + 32765 * bool_byte bad)
    (l.values + 32765 * l.bad) c.loop-i-test.true x in (
      omega (arith, c.from-values.ensures, counts-one (not run)),
      omega (arith, c.from-bad.ensures, counts-one bad),
      omega (arith, c.from-values.ensures, c.from-bad.ensures, turn),
    )

pub returns : goal.returns
returns c =
    let l = c.loop-i in
    let a = c.args in
    let none = left-none (by_words (words_by a.encoded) a.msb) 2 a.n a.from a.file.now l.i (l.values + 32765 * l.bad) c.loop-i-test.false in
    omega (arith, none, l.invariant.2)
