-- `samples16::see` meets its contract. Assumes nothing.
use Rattle.std.proofs.Common.{◌∙◌, sym, ap, arith}
use mathlib.Core.Bool.{or-false}
use Rattle.samples.specs.inner.Narrow.{words_by}
use Rattle.layout.specs.Families.{is_bad}
use Rattle.samples.specs.Runs.{is_run, values, first_bad}
use Rattle.samples.proofs.Judging.{counts-one}
use Rattle.samples.proofs.Chunks.{words_none, values_next, bad_next}
use Rattle.samples16.proofs.Laws.{outside}
use Rattle.samples16.proofs.see.Goals as goal

pub loop-bytes-preserved : goal.loop-bytes-preserved
loop-bytes-preserved c =
    let a = c.args in
    let l = c.loop-bytes in
    let words = a.words.now in
    let here = c.loop-bytes-test.true in
    let word = c.word_in-word.ensures in
    let bad = outside a.encoded _ _ _ c.is_bad-bad.ensures c.most_bad-most.ensures ∙ ap (is_bad (words_by a.encoded)) word in
    record {
      few = omega (arith, counts-one);
      counted = values_next a.msb words l.bytes-index here 256 _ (c.is_run.ensures ∙ ap (is_run 256) word) l.values ∙ l.invariant.counted;
      seen = bad_next a.msb words l.bytes-index here (words_by a.encoded) _ bad l.bad ∙ l.invariant.seen;
    }

pub returns : goal.returns
unfolding values first_bad
returns c =
    let a = c.args in
    let l = c.loop-bytes in
    let none = words_none a.msb a.words.now l.bytes-index c.loop-bytes-test.false in
    record {
      values_value = omega (arith, rw none at l.invariant.counted);
      bad_value = sym (or-false l.bad) ∙ rw none at l.invariant.seen;
      values_in_bounds = omega (arith, l.invariant.few);
    }
