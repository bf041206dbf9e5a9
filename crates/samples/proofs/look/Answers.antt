-- `samples::look` meets its contract. Assumes nothing.
use Rattle.std.proofs.Common.{◌∙◌, sym, ap, arith}
use mathlib.Core.Bool.{or-false}
use Rattle.layout.specs.Families.{wide, is_bad}
use Rattle.samples.specs.Runs.{radix, is_run, values, first_bad}
use Rattle.samples.specs.Judging.{any_bad}
use Rattle.samples.proofs.Judging.{counts-one}
use Rattle.samples.proofs.Chunks.{words_none, words_first, values_next, bad_next}
use Rattle.samples.proofs.look.Goals as goal

pub loop-bytes-preserved : goal.loop-bytes-preserved
loop-bytes-preserved c =
    let l = c.loop-bytes in
    let words = c.as_chunks.result.0.now in
    let here = c.loop-bytes-test.true in
    let word = c.word_in-word.ensures in
    record {
      few = omega (arith, counts-one);
      counted = values_next c.args.msb words l.bytes-index here radix _ (c.is_run.ensures ∙ ap (is_run radix) word) l.values
          ∙ l.invariant.counted;
      seen = bad_next c.args.msb words l.bytes-index here wide _ (c.is_bad-bad.ensures ∙ ap (is_bad wide) word) l.bad ∙ l.invariant.seen;
    }

pub returns : goal.returns
unfolding values first_bad
returns c =
    let l = c.loop-bytes in
    let words = c.as_chunks.result.0.now in
    let none = words_none c.args.msb words l.bytes-index c.loop-bytes-test.false in
    let all = words_first 4 c.args.msb c.args.part.now words c.as_chunks.ensures.front in
    record {
      values_value = omega (arith, rw none at l.invariant.counted, ap (values radix) all);
      bad_value = sym (or-false l.bad) ∙ rw none at l.invariant.seen ∙ ap (any_bad wide) all;
    }
