-- Each number begins the samples that are left; its gap and its value are the next words.
use Rattle.std.proofs.Common.{◌∙◌, ap, subst, List, length, arith}
use Rattle.samples.specs.Words.{Sample}
use Rattle.samples.specs.Runs.{encode_from}
use Rattle.samples.specs.inner.Lists.{numbered}
use Rattle.samples.proofs.Apart.{numbered_next, numbered-end, length-numbered}
use Rattle.samples.proofs.Rising.{Rising, all-rising}
use Rattle.samples.proofs.Runs.{encode-length}
use Rattle.spelling.proofs.write.count.Goals as goal

pub loop-number-init : goal.loop-number-init
loop-number-init g c =
    let ns = c.args.numbers.now in
    record {
      short = omega arith;
      few = omega arith;
      rises = all-rising (numbered ns) 0 (omega (arith, length-numbered ns));
      rest = omega arith;
    }

pub loop-number-preserved : goal.loop-number-preserved
loop-number-preserved g c =
    let l = c.loop-number in
    let i = l.invariant in
    let R = g.W.Words.FULL in
    let split = numbered_next c.args.numbers.now l.number-index (omega arith) in
    let r = subst (Rising l.next) split i.rises in
    let words = ap (λ (s : List Sample). length (encode_from R l.next s c.args.quiet)) split
    ∙ encode-length R (omega (arith, g.met.W.Words.radix)) l.next _ _ c.args.quiet in
    record {
      short = omega (arith, c.runs.ensures.upper_bound, r.0);
      few = omega arith;
      rises = r.1;
      rest = omega (arith, c.runs.ensures.value, words);
    }

pub returns : goal.returns
unfolding encode_from
returns g c =
    let l = c.loop-number in
    let i = l.invariant in
    let e = numbered-end c.args.numbers.now l.number-index c.loop-number-test.false in
    record {
      value = omega (arith, ap (λ (s : List Sample). length (encode_from g.W.Words.FULL l.next s c.args.quiet)) e, c.runs-2.ensures.value);
      upper_bound = omega (arith, c.runs-2.ensures.upper_bound);
    }
