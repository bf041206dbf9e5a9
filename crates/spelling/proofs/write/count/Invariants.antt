-- The words counted and those of the samples that are left are the fewest words. A word stands for at least one sample, so there are no
-- more words than samples up to here.
use Rattle.std.proofs.Common.{◌≡◌, ◌+◌, ◌^◌, ◌≤◌, length, drop}
use Rattle.samples.specs.inner.Lists.{numbered}
use Rattle.samples.specs.Runs.{encode_from}
use Rattle.samples.proofs.Rising.{Rising}
use Rattle.spelling.proofs.write.count.Given as goal

abbrev pub invariant-loop-number : goal.invariant-loop-number
invariant-loop-number g l =
    let R = g.W.Words.FULL in
    let left = numbered (drop l.number-index l.numbers) in
    record {
      short : l.count ≤ l.next;
      few : l.next ≤ 2 ^ 32;
      rises : Rising l.next left;
      rest : l.count + length (encode_from R l.next left l.quiet) ≡ length (encode_from R 0 (numbered l.numbers) l.quiet);
    }
