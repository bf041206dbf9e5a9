-- The words of the samples that are left are still to be written.
use Rattle.std.proofs.Common.{map, drop}
use Rattle.samples.specs.inner.Lists.{worded}
use Rattle.samples.specs.Runs.{encode_from}
use Rattle.samples.proofs.Rising.{Rising}
use Rattle.spelling.proofs.Left.{Unwritten}
use Rattle.spelling.proofs.write.write.Given as goal

abbrev pub invariant-loop-i : goal.invariant-loop-i
invariant-loop-i g l =
    let R = g.W.Words.FULL in
    let f = g.V.Handed.kind in
    let number = g.V.Handed.number in
    let left = worded f (drop l.i l.numbers) (map number (drop l.i l.values)) in
    record {
      rises : Rising l.next left;
      rest : Unwritten g.W.Words.WORD l.msb (encode_from R 0 (worded f l.numbers (map number l.values)) l.quiet)
          (encode_from R l.next left l.quiet) l.fn.out l.out l.at l.to;
    }
