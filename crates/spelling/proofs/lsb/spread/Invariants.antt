-- The samples of the words that are left are still to be written. A word passes at most 65,536 samples, so that the sample's number stays
-- below 2^32.
use Rattle.std.proofs.Common.{◌+◌, ◌*◌, ◌≤◌, false, length}
use Rattle.samples.specs.Words.{all_words}
use Rattle.samples.specs.Runs.{decode_from, decode}
use Rattle.samples.proofs.Turning.{Spreading}
use Rattle.spelling.proofs.lsb.spread.Given as goal

abbrev pub invariant-loop-at : goal.invariant-loop-at
invariant-loop-at g l =
    let R = g.W.Words.FULL in
    let k = g.W.Words.WORD in
    record {
      few : 4 * l.number + 65536 * length l.left ≤ 65536 * length l.part;
      rest : Spreading g.W.Words.family false (decode R (all_words k l.msb l.part)) (decode_from R l.number (all_words k l.msb l.left))
          l.fn.out l.to l.end l.out l.at;
    }

abbrev pub decreases-loop-at : goal.decreases-loop-at
decreases-loop-at g l = length l.left
