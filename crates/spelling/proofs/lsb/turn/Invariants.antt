-- The words that are left are still to be written.
use Rattle.std.proofs.Common.{◌≡◌, false}
use Rattle.std.specs.Slice.Iter.{chunks_exact_rest, chunks_exact_size}
use Rattle.samples.specs.Words.{all_words}
use Rattle.spelling.proofs.Left.{Unwritten}
use Rattle.spelling.proofs.lsb.turn.Given as goal

abbrev pub invariant-loop-bytes : goal.invariant-loop-bytes
invariant-loop-bytes g l =
    let k = g.W.Words.WORD in
    let left = chunks_exact_rest l.bytes-iterator in
    record {
      size : chunks_exact_size l.bytes-iterator ≡ k;
      rest : Unwritten k false (all_words k l.msb l.part) (all_words k l.msb left) l.fn.out l.out l.to l.at;
    }
