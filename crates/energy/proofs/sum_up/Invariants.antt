-- What is left gives, behind the sum so far, what all give.
use Rattle.std.proofs.Common.{◌≡◌}
use Rattle.std.specs.Slice.Iter.{chunks_exact_rest, chunks_exact_size}
use Rattle.energy.proofs.Sums.{Summing}
use Rattle.energy.proofs.sum_up.Given as goal

abbrev pub invariant-loop-piece : goal.invariant-loop-piece
invariant-loop-piece l = record {
  size : chunks_exact_size l.piece-iterator ≡ l.width;
  summing : Summing l.code l.msb l.held l.sum l.nth (chunks_exact_rest l.piece-iterator);
}
