-- The words counted and those that are left, packed, are all words packed. A word passes at most 65,536 samples, so that the quiet ones
-- stay below 2^32.
use Rattle.std.proofs.Common.{◌≡◌, ◌+◌, ◌*◌, ◌≤◌, length}
use Rattle.std.specs.Slice.Iter.{chunks_exact_rest, chunks_exact_size}
use Rattle.samples.specs.Words.{all_words}
use Rattle.samples.specs.inner.Packing.{pack_from, packed}
use Rattle.spelling.proofs.packing.count.Given as goal

abbrev pub invariant-loop-bytes : goal.invariant-loop-bytes
invariant-loop-bytes g l =
    let R = g.W.Words.FULL in
    let kept = g.W.Words.kept in
    let k = g.W.Words.WORD in
    let left = chunks_exact_rest l.bytes-iterator in
    record {
      size : chunks_exact_size l.bytes-iterator ≡ k;
      few : 4 * l.quiet + 65536 * length left ≤ 65536 * length l.part;
      rest : l.count + length (pack_from R kept l.quiet (all_words k l.msb left)) ≡ length (packed R kept (all_words k l.msb l.part));
    }
