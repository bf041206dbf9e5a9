-- What is written and the words that are left, packed, are all words packed; fewer quiet samples than a full run has stand before them.
use Rattle.std.proofs.Common.{◌≡◌, ◌<◌}
use Rattle.std.specs.Slice.Iter.{chunks_exact_rest, chunks_exact_size}
use Rattle.samples.specs.Words.{all_words}
use Rattle.samples.specs.inner.Packing.{pack_from, packed}
use Rattle.samples.proofs.Packed.{Packing}
use Rattle.spelling.proofs.packing.pack.Given as goal

abbrev pub invariant-loop-bytes : goal.invariant-loop-bytes
invariant-loop-bytes g l =
    let R = g.W.Words.FULL in
    let kept = g.W.Words.kept in
    let k = g.W.Words.WORD in
    record {
      size : chunks_exact_size l.bytes-iterator ≡ k;
      short : l.quiet < R;
      rest : Packing k (packed R kept (all_words k l.msb l.part))
          (pack_from R kept l.quiet (all_words k l.msb (chunks_exact_rest l.bytes-iterator))) l.fn.out l.to l.out l.at;
    }
