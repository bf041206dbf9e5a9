-- The samples that are left are still to be written.
use Rattle.std.proofs.Common.{◌≡◌, ◌+◌, false, length}
use Rattle.std.proofs.lemmas.List.Edits.{sets}
use Rattle.std.specs.Slice.Iter.{chunks_exact_rest, chunks_exact_size}
use Rattle.layout.specs.Families.{wide_angles}
use Rattle.samples.specs.Words.{all_samples, unsampled}
use Rattle.spelling16.proofs.lsb.turn_angles.Given as goal

abbrev pub invariant-loop-sample : goal.invariant-loop-sample
invariant-loop-sample l =
    let left = chunks_exact_rest l.sample-iterator in
    record {
      size : chunks_exact_size l.sample-iterator ≡ 8;
      long : length l.out ≡ length l.fn.out;
      ends : l.at + length left ≡ l.to + length l.part;
      rest : sets l.out l.at (unsampled wide_angles false (all_samples wide_angles l.msb left))
          ≡ sets l.fn.out l.to (unsampled wide_angles false (all_samples wide_angles l.msb l.part));
    }
