-- What was seen is of the blocks before this one. Assumes nothing.
use Rattle.std.proofs.Common.{◌≡◌, ◌*◌, ◌/◌, ◌≤◌, map, take, length}
use Rattle.std.specs.Simd.{first_chunks}
use Rattle.order.specs.Order.{num_of}
use Rattle.samples.specs.inner.Narrow.{words_by}
use Rattle.samples.specs.Runs.{values}
use Rattle.samples.specs.Judging.{any_bad}
use Rattle.samples16.proofs.look.Given as goal

abbrev pub invariant-loop-block : goal.invariant-loop-block
invariant-loop-block l = record {
  few : l.values ≤ 16384 * l.block-index;
  counted : l.values ≡ values 256 (map (num_of l.msb) (take (16384 * l.block-index) (first_chunks 2 (length l.part / 2) l.part)));
  seen : l.bad ≡ any_bad (words_by l.encoded) (map (num_of l.msb) (take (16384 * l.block-index) (first_chunks 2 (length l.part / 2) l.part)));
}
