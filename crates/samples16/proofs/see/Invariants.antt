-- The values counted and those from this word on are all values; and so for the words outside the limits. Assumes nothing.
use Rattle.std.proofs.Common.{◌≡◌, ◌+◌, ◌≤◌, ◌||◌}
use Rattle.samples.specs.inner.Narrow.{words_by}
use Rattle.samples.specs.Runs.{values}
use Rattle.samples.specs.Judging.{any_bad}
use Rattle.samples.proofs.Chunks.{words_on}
use Rattle.samples16.proofs.see.Given as goal

abbrev pub invariant-loop-bytes : goal.invariant-loop-bytes
invariant-loop-bytes l = record {
  few : l.values ≤ l.bytes-index;
  counted : l.values + values 256 (words_on l.msb l.words l.bytes-index) ≡ values 256 (words_on l.msb l.words 0);
  seen : (l.bad || any_bad (words_by l.encoded) (words_on l.msb l.words l.bytes-index)) ≡ any_bad (words_by l.encoded) (words_on l.msb l.words 0);
}
