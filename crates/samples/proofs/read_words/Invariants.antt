-- The samples of the words from this one on are still to be handed over. A word passes at most 65,536 samples, so that the sample's number
-- stays below 2^32. Assumes nothing.
use Rattle.std.proofs.Common.{◌*◌, ◌≤◌}
use Rattle.samples.specs.Words.{all_words}
use Rattle.samples.specs.Runs.{radix, decode_from, decode}
use Rattle.samples.proofs.Handing.{Handing}
use Rattle.samples.proofs.Chunks.{words_on}
use Rattle.samples.proofs.read_words.Given as goal

abbrev pub invariant-loop-bytes : goal.invariant-loop-bytes
invariant-loop-bytes l = record {
  early : l.entry ≤ l.bytes-index;
  low : l.number ≤ 65536 * l.bytes-index;
  handed : Handing 4 (decode radix (all_words 4 l.msb l.part)) (decode_from radix l.number (words_on l.msb l.words l.bytes-index))
      l.fn.numbers l.fn.values l.numbers l.values l.entry;
}
