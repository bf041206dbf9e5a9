-- The samples of the words from this one on are still to be handed over. A word passes at most 256 samples, so that the sample's number
-- stays below 2^32. Assumes nothing.
use Rattle.std.proofs.Common.{◌*◌, ◌≤◌}
use Rattle.samples.specs.Words.{all_words}
use Rattle.samples.specs.Lists.{handed_bytes}
use Rattle.samples.specs.inner.Narrow.{words_by}
use Rattle.samples.specs.Runs.{decode_from}
use Rattle.samples.specs.Values.{meant, revalued, samples_in}
use Rattle.samples.proofs.Handing.{Handing}
use Rattle.samples.proofs.Chunks.{words_on}
use Rattle.samples16.proofs.read_words.Given as goal

abbrev pub invariant-loop-bytes : goal.invariant-loop-bytes
invariant-loop-bytes l = record {
  early : l.entry ≤ l.bytes-index;
  low : l.number ≤ 256 * l.bytes-index;
  handed : Handing (handed_bytes (words_by l.encoded)) (samples_in (words_by l.encoded) (all_words 2 l.msb l.part))
      (revalued (meant (words_by l.encoded)) (decode_from 256 l.number (words_on l.msb l.words l.bytes-index)))
      l.fn.numbers l.fn.values l.numbers l.values l.entry;
}
