-- `samples16::read_words` meets its contract: a turn hands over the sample of a value, and passes those of a run. Assumes nothing.
use Rattle.std.proofs.Common.{◌∙◌, sym, ap, lit<, ℕ, List, arith}
use mir.Syntax.{w32}
use mir.Facts.{to_z-of_z}
use Rattle.samples.specs.Words.{all_words}
use Rattle.samples.specs.inner.Narrow.{words_by}
use Rattle.samples.specs.Runs.{decode_from}
use Rattle.samples.specs.Values.{meant, revalued}
use Rattle.samples.proofs.Runs.{run_short}
use Rattle.samples.proofs.Handing.{handing_begin, handing_as, handing_one, handing_end, entry-numbers, entry-values}
use Rattle.samples.proofs.Chunks.{words_first, words_none, decode_next_run, decode_next_value}
use Rattle.samples16.proofs.Laws.{samples-words}
use Rattle.samples16.proofs.read_words.Goals as goal
use Rattle.samples16.proofs.read_words.Goals.{then-is_run, else-is_run}

pub loop-bytes-init : goal.loop-bytes-init
loop-bytes-init c =
    let a = c.args in
    record {
      early = omega arith;
      low = omega arith;
      handed = handing_as (samples-words a.encoded (all_words 2 a.msb a.part.now)
          ∙ ap (λ (ws : List ℕ). revalued (meant (words_by a.encoded)) (decode_from 256 0 ws))
          (sym (words_first 2 a.msb a.part.now c.as_chunks.result.0.now c.as_chunks.ensures.front)))
          (handing_begin c.requires.room);
    }

pub overflow_add-number : goal.overflow_add-number
overflow_add-number c = omega (arith, c.from-number.ensures, c.run_length.ensures, run_short 256 (lit< tt) c.word_in-word.result)

pub bounds-numbers-entry : goal.bounds-numbers-entry
bounds-numbers-entry c =
    let l = c.loop-bytes in
    entry-numbers (handing_as (ap (revalued (meant (words_by c.args.encoded))) (decode_next_value 256 c.args.msb c.as_chunks.result.0.now l.bytes-index c.loop-bytes-test.true _ c.word_in-word.ensures
    (sym c.is_run.ensures ∙ c.if-is_run.false) l.number)) l.invariant.handed)

pub bounds-values-entry : goal.bounds-values-entry
bounds-values-entry c =
    let l = c.loop-bytes in
    entry-values (handing_as (ap (revalued (meant (words_by c.args.encoded))) (decode_next_value 256 c.args.msb c.as_chunks.result.0.now l.bytes-index c.loop-bytes-test.true _ c.word_in-word.ensures
    (sym c.is_run.ensures ∙ c.if-is_run.false) l.number)) l.invariant.handed)

pub loop-bytes-preserved : goal.loop-bytes-preserved
loop-bytes-preserved c =
    let l = c.loop-bytes in
    let words = c.as_chunks.result.0.now in
    let here = c.loop-bytes-test.true in
    let word = c.word_in-word.result in
    let say = revalued (meant (words_by c.args.encoded)) in
    elim c.if-is_run.branch [
      | then-is_run w ↦
          let next = decode_next_run 256 c.args.msb words l.bytes-index here _ c.word_in-word.ensures (sym c.is_run.ensures ∙ w.if-is_run.true)
          l.number in
          record {
            early = omega (arith, w.entry-is);
            low = omega (arith, w.number-is, w.from-number.ensures, w.run_length.ensures, run_short 256 (lit< tt) word);
            handed = rw (w.numbers-is, w.values-is, w.number-is, w.entry-is, w.from-number.ensures, w.run_length.ensures) (handing_as (ap say next) l.invariant.handed);
          }
      | else-is_run w ↦
          let next = decode_next_value 256 c.args.msb words l.bytes-index here _ c.word_in-word.ensures
          (sym c.is_run.ensures ∙ w.if-is_run.false) l.number in
          let value = to_z-of_z {w = w32} {z = w.value_of.result} (record { sfits = w.value_of.type_inv }) ∙ w.value_of.ensures in
          record {
            early = omega (arith, w.entry-is);
            low = omega (arith, w.number-is);
            handed = rw (w.numbers-is, w.values-is, w.number-is, w.entry-is) (handing_one _ _ value (handing_as (ap say next) l.invariant.handed));
          }
    ]

pub returns-clause-numbers_after : goal.returns-clause-numbers_after
unfolding decode_from
returns-clause-numbers_after c =
    let l = c.loop-bytes in
    let none = words_none c.args.msb c.as_chunks.result.0.now l.bytes-index c.loop-bytes-test.false in
    (handing_end (handing_as (ap (λ (ws : List ℕ). revalued (meant (words_by c.args.encoded)) (decode_from 256 l.number ws)) none) l.invariant.handed)).0

pub returns-clause-values_after : goal.returns-clause-values_after
unfolding decode_from
returns-clause-values_after c =
    let l = c.loop-bytes in
    let none = words_none c.args.msb c.as_chunks.result.0.now l.bytes-index c.loop-bytes-test.false in
    (handing_end (handing_as (ap (λ (ws : List ℕ). revalued (meant (words_by c.args.encoded)) (decode_from 256 l.number ws)) none) l.invariant.handed)).1
