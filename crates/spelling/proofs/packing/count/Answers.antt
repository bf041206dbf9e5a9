-- A turn counts the words of a value and of the gap before it. Packed words are no more than there were.
use Rattle.std.proofs.Common.{◌∙◌, sym, ap, ℕ, ◌+◌, List, length, not, arith}
use Rattle.samples.specs.Words.{all_words}
use Rattle.samples.specs.inner.Packing.{pack_from}
use Rattle.samples.proofs.Packed.{once, packed-few, pack_count}
use Rattle.spelling.proofs.Left.{chunk-words, chunk-long, chunk-none, words-few}
use Rattle.spelling.proofs.packing.count.Goals as goal

pub overflow_add-count-in-loop-bytes : goal.overflow_add-count-in-loop-bytes
overflow_add-count-in-loop-bytes g c =
    let i = c.loop-bytes.invariant in
    let R = g.W.Words.FULL in
    let ws = all_words g.W.Words.WORD c.args.msb c.args.part.now in
    let f = packed-few R (omega (arith, g.met.W.Words.radix)) g.W.Words.kept ws in
    let n = words-few g.W.Words.WORD c.args.msb c.args.part.now in
    omega (arith, once (not c.is_run-run.result) (c.runs.result + 1), c.runs.ensures.upper_bound)

pub loop-bytes-preserved : goal.loop-bytes-preserved
loop-bytes-preserved g c =
    let s = c.in-Some.ensures.steps in
    let i = c.loop-bytes.invariant in
    let R = g.W.Words.FULL in
    let kept = g.W.Words.kept in
    let step = chunk-words c.args.msb _ _ g.met.W.Words.widths.0 s.1.0 s.1.1 i.size c.read-word.ensures.value in
    let long = chunk-long _ _ s.1.0 s.1.1 i.size in
    record {
      size = s.0 ∙ i.size;
      few =
          omega (
            arith,
            once c.is_run-run.result (c.loop-bytes.quiet + c.run_length.result),
            c.run_length.ensures.upper_bound,
            g.met.W.Words.radix,
            long,
          );
      rest = pack_count R (omega (arith, g.met.W.Words.radix)) kept c.loop-bytes.quiet c.read-word.result c.runs.result
          c.run_length.result _
          c.is_run-run.result c.is_run-run.ensures c.runs.ensures.value c.run_length.ensures.value c.loop-bytes.count
          ∙ ap (λ (ws : List ℕ). c.loop-bytes.count + length (pack_from R kept c.loop-bytes.quiet ws)) (sym step)
          ∙ i.rest;
    }

pub overflow_add-result : goal.overflow_add-result
overflow_add-result g c =
    let i = c.loop-bytes.invariant in
    let R = g.W.Words.FULL in
    let ws = all_words g.W.Words.WORD c.args.msb c.args.part.now in
    let f = packed-few R (omega (arith, g.met.W.Words.radix)) g.W.Words.kept ws in
    let n = words-few g.W.Words.WORD c.args.msb c.args.part.now in
    omega (arith, c.runs-2.ensures.upper_bound)

pub returns : goal.returns
unfolding pack_from
returns g c =
    let i = c.loop-bytes.invariant in
    let e = chunk-none c.args.msb _ c.in-None.ensures.steps.1.0 i.size in
    let all = ap (λ (ws : List ℕ). length (pack_from g.W.Words.FULL g.W.Words.kept c.loop-bytes.quiet ws)) e in
    omega (arith, c.runs-2.ensures.value, all)
