-- A turn stores a run and the word itself; behind the last word the quiet samples are left.
use Rattle.std.proofs.Common.{◌∙◌, ap, ℕ, ◌<◌, ◌%◌, ◌+◌, List, false, arith}
use Rattle.std.proofs.lemmas.List.Edits.{sets}
use Rattle.std.proofs.Math.Nat.{mod-lt}
use Rattle.order.proofs.Stores.{stored-behind}
use Rattle.samples.specs.Words.{unwords}
use Rattle.samples.specs.Runs.{gap}
use Rattle.samples.proofs.Words.{length-unwords}
use Rattle.samples.specs.inner.Packing.{pack_from}
use Rattle.samples.proofs.Packed.{once, packing_as}
use Rattle.spelling.proofs.Left.{chunk-words, chunk-none}
use Rattle.spelling.proofs.Turns.{pack-turn}
use Rattle.spelling.proofs.packing.pack.Goals as goal

pub loop-bytes-preserved : goal.loop-bytes-preserved
loop-bytes-preserved g c =
    let s = c.in-Some.ensures.steps in
    let i = c.loop-bytes.invariant in
    let R = g.W.Words.FULL in
    let kept = g.W.Words.kept in
    let some : 0 < R = omega (arith, g.met.W.Words.radix) in
    let long = g.met.W.Words.longest in
    let step = chunk-words c.args.msb _ _ g.met.W.Words.widths.0 s.1.0 s.1.1 i.size c.read-word.ensures.value in
    record {
      size = s.0 ∙ i.size;
      short =
          rw c.FULL-in-loop-bytes.ensures
          (omega (
            arith,
            once c.is_run-run.result ((c.loop-bytes.quiet + c.run_length.result) % R),
            mod-lt
                (c.loop-bytes.quiet + c.run_length.result) some,
          ));
      rest =
          pack-turn kept _ c.SHORTEST_RUN.result c.FULL.result c.FULL-in-loop-bytes.result c.WORD-in-loop-bytes.result
          c.WORD-in-loop-bytes-2.result
          c.respell.result (omega (arith, g.met.W.Words.widths)) some i.short
          (omega (arith, long.0, c.SHORTEST_RUN.ensures)) (c.SHORTEST_RUN.ensures ∙ long.1) c.FULL.ensures c.FULL-in-loop-bytes.ensures
          c.WORD-in-loop-bytes.ensures c.WORD-in-loop-bytes-2.ensures c.respell.ensures c.is_run-run.ensures c.run_length.ensures.value
          c.ends_run-ends.ensures c.store.ensures c.store.auto.out c.store-in-loop-bytes.ensures c.store-in-loop-bytes.auto.out
          (packing_as (ap (pack_from R kept c.loop-bytes.quiet) step) i.rest);
    }

pub write_gap-requires : goal.write_gap-requires
unfolding pack_from
write_gap-requires g c =
    let i = c.loop-bytes.invariant in
    let e = chunk-none c.args.msb _ c.in-None.ensures.steps.1.0 i.size in
    let v = packing_as (ap (pack_from g.W.Words.FULL g.W.Words.kept c.loop-bytes.quiet) e) i.rest in
    omega (arith, v.ends, v.long, c.requires.part_in_bounds)

pub returns : goal.returns
unfolding pack_from
returns g c =
    let i = c.loop-bytes.invariant in
    let l = c.loop-bytes in
    let k = g.W.Words.WORD in
    let us = gap g.W.Words.FULL l.quiet in
    let e = chunk-none c.args.msb _ c.in-None.ensures.steps.1.0 i.size in
    let v = packing_as (ap (pack_from g.W.Words.FULL g.W.Words.kept l.quiet) e) i.rest in
    record {
      value = omega (arith, c.write_gap.ensures.value, v.ends);
      packed_at = λ t n.
          ap (λ (x : List ℕ). sets x c.write_gap.result t) c.write_gap.ensures.out_after
          ∙ stored-behind (unwords k false us) t l.out l.at c.write_gap.result
          (omega (arith, c.write_gap.ensures.value, length-unwords k false us))
          ∙ v.bytes t n;
    }
