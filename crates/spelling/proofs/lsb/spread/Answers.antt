-- Before the samples' end a word is left, and it is the first of those left.
use Rattle.std.proofs.Common.{ap, ◌<◌, arith}
use Rattle.samples.specs.Runs.{decode_from}
use Rattle.samples.proofs.Turning.{passes-few, spreading_as, spreading_end}
use Rattle.spelling.proofs.Left.{chunk-words, chunk-long}
use Rattle.spelling.proofs.Turns.{spread-turn, spread-more}
use Rattle.spelling.proofs.lsb.spread.Goals as goal

pub split_at-requires : goal.split_at-requires
split_at-requires g c =
    let i = c.loop-at.invariant in
    let k = g.W.Words.WORD in
    rw c.WORD.ensures
    (spread-more _ _ k c.args.msb c.loop-at.left.now (omega (arith, g.met.W.Words.widths)) c.loop-at-test.true i.rest)

pub loop-at-preserved : goal.loop-at-preserved
loop-at-preserved g c =
    let s = c.split_at.ensures in
    let i = c.loop-at.invariant in
    let R = g.W.Words.FULL in
    let f = g.met.W.Words.sample in
    let some : 0 < R = omega (arith, g.met.W.Words.radix) in
    let step = chunk-words c.args.msb _ _ g.met.W.Words.widths.0 s.by_index.0 s.front_len c.WORD.ensures c.read-word.ensures.value in
    let long = chunk-long _ _ s.by_index.0 s.front_len c.WORD.ensures in
    record {
      few = rw c.FULL.ensures (omega (arith, passes-few R some c.is_run-run.result c.read-word.result, g.met.W.Words.radix, long));
      rest =
          spread-turn g.W.Words.family f.0 f.1 f.2 c.loop-at.number c.read-word.result _ some c.FULL.ensures c.WORD-in-loop-at.ensures
          c.put_pair.ensures c.put_pair.auto.out c.is_run-run.ensures c.loop-at-test.true
          (spreading_as (ap (decode_from R c.loop-at.number) step) i.rest);
    }

pub returns : goal.returns
returns g c = spreading_end c.loop-at-test.false c.loop-at.invariant.rest
