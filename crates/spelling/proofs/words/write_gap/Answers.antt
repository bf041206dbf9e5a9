-- A full run is the first word that is left, and behind the loop the remainder's run is, if there is a remainder.
use Rattle.std.proofs.Common.{◌∙◌, ap, arith}
use Rattle.samples.specs.Runs.{gap}
use Rattle.samples.proofs.Writing.{gap-none}
use Rattle.spelling.proofs.Left.{unwritten_as, unwritten-room, unwritten_one, unwritten_end, run-full, run-last}
use Rattle.spelling.proofs.words.write_gap.Goals as goal

pub store-requires : goal.store-requires
store-requires g c =
    let s = c.SHORTEST_RUN.ensures ∙ g.met.W.Words.longest.1 in
    let e = run-full _ (omega (arith, g.met.W.Words.radix)) c.loop-left.left _ _ s c.FULL.ensures _ c.FULL-full.ensures
    c.loop-left-test.true in
    unwritten-room (unwritten_as e c.loop-left.invariant) c.requires

pub loop-left-preserved : goal.loop-left-preserved
loop-left-preserved g c =
    let s = c.SHORTEST_RUN.ensures ∙ g.met.W.Words.longest.1 in
    let e = run-full _ (omega (arith, g.met.W.Words.radix)) c.loop-left.left _ _ s c.FULL.ensures _ c.FULL-full.ensures
    c.loop-left-test.true in
    rw c.WORD-to.ensures (unwritten_one (unwritten_as e c.loop-left.invariant) c.store.auto.out c.store.ensures)

pub returns-then-left-eq0 : goal.returns-then-left-eq0
returns-then-left-eq0 g c =
    let R = g.W.Words.FULL in
    let e = ap (gap R) c.if-left-eq0.true ∙ gap-none R (omega (arith, g.met.W.Words.radix)) in
    let h = unwritten_end (unwritten_as e c.loop-left.invariant) in
    record { value = h.0; out_after = h.1 }

pub store-requires-2 : goal.store-requires-2
store-requires-2 g c =
    let s = c.SHORTEST_RUN-2.ensures ∙ g.met.W.Words.longest.1 in
    let e = run-last _ (omega (arith, g.met.W.Words.radix)) c.loop-left.left _ _ s c.FULL-full.ensures c.if-left-eq0.false
    c.loop-left-test.false in
    unwritten-room (unwritten_as e c.loop-left.invariant) c.requires

pub returns : goal.returns
returns g c =
    let s = c.SHORTEST_RUN-2.ensures ∙ g.met.W.Words.longest.1 in
    let e = run-last _ (omega (arith, g.met.W.Words.radix)) c.loop-left.left _ _ s c.FULL-full.ensures c.if-left-eq0.false
    c.loop-left-test.false in
    let h = unwritten_end (unwritten_one (unwritten_as e c.loop-left.invariant) c.store-2.auto.out c.store-2.ensures) in
    record { value = rw c.WORD.ensures h.0; out_after = h.1 }
