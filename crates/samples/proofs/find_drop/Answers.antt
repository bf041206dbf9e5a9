-- `samples::find_drop` meets its contract. Assumes nothing.
use Rattle.std.proofs.Common.{◌∙◌, ap, arith}
use Rattle.layout.specs.Families.{wide}
use Rattle.samples.specs.Judging.{first_drop}
use Rattle.samples.specs.Words.{sample_of}
use Rattle.samples.proofs.Chunks.{samples_none, samples_first, fall_here, fall_next}
use Rattle.samples.proofs.find_drop.Goals as goal

pub returns-then-drop-clause-value : goal.returns-then-drop-clause-value
returns-then-drop-clause-value c =
    let a = c.args in
    let l = c.loop-i in
    let pairs = c.as_chunks.result.0.now in
    let number = c.from-number.ensures ∙ c.number_in.ensures in
    let here = fall_here (sample_of wide a.msb) pairs l.i c.loop-i-test.true _ number l.least c.if-drop.true in
    omega (arith, l.invariant, here, ap (first_drop 0) (samples_first wide a.msb a.part.now pairs c.as_chunks.ensures.front))

pub loop-i-preserved : goal.loop-i-preserved
loop-i-preserved c =
    let l = c.loop-i in
    let number = c.from-number.ensures ∙ c.number_in.ensures in
    let next = fall_next (sample_of wide c.args.msb) c.as_chunks.result.0.now l.i c.loop-i-test.true _ number l.least c.if-drop.false in
    omega (arith, l.invariant, next)

pub returns-clause-value : goal.returns-clause-value
unfolding first_drop
returns-clause-value c =
    let a = c.args in
    let l = c.loop-i in
    let pairs = c.as_chunks.result.0.now in
    let none = ap (first_drop l.least) (samples_none (sample_of wide a.msb) pairs l.i c.loop-i-test.false) in
    omega (arith, l.invariant, none, ap (first_drop 0) (samples_first wide a.msb a.part.now pairs c.as_chunks.ensures.front))
