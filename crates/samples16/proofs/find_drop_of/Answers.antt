-- `samples16::find_drop_of` meets its contract. Assumes nothing.
use Rattle.std.proofs.Common.{◌≡◌, ◌*◌, ◌∙◌, ℕ, sym, ap, arith}
use Rattle.samples.specs.Words.{sample_of}
use Rattle.samples.specs.Judging.{first_drop}
use Rattle.samples.proofs.Chunks.{samples_on, samples_none, fall_here, fall_next}
use Rattle.samples16.specs.inner.Sizes.{plain_of}
use Rattle.samples16.proofs.Laws.{sized_chunks, sized_number}
use Rattle.samples16.proofs.find_drop_of.Goals as goal

pub returns-then-drop-clause-value : goal.returns-then-drop-clause-value
returns-then-drop-clause-value g c =
    let a = c.args in
    let l = c.loop-i in
    let n = g.row.N in
    let samples = c.as_chunks.result.0.now in
    let number = sized_number n c.requires a.msb samples l.i _ _ c.loop-i-test.true c.index-samples-i.is (c.from-number.ensures ∙ c.read2.ensures) in
    let here = fall_here (sample_of (plain_of n) a.msb) samples l.i c.loop-i-test.true _ number l.least c.if-drop.true in
    let all = ap (first_drop 0) (sized_chunks n c.requires a.msb a.part.now samples c.as_chunks.ensures.front) in
    let at : l.i ≡ first_drop 0 (samples_on (sample_of (plain_of n) a.msb) samples 0) = omega (arith, l.invariant, here) in
    ap (λ (i : ℕ). n * i) (at ∙ all)

pub loop-i-preserved : goal.loop-i-preserved
loop-i-preserved g c =
    let a = c.args in
    let l = c.loop-i in
    let n = g.row.N in
    let samples = c.as_chunks.result.0.now in
    let number = sized_number n c.requires a.msb samples l.i _ _ c.loop-i-test.true c.index-samples-i.is (c.from-number.ensures ∙ c.read2.ensures) in
    let next = fall_next (sample_of (plain_of n) a.msb) samples l.i c.loop-i-test.true _ number l.least c.if-drop.false in
    omega (arith, l.invariant, next)

pub returns-clause-value : goal.returns-clause-value
unfolding first_drop
returns-clause-value g c =
    let a = c.args in
    let l = c.loop-i in
    let n = g.row.N in
    let samples = c.as_chunks.result.0.now in
    let none = ap (first_drop l.least) (samples_none (sample_of (plain_of n) a.msb) samples l.i c.loop-i-test.false) in
    let all = ap (first_drop 0) (sized_chunks n c.requires a.msb a.part.now samples c.as_chunks.ensures.front) in
    let at : l.i ≡ first_drop 0 (samples_on (sample_of (plain_of n) a.msb) samples 0) = omega (arith, l.invariant, none) in
    let end : l.i ≡ _ = omega (arith, c.loop-i-test.false, l.auto.i-end) in
    ap (λ (i : ℕ). n * i) (sym end ∙ at ∙ all)
