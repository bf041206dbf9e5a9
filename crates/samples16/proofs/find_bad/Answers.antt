-- `samples16::find_bad` meets its contract. Assumes nothing.
use Rattle.std.proofs.Common.{◌≡◌, ◌∙◌, sym, ap, true, false, drop, get_or, [], arith}
use Rattle.std.proofs.lemmas.Grind.{common_steps}
use Rattle.order.specs.Order.{num_of}
use Rattle.layout.specs.Families.{is_bad}
use Rattle.samples.specs.inner.Narrow.{words_by}
use Rattle.samples.proofs.Chunks.{good_ones, bad_chunked}
use Rattle.samples16.proofs.Laws.{outside}
use Rattle.samples16.proofs.find_bad.Goals as goal

pub returns-then-bad-clause-value : goal.returns-then-bad-clause-value
returns-then-bad-clause-value c =
    let a = c.args in
    let f = words_by a.encoded in
    let words = c.as_chunks.result.0.now in
    let bad : is_bad f (num_of a.msb (get_or words c.loop-i.i [])) ≡ true =
    ap (is_bad f) (sym c.word_in.ensures) ∙ sym (outside a.encoded _ _ _ c.is_bad-bad.ensures c.most_bad-most.ensures) ∙ c.if-bad.true in
    let here : good_ones f a.msb (drop c.loop-i.i words) ≡ 0 = grind (arith, common_steps) in
    omega (arith, here, bad_chunked f a.msb 2 a.part.now, ap (good_ones f a.msb) c.as_chunks.ensures.front)

pub loop-i-preserved : goal.loop-i-preserved
loop-i-preserved c =
    let a = c.args in
    let f = words_by a.encoded in
    let words = c.as_chunks.result.0.now in
    let good : is_bad f (num_of a.msb (get_or words c.loop-i.i [])) ≡ false =
    ap (is_bad f) (sym c.word_in.ensures) ∙ sym (outside a.encoded _ _ _ c.is_bad-bad.ensures c.most_bad-most.ensures) ∙ c.if-bad.false in
    grind (arith, common_steps)

pub returns-clause-value : goal.returns-clause-value
returns-clause-value c =
    let a = c.args in
    let f = words_by a.encoded in
    let none : good_ones f a.msb (drop c.loop-i.i c.as_chunks.result.0.now) ≡ 0 = grind (arith, common_steps) in
    omega (arith, none, bad_chunked f a.msb 2 a.part.now, ap (good_ones f a.msb) c.as_chunks.ensures.front)
