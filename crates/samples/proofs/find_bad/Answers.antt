-- `samples::find_bad` meets its contract. Assumes nothing.
use Rattle.std.proofs.Common.{◌≡◌, ap, drop, arith}
use Rattle.std.proofs.lemmas.Grind.{common_steps}
use Rattle.layout.specs.Families.{wide}
use Rattle.samples.proofs.Chunks.{good_ones, bad_chunked}
use Rattle.samples.proofs.find_bad.Goals as goal

pub returns-then-bad-clause-value : goal.returns-then-bad-clause-value
returns-then-bad-clause-value c =
    let a = c.args in
    let here : good_ones wide a.msb (drop c.loop-i.i c.as_chunks.result.0.now) ≡ 0 = grind (arith, common_steps) in
    omega (arith, here, bad_chunked wide a.msb 4 a.part.now, ap (good_ones wide a.msb) c.as_chunks.ensures.front)

pub returns-clause-value : goal.returns-clause-value
returns-clause-value c =
    let a = c.args in
    let none : good_ones wide a.msb (drop c.loop-i.i c.as_chunks.result.0.now) ≡ 0 = grind (arith, common_steps) in
    omega (arith, none, bad_chunked wide a.msb 4 a.part.now, ap (good_ones wide a.msb) c.as_chunks.ensures.front)
