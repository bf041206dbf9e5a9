-- `samples16::count_samples` meets its contract. Assumes nothing.
use Rattle.std.proofs.Common.{◌≡◌, ◌<◌, sym, ◌∙◌, ap, lit<, arith}
use Rattle.std.proofs.lemmas.Grind.{common_steps}
use Rattle.samples.proofs.Chunks.{samples_each, samples_chunked, samples_most}
use Rattle.samples16.proofs.count_samples.Goals as goal

pub sum-requires-clause-fits : goal.sum-requires-clause-fits
sum-requires-clause-fits c =
    let few : samples_each 256 c.args.msb c.as_chunks.result.0.now < 4294967296 =
    omega (arith, samples_most 256 (lit< tt) c.args.msb c.as_chunks.result.0.now) in
    grind (arith, common_steps)

pub returns : goal.returns
returns c =
    let all : c.sum.result ≡ samples_each 256 c.args.msb c.as_chunks.result.0.now = grind (arith, common_steps) in
    all ∙ ap (samples_each 256 c.args.msb) c.as_chunks.ensures.front ∙ sym (samples_chunked 256 c.args.msb 2 c.args.part.now)
