-- A number and its value are the first sample that is left.
use Rattle.std.proofs.Common.{◌≡◌, ◌∙◌, refl, sym, ap, ℕ, pos, ◌+◌, ◌∷◌, List, drop, get_or, rules, arith}
use Rattle.std.proofs.lemmas.List.Edits.{sets}
use Rattle.order.specs.Order.{pattern_of}
use Rattle.layout.specs.Families.{narrow}
use Rattle.samples.specs.Words.{Sample, unsampled}
use Rattle.samples.specs.Lists.{paired}
use Rattle.samples.proofs.Apart.{paired-next, paired-end}
use Rattle.samples.proofs.Writing.{sample_stored}
use Rattle.spelling16.proofs.plain.write_pairs.Goals as goal

pub loop-i-preserved : goal.loop-i-preserved
loop-i-preserved c =
    let l = c.loop-i in
    let ns = c.args.numbers.now in
    let vs = c.args.values.now in
    let n = get_or ns l.i 0 in
    let value : c.pattern2.result ≡ pattern_of 2 (get_or vs l.i (pos 0)) = search rules in
    let rest = paired 2 (drop (l.i + 1) ns) (drop (l.i + 1) vs) in
    record {
      long = omega arith;
      place = omega arith;
      rest =
          sample_stored narrow refl c.args.msb l.out _ _ l.to n c.pattern2.result (omega arith) c.store2.ensures
          c.store2-in-loop-i.ensures rest
          ∙ ap (λ (v : ℕ). sets l.out l.to (unsampled narrow c.args.msb ((n, v) ∷ rest))) value
          ∙ ap (λ (s : List Sample). sets l.out l.to (unsampled narrow c.args.msb s))
          (sym (paired-next 2 ns vs l.i (omega arith) (omega arith)))
          ∙ l.invariant.rest;
    }

pub returns : goal.returns
unfolding unsampled
returns c =
    let l = c.loop-i in
    ap (λ (s : List Sample). sets l.out l.to (unsampled narrow c.args.msb s))
    (sym (paired-end 2 c.args.numbers.now c.args.values.now l.i c.loop-i-test.false))
    ∙ l.invariant.rest
