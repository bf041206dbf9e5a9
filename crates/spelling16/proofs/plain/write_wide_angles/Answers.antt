-- A number and its angles are the first sample that is left.
use Rattle.std.proofs.Common.{◌≡◌, ◌∙◌, refl, sym, ap, ap₂, ℕ, pos, ◌+◌, ◌*◌, ◌∷◌, List, drop, get_or, rules, arith}
use Rattle.std.proofs.lemmas.List.Edits.{sets}
use Rattle.order.specs.Order.{pattern_of}
use Rattle.layout.specs.Families.{wide_angles}
use Rattle.samples.specs.Words.{Sample, unsampled}
use Rattle.samples.specs.Lists.{angled}
use Rattle.spelling16.proofs.Laws.{angled-next, angled-end, angles-stored}
use Rattle.spelling16.proofs.plain.write_wide_angles.Goals as goal

pub loop-i-preserved : goal.loop-i-preserved
loop-i-preserved c =
    let l = c.loop-i in
    let ns = c.args.numbers.now in
    let xs = c.args.alongship.now in
    let ys = c.args.athwartship.now in
    let along : c.pattern2.result ≡ pattern_of 2 (get_or xs l.i (pos 0)) = search rules in
    let athwart : c.pattern2-in-loop-i.result ≡ pattern_of 2 (get_or ys l.i (pos 0)) = search rules in
    let n = get_or ns l.i 0 in
    let rest = angled (drop (l.i + 1) ns) (drop (l.i + 1) xs) (drop (l.i + 1) ys) in
    record {
      long = omega arith;
      place = omega arith;
      rest =
          angles-stored wide_angles refl c.args.msb l.out _ _ _ l.to _ _ n c.pattern2.result c.pattern2-in-loop-i.result (omega arith)
          (omega arith)
          (omega arith) (omega arith) c.store4.ensures c.store2.ensures c.store2-in-loop-i.ensures rest
          ∙ ap₂ (λ (a b : ℕ). sets l.out l.to (unsampled wide_angles c.args.msb ((n, a + 65536 * b) ∷ rest))) along athwart
          ∙ ap (λ (s : List Sample). sets l.out l.to (unsampled wide_angles c.args.msb s))
          (sym (angled-next ns xs ys l.i (omega arith) (omega arith) (omega arith)))
          ∙ l.invariant.rest;
    }

pub returns : goal.returns
unfolding unsampled
returns c =
    let l = c.loop-i in
    ap (λ (s : List Sample). sets l.out l.to (unsampled wide_angles c.args.msb s))
    (sym (angled-end c.args.numbers.now c.args.alongship.now c.args.athwartship.now l.i c.loop-i-test.false))
    ∙ l.invariant.rest
