-- The last number is the one before the end.
use Rattle.std.proofs.Common.{◌≡◌, ◌∙◌, ap, sym, ◌+◌, ◌-◌, ◌<◌, ℕ, get_or, length, rules, arith}
use Rattle.std.proofs.lemmas.Grind.{common_steps}
use Rattle.samples.proofs.Lengths.{behind-none, behind-last}
use Rattle.spelling.proofs.write.behind.Goals as goal

pub returns-in-Some-clause-value : goal.returns-in-Some-clause-value
returns-in-Some-clause-value c =
    let ns = c.args.numbers.now in
    let e : c.in-Some.number.now ≡ get_or ns (length ns - 1) 0 = search rules in
    let some : 0 < length ns = grind (arith, common_steps) in
    ap (λ (i : ℕ). i + 1) e ∙ sym (behind-last ns 0 (omega arith))

pub returns-in-None-clause-value : goal.returns-in-None-clause-value
returns-in-None-clause-value c =
    let e : length c.args.numbers.now ≡ 0 = search rules in
    sym (behind-none c.args.numbers.now e)
