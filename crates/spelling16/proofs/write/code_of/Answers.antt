-- By the count's sign.
use Rattle.std.proofs.Common.{◌≡◌, ◌∙◌, sym, ap, ℕ, ◌+◌, ◌-◌, arith}
use Rattle.samples.specs.Values.{shortened}
use Rattle.samples.proofs.Meaning.{code-short, code-long}
use Rattle.spelling16.proofs.write.code_of.Goals as goal

pub returns-then-value-lt-LEAST_NEGATIVE : goal.returns-then-value-lt-LEAST_NEGATIVE
returns-then-value-lt-LEAST_NEGATIVE c = c.shorten.ensures.value ∙ sym (code-short c.args.value c.if-value-lt-LEAST_NEGATIVE.true)

pub returns : goal.returns
returns c =
    let size : 4294967295 - c.args.value + 1 ≡ 4294967296 - c.args.value = omega (arith, c.ranges.value.fits) in
    ap (λ (n : ℕ). 32768 + n) (c.shorten-2.ensures.value ∙ ap (shortened 6) size) ∙ sym
    (code-long c.args.value c.if-value-lt-LEAST_NEGATIVE.false)
