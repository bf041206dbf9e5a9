-- The tests are the definition's, of the count's pattern.
use Rattle.std.proofs.Common.{◌≡◌, ◌∙◌, sym, ap, rules}
use Rattle.order.specs.Order.{pattern_of}
use Rattle.layout.specs.Families.{encoded}
use Rattle.samples.specs.Values.{count_of, wordless}
use Rattle.spelling16.proofs.Laws.{codeless_long, codeless_short}
use Rattle.spelling16.proofs.write.is_codeless.Goals as goal

pub returns-then-code-gt-MOST_WORD : goal.returns-then-code-gt-MOST_WORD
returns-then-code-gt-MOST_WORD c =
    let said : c.pattern4-value.result ≡ pattern_of 4 c.args.count = search rules in
    sym (ap (wordless encoded) (sym said)
    ∙ codeless_long c.pattern4-value.result c.code_of-code.result c.code_of-code.ensures c.if-code-gt-MOST_WORD.true)

pub returns : goal.returns
returns c =
    let said : c.pattern4-value.result ≡ pattern_of 4 c.args.count = search rules in
    let back : c.pattern4.result ≡ pattern_of 4 (count_of c.code_of-code.result) = search rules in
    codeless_short c.pattern4-value.result c.code_of-code.result _ _ _ c.code_of-code.ensures c.if-code-gt-MOST_WORD.false c.is_run.ensures
    c.is_bad.ensures back
    ∙ ap (wordless encoded) said
