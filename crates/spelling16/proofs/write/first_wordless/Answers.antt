-- The search finds the first value that has no word.
use Rattle.std.proofs.Common.{◌∙◌, sym, rules}
use Rattle.std.proofs.lemmas.Iterator.{YieldsList-from_slice, IsFirst-from_position}
use borrow.Author.Tests.{tests}
use Rattle.layout.specs.Families.{narrow}
use Rattle.spelling.proofs.Turns.{Wordless, HasWord, wordless-found}
use Rattle.spelling16.proofs.write.first_wordless.Goals as goal

pub returns : goal.returns
returns c =
    let found = IsFirst-from_position _ _ c.position.result (Wordless narrow 2) (HasWord narrow 2) c.position.ensures.ran
    (YieldsList-from_slice c.args.values.now cc) (λ x q k. search (rules, tests)) (λ x q k. search (rules, tests)) in
    c.unwrap_or.ensures ∙ sym (wordless-found narrow 2 c.args.values.now c.position.result found)
