-- `pings::length_of16` meets its contract: the samples counted where the last word is a run, and none where it is a value. Assumes
-- nothing.
use mathlib.Core.Path.{sym, ◌∙◌}
use borrow.Author.Rules.{rules}
use Rattle.pings.proofs.Parts.{told-run, told-value}
use Rattle.pings.proofs.length_of16.Statement.{statement}
use Rattle.pings.proofs.length_of16.Tie as tie

returns : tie.Need-returns-then-ends_in_run
returns c =
    let ends = c.before.before in
    told-run 256 ends.words_end-end.ensures.0 c.count_samples.ensures
    (sym ends.ends_in_run.ensures ∙ c.if-ends_in_run.true)

returns-2 : tie.Need-returns
returns-2 c =
    let ends = c.before in
    told-value 256 ends.words_end-end.ensures.0 (sym ends.ends_in_run.ensures ∙ c.if-ends_in_run.false)

pub length_of16_spec : {M : Type 1} → statement M
length_of16_spec =
    tie.close
    (tie.spec
    (λ c κs. search rules)
    (λ c. search rules)
    (λ c. search rules)
    (λ c. search rules)
    (λ c κs. search rules)
    (λ c κs. search rules)
    returns
    returns-2)
