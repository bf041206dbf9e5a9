-- `pings::length_of` meets its contract: the samples counted where the last word is a run, and none where it is a value. Assumes
-- nothing.
use mathlib.Core.Path.{sym, ◌∙◌}
use borrow.Author.Rules.{rules}
use Rattle.samples.specs.Runs.{radix}
use Rattle.pings.proofs.Parts.{wide-words, told-run, told-value}
use Rattle.pings.proofs.length_of.Statement.{statement}
use Rattle.pings.proofs.length_of.Tie as tie

pub length_of_spec : {M : Type 1} → statement M
length_of_spec =
    tie.close
    (tie.spec
    (λ c. search rules)
    (λ c. search rules)
    (λ c. search rules)
    (λ c κs. search rules)
    (λ c κs. search rules)
    (λ c. let a = c.args in
    told-run radix (sym (wide-words a.msb a.part.now)) c.count_samples.ensures (sym c.ends_in_run.ensures ∙ search rules))
    (λ c. let a = c.args in
    told-value radix (sym (wide-words a.msb a.part.now)) (sym c.ends_in_run.ensures ∙ search rules)))
