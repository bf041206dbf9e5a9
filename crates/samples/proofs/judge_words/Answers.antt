-- `samples::judge_words` meets its contract: the rules, one by one. Assumes nothing.
use mathlib.Core.Path.{ap}
use Rattle.layout.specs.Views.{as_verdict}
use Rattle.std.proofs.Common.{◌≡◌, ◌+◌, ◌*◌, ◌∙◌, ap, not, Bool, List, [], ◌∷◌, ℕ, ltb, eqb}
use borrow.Author.Tests.{lt-ltb, le-ltb, eq-eqb, ne_eqb}
use Rattle.rules.specs.Rules.{◌⇒◌}
use Rattle.layout.specs.Verdict.{Verdict}
use Rattle.layout.specs.Verdict.{Fault}
use Rattle.layout.specs.Answers.{judged, ◌byte◌}
use Rattle.layout.specs.Families.{wide}
use Rattle.samples.specs.Words.{all_words}
use Rattle.samples.specs.Runs.{radix, values, first_bad}
use Rattle.samples.specs.Values.{has_space, held_words}
use Rattle.samples.specs.Judging.{most, count_at, words_at, judged_words, any_bad}
use Rattle.samples.proofs.judge_words.Goals as goal

-- by the number and the mark that were seen
abbrev ruled : Bool → Bool → ℕ → Bool → Verdict
ruled full bad p other = judged ((full ⇒ 11 byte 0) ∷ (bad ⇒ 24 byte (words_at + p)) ∷ (other ⇒ 25 byte count_at) ∷ [])

said : (o : Bool) (count : ℕ) (part : List ℕ) (n : ℕ) (b : Bool) → n ≡ values radix (all_words 4 o part) → b ≡ any_bad wide (all_words 4 o part)
    → ruled (ltb most n) b (4 * first_bad wide (all_words 4 o part)) (not (eqb count n)) ≡ judged_words wide o count part
unfolding judged_words held_words has_space
said o count part n b e g = rw (e, g)

pub returns-then-values-gt-MOST : goal.returns-then-values-gt-MOST
returns-then-values-gt-MOST c =
    let seen = c.look-seen in
    let all = said _ c.args.count _ _ _ seen.ensures.values_value seen.ensures.bad_value in
    ap as_verdict c.fault.ensures ∙ rw (lt-ltb _ _ c.if-values-gt-MOST.true) at all

pub returns-then-bad : goal.returns-then-bad
returns-then-bad c =
    let seen = c.look-seen in
    let all = said _ c.args.count _ _ _ seen.ensures.values_value seen.ensures.bad_value in
    ap as_verdict c.fault_at.ensures
    ∙ ap (λ (p : ℕ). Fault 24 (words_at + p)) c.find_bad.ensures.value
    ∙ rw (le-ltb _ _ c.if-values-gt-MOST.false, c.if-bad.true) at all

pub returns-then-count-values : goal.returns-then-count-values
returns-then-count-values c =
    let seen = c.look-seen in
    let all = said _ c.args.count _ _ _ seen.ensures.values_value seen.ensures.bad_value in
    ap as_verdict c.fault_at-then-count-values.ensures
    ∙ rw (le-ltb _ _ c.if-values-gt-MOST.false, c.if-bad.false, ne_eqb _ _ c.if-count-values.true) at all

pub returns : goal.returns
returns c =
    let seen = c.look-seen in
    let all = said _ c.args.count _ _ _ seen.ensures.values_value seen.ensures.bad_value in
    rw (le-ltb _ _ c.if-values-gt-MOST.false, c.if-bad.false, eq-eqb _ _ c.if-count-values.false) at all
