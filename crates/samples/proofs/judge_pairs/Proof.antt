-- `samples::judge_pairs` meets its contract: at most 32,764 pairs fit, and the rule's test is what `drops` says. Assumes nothing.
use mathlib.Core.Path.{ap, ◌≡◌, sym, ap₂, ◌∙◌}
use mathlib.Core.Bool.{Bool, false}
use mathlib.Core.List.{List, [], ◌∷◌}
use Prim.Native.Nat.{ℕ, ◌+◌, ◌*◌, ◌≤◌}
use native.Mathlib.Omega.{arith}
use borrow.Author.Rules.{rules}
use borrow.Author.Tests.{le-ltb}
use lib.Dec.{ltb}
use lib.ListN.{length}
use Rattle.layout.specs.Views.{as_verdict}
use Rattle.rules.specs.Rules.{◌⇒◌}
use Rattle.layout.specs.Verdict.{Verdict}
use Rattle.layout.specs.Answers.{judged, ◌byte◌}
use Rattle.layout.specs.Families.{wide}
use Rattle.samples.specs.Words.{all_samples}
use Rattle.samples.specs.Judging.{most, first_drop, first_sample, judged_samples}
use Rattle.samples.proofs.Words.{samples-many}
use Rattle.samples.proofs.judge_pairs.Statement.{statement}
use Rattle.samples.proofs.judge_pairs.Tie as tie

-- what the rules say, by their tests and the place in the samples
abbrev said : Bool → Bool → ℕ → Verdict
said full t p = judged ((full ⇒ 11 byte 0) ∷ (t ⇒ 23 byte (first_sample + p)) ∷ [])

-- so long a part holds at most 32,764
few : (o : Bool) (part : List ℕ) → length part ≤ 262112 → false ≡ ltb most (length (all_samples wide o part))
few o part h = sym (le-ltb most (length (all_samples wide o part)) (omega (arith, samples-many wide o part)))

-- the place is in the part, or just behind it
add-fault-at : tie.Need-overflow_add-find_drop
add-fault-at c = omega (arith, c.find_drop.ensures.1, c.requires)

returns : tie.Need-returns-then-drops
unfolding judged_samples
returns c =
    let find = c.before in
    let drops = find.before.before in
    let start = drops.before.before in
    ap as_verdict c.fault_at.ensures
    ∙ (λ i. said (few start.args.msb start.args.part.now start.requires i)
    ((sym find.if-drops.true ∙ drops.drops.ensures) i) (find.find_drop.ensures.0 i))

returns-2 : tie.Need-returns
unfolding judged_samples
returns-2 c =
    let start = c.before.before.before in
    let a = start.args in
    ap₂ (λ (full t : Bool). said full t (8 * first_drop 0 (all_samples wide a.msb a.part.now)))
    (few a.msb a.part.now start.requires) (sym c.if-drops.false ∙ c.drops.ensures)

pub judge_pairs_spec : {M : Type 1} → statement M
judge_pairs_spec =
    tie.close
    (tie.spec
    (λ c κs. search rules)
    (λ c κs. search rules)
    add-fault-at
    (λ c κs. search rules)
    returns
    returns-2)
