-- `samples16::judge_samples` meets its contract: as many samples as fit are judged, and the rules' tests are those of the code. Assumes
-- nothing.
use mathlib.Core.Path.{◌≡◌, refl, sym, ap, ◌∙◌}
use mathlib.Core.Bool.{Bool, true, false}
use mathlib.Core.List.{[], ◌∷◌}
use Prim.Native.Nat.{ℕ, ◌+◌, ◌*◌, ◌/◌}
use native.Mathlib.Omega.{arith}
use borrow.Author.Rules.{rules}
use borrow.Author.Tests.{lt-ltb, le-ltb}
use lib.Dec.{ltb}
use lib.ListN.{length}
use Rattle.layout.specs.Views.{as_verdict}
use Rattle.rules.specs.Rules.{◌⇒◌}
use Rattle.layout.specs.Verdict.{Verdict}
use Rattle.layout.specs.Answers.{judged, ◌byte◌}
use Rattle.layout.specs.Families.{sample_bytes}
use Rattle.samples.specs.Words.{all_samples}
use Rattle.samples.specs.inner.Narrow.{plain_by}
use Rattle.samples.specs.Judging.{most, first_drop, dropping, first_sample, judged_samples}
use Rattle.samples.proofs.Words.{samples-many}
use Rattle.samples16.proofs.judge_samples.Statement.{statement}
use Rattle.samples16.proofs.judge_samples.Tie as tie

-- what the rules say, by their tests and the place in the samples
abbrev said : Bool → Bool → ℕ → Verdict
said full t p = judged ((full ⇒ 11 byte 0) ∷ (t ⇒ 23 byte (first_sample + p)) ∷ [])

-- the code counts as many samples as there are
many : (c : tie.After-sample_bytes) →
    let a = c.args in
    length a.part.now / c.sample_bytes.result ≡ length (all_samples (plain_by a.angles) a.msb a.part.now)
many c =
    let a = c.args in
    ap (λ (n : ℕ). length a.part.now / n) c.sample_bytes.ensures.0
    ∙ sym (samples-many (plain_by a.angles) a.msb a.part.now)

-- what they say of these samples
all_said : (c : tie.After-sample_bytes) (full t : Bool) (p : ℕ) →
    let a = c.args in
    let f = plain_by a.angles in
    let s = all_samples f a.msb a.part.now in
    full ≡ ltb most (length a.part.now / c.sample_bytes.result) → t ≡ dropping s → p ≡ sample_bytes f * first_drop 0 s
    → said full t p ≡ judged_samples f a.msb a.part.now
unfolding judged_samples
all_said c full t p l d e = λ i. said ((l ∙ ap (ltb most) (many c)) i) (d i) (e i)

returns : tie.Need-returns-then-part-sample_bytes-gt-MOST
returns c =
    let rule = c.before in
    ap as_verdict c.fault.ensures ∙ all_said rule.before true _ _ (sym (lt-ltb most _ rule.if-part-sample_bytes-gt-MOST.true)) refl refl

-- the place is in the part, or just behind it
add-fault-at : tie.Need-overflow_add-find_drop
add-fault-at c = omega (arith, c.find_drop.ensures.1, c.requires)

returns-2 : tie.Need-returns-then-drops
returns-2 c =
    let find = c.before in
    let drops = find.before.before in
    let few = drops.before in
    ap as_verdict c.fault_at.ensures
    ∙ all_said few.before false true _ (sym (le-ltb most _ few.if-part-sample_bytes-gt-MOST.false)) (sym find.if-drops.true ∙ drops.drops.ensures)
    find.find_drop.ensures.0

returns-3 : tie.Need-returns
returns-3 c =
    let few = c.before.before in
    all_said few.before false false _ (sym (le-ltb most _ few.if-part-sample_bytes-gt-MOST.false)) (sym c.if-drops.false ∙ c.drops.ensures) refl

pub judge_samples_spec : {M : Type 1} → statement M
judge_samples_spec =
    tie.close
    (tie.spec
    (λ c κs. search rules)
    (λ c. search rules)
    (λ c κs. search rules)
    returns
    (λ c κs. search rules)
    (λ c κs. search rules)
    add-fault-at
    (λ c κs. search rules)
    returns-2
    returns-3)
