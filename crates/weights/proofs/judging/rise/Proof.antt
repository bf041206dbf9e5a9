-- `weights::judging::rise` meets its contract: numbers rise where nothing weighs. Assumes nothing.
use mathlib.Core.Path.{◌≡◌, refl, sym, ap, ◌∙◌}
use mathlib.Core.Bool.{Bool, true, false, ◌&&◌}
use Prim.Native.Nat.{ℕ, ◌-◌, ◌/◌, ◌≤◌}
use borrow.Author.Rules.{rules}
use borrow.Author.Tests.{le-leb, lt-leb}
use lib.Dec.{eqb, leb}
use lib.ListN.{length, take, drop}
use Rattle.samples.specs.Judging.{most, judged_samples}
use Rattle.weights.specs.inner.Weights.{There, weight_at}
use Rattle.layout.specs.Answers.{is_fine}
use Rattle.weights.specs.inner.Judging.{family_by}
use Rattle.weights.proofs.Judged.{rise_is, rise_there}
use Rattle.weights.proofs.Filling.{some-step}
use Rattle.weights.proofs.judging.rise.Statement.{statement}
use Rattle.weights.proofs.judging.rise.Tie as tie

-- what is to be shown, by two tests
said : (c : tie.After-step_of) (few none : Bool) →
    let a = c.args in
    let n = a.size / c.step_of.result in
    few ≡ leb n most → none ≡ eqb (weight_at a.kind a.msb a.file.now a.from (n - 1)) 0
    → (few && none) ≡ is_fine (judged_samples (family_by a.kind) a.msb (take a.size (drop a.from a.file.now)))
said c few none f h =
    let s = c.before.before.before in
    let a = s.args in
    (λ i. f i && h i)
    ∙ sym (rise_is a.kind a.msb a.file.now a.from a.size c.step_of.result _ c.step_of.ensures refl s.requires.1.0)

-- one sample at least is there
some : (c : tie.After-step_of) →
    let a = c.args in
    let n = a.size / c.step_of.result in
    (1 ≤ n) × There a.kind a.from (n - 1) (length a.file.now)
some c =
    let s = c.before.before.before in
    let a = s.args in
    rise_there a.kind a.from a.size c.step_of.result _ (length a.file.now) c.step_of.ensures refl s.requires.1.0

returns : tie.Need-returns-then-n-gt-MOST
returns c = said c.before false _ (sym (lt-leb _ most c.if-n-gt-MOST.true)) refl

returns-2 : tie.Need-returns
returns-2 c =
    let b = c.before in
    said b.before true _ (sym (le-leb _ most b.if-n-gt-MOST.false)) (ap (λ (n : ℕ). eqb n 0) c.between.ensures)

pub rise_spec : {M : Type 1} → statement M
rise_spec =
    tie.close
    (tie.spec
    (λ c κs. search rules)
    (λ c. some-step c.args.kind _ c.step_of.ensures)
    returns
    (λ c. (some c.before).0)
    (λ c κs. let s = c.before.before.before.before in (s.requires.0, ((some c.before).1, s.requires.1.1)))
    returns-2)
