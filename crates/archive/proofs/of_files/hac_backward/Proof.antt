-- `archive::of_files::hac_backward` meets its contract, which settles what it says. Assumes nothing.
use mathlib.Core.Path.{◌≡◌, refl}
use mathlib.Core.List.{List}
use Prim.Native.Nat.{ℕ}
use borrow.Author.Rules.{rules}
use Rattle.frame.specs.Views.{as_step}
use Rattle.frame.specs.Steps.{step_numbers, step_fields, SteppedBackward, backward-settled}
use Rattle.archive.specs.Saying.{SaidAlone, alone-settled}
use Rattle.archive.specs.Numbers.{told}
use Rattle.archive.proofs.Saying.{alone-untold, alone-told}
use Rattle.archive.proofs.Steps.{step-short}
use Rattle.archive.proofs.of_files.hac_backward.Statement.{statement}
use Rattle.archive.proofs.of_files.hac_backward.Tie as tie

returns : tie.Need-returns-then-answer-lt-STEP
returns c =
    let a = c.args in
    alone-untold 4 (told step_numbers step_fields) (SteppedBackward a.file.now a.place) a.answer.now c.if-answer-lt-STEP.true

returns-2 : tie.Need-returns
returns-2 c =
    let t = c.before.before in
    let k = t.before in
    let e = k.before.before in
    let a = e.args in
    let s = (as_step k.backward.result) in
    alone-told 4 (told step_numbers step_fields) (SteppedBackward a.file.now a.place) a.answer.now s
    (told step_numbers step_fields s) _ _
    e.if-answer-lt-STEP.false (step-short s) k.backward.ensures refl t.tell_step.ensures.0 t.tell_step.ensures.1

pub hac_backward_spec : {M : Type 1} → statement M
hac_backward_spec = tie.close (tie.spec
    returns
    (λ c κs. search rules)
    (λ c κs. search rules)
    (λ c. search rules)
    returns-2)

pub hac-backward-settled : (f : List ℕ) (p : ℕ) (lent : List ℕ) {c d : ℕ} {left right : List ℕ}
    → SaidAlone 4 (told step_numbers step_fields) (SteppedBackward f p) lent c left
    → SaidAlone 4 (told step_numbers step_fields) (SteppedBackward f p) lent d right
    → (c ≡ d) × (left ≡ right)
hac-backward-settled f p lent =
    alone-settled 4 (told step_numbers step_fields) (SteppedBackward f p) lent (λ a b x y. backward-settled f p x y)
