-- `archive::of_files::hac_forward` meets its contract, which settles what it says. Assumes nothing.
use mathlib.Core.Path.{◌≡◌, refl}
use mathlib.Core.List.{List}
use Prim.Native.Nat.{ℕ}
use borrow.Author.Rules.{rules}
use Rattle.frame.specs.Views.{as_step}
use Rattle.frame.specs.Steps.{step_numbers, step_fields, SteppedForward, forward-settled}
use Rattle.archive.specs.Saying.{SaidAlone, alone-settled}
use Rattle.archive.specs.Numbers.{told}
use Rattle.archive.proofs.Saying.{alone-untold, alone-told}
use Rattle.archive.proofs.Steps.{step-short}
use Rattle.archive.proofs.of_files.hac_forward.Statement.{statement}
use Rattle.archive.proofs.of_files.hac_forward.Tie as tie

returns : tie.Need-returns-then-answer-lt-STEP
returns c =
    let a = c.args in
    alone-untold 4 (told step_numbers step_fields) (SteppedForward a.file.now a.place) a.answer.now c.if-answer-lt-STEP.true

returns-2 : tie.Need-returns
returns-2 c =
    let t = c.before.before in
    let k = t.before in
    let e = k.before.before in
    let a = e.args in
    let s = (as_step k.forward.result) in
    alone-told 4 (told step_numbers step_fields) (SteppedForward a.file.now a.place) a.answer.now s (told step_numbers step_fields s)
    _ _
    e.if-answer-lt-STEP.false (step-short s) k.forward.ensures refl t.tell_step.ensures.0 t.tell_step.ensures.1

pub hac_forward_spec : {M : Type 1} → statement M
hac_forward_spec = tie.close (tie.spec
    returns
    (λ c κs. search rules)
    (λ c κs. search rules)
    (λ c. search rules)
    returns-2)

pub hac-forward-settled : (f : List ℕ) (p : ℕ) (lent : List ℕ) {c d : ℕ} {left right : List ℕ}
    → SaidAlone 4 (told step_numbers step_fields) (SteppedForward f p) lent c left
    → SaidAlone 4 (told step_numbers step_fields) (SteppedForward f p) lent d right
    → (c ≡ d) × (left ≡ right)
hac-forward-settled f p lent = alone-settled 4 (told step_numbers step_fields) (SteppedForward f p) lent (λ a b x y. forward-settled f p x y)
