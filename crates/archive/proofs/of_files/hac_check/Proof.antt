-- `archive::of_files::hac_check` meets its contract, which settles what it says. Assumes nothing.
use mathlib.Core.Path.{◌≡◌}
use mathlib.Core.List.{List}
use Prim.Native.Nat.{ℕ}
use borrow.Author.Rules.{rules}
use Rattle.layout.specs.Views.{as_answer}
use Rattle.intake.specs.Check.{Checked, checked-settled}
use Rattle.archive.specs.Saying.{SaidAlone, alone-settled}
use Rattle.archive.specs.Numbers.{five}
use Rattle.archive.proofs.Saying.{alone-untold, alone-answer}
use Rattle.archive.proofs.of_files.hac_check.Statement.{statement}
use Rattle.archive.proofs.of_files.hac_check.Tie as tie

returns : tie.Need-returns-then-answer-lt-HEAD
returns c = let a = c.args in alone-untold 0 five (Checked a.file.now) a.answer.now c.if-answer-lt-HEAD.true

returns-2 : tie.Need-returns
returns-2 c =
    let t = c.before.before in
    let k = t.before in
    let e = k.before.before in
    let a = e.args in
    alone-answer (Checked a.file.now) a.answer.now (as_answer k.check.result) _ _ e.if-answer-lt-HEAD.false k.check.ensures
    t.tell_answer.ensures

pub hac_check_spec : {M : Type 1} → statement M
hac_check_spec = tie.close (tie.spec
    returns
    (λ c κs. search rules)
    (λ c κs. search rules)
    (λ c. search rules)
    returns-2)

pub hac-check-settled : (f lent : List ℕ) {c d : ℕ} {left right : List ℕ}
    → SaidAlone 0 five (Checked f) lent c left → SaidAlone 0 five (Checked f) lent d right → (c ≡ d) × (left ≡ right)
hac-check-settled f lent = alone-settled 0 five (Checked f) lent (λ a b p q. checked-settled f p q)
