-- `archive::of_files::hac_ask` meets its contract, which settles what it says: the channel's four fields and the sounder's two behind the
-- answer's numbers. Assumes nothing.
use Rattle.std.proofs.Common.{◌≡◌, ap, ◌∙◌, ℕ, List, arith}
use Rattle.intake.specs.Views.{as_asked}
use Rattle.intake.specs.Asking.{asked_numbers, asked_fields, AskedFor, asked-settled}
use Rattle.archive.specs.Saying.{SaidAlone, alone-settled}
use Rattle.archive.specs.Numbers.{told}
use Rattle.archive.proofs.Saying.{alone-untold, alone-told}
use Rattle.archive.proofs.of_files.hac_ask.Goals as goal

pub returns-then-answer-lt-ASK : goal.returns-then-answer-lt-ASK
returns-then-answer-lt-ASK c =
    let a = c.args in
    alone-untold 6 (told asked_numbers asked_fields) (AskedFor a.file.now a.place) a.answer.now c.if-answer-lt-ASK.true

pub returns-in-Ok : goal.returns-in-Ok
returns-in-Ok c =
    let a = c.args in
    alone-told 6 (told asked_numbers asked_fields) (AskedFor a.file.now a.place) a.answer.now (as_asked c.ask.result) _ _ _
    c.if-answer-lt-ASK.false (omega arith) c.ask.ensures (ap (told asked_numbers asked_fields) (ap as_asked c.in-Ok.is))
    c.tell_found.ensures.value c.tell_found.ensures.answer_after

pub returns-in-Err : goal.returns-in-Err
returns-in-Err c =
    let a = c.args in
    alone-told 6 (told asked_numbers asked_fields) (AskedFor a.file.now a.place) a.answer.now (as_asked c.ask.result) _ _ _
    c.if-answer-lt-ASK.false (omega arith) c.ask.ensures (ap (told asked_numbers asked_fields) (ap as_asked c.in-Err.is))
    c.tell_refusal.ensures.value c.tell_refusal.ensures.answer_after

pub hac-ask-settled : (f : List ℕ) (p : ℕ) (lent : List ℕ) {c d : ℕ} {left right : List ℕ}
    → SaidAlone 6 (told asked_numbers asked_fields) (AskedFor f p) lent c left
    → SaidAlone 6 (told asked_numbers asked_fields) (AskedFor f p) lent d right
    → (c ≡ d) × (left ≡ right)
hac-ask-settled f p lent = alone-settled 6 (told asked_numbers asked_fields) (AskedFor f p) lent (λ a b x y. asked-settled f p x y)
