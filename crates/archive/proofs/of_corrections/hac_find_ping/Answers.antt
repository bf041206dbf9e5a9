-- `archive::of_corrections::hac_find_ping` meets its contract, which settles what it says: the mark and the place of the ping behind the
-- answer's numbers, and with a refusal the mark. Assumes nothing.
use Rattle.std.proofs.Common.{◌≡◌, refl, sym, ap, ◌∙◌, ℕ, List, [], ◌∷◌, ◌++◌, arith, Result, Ok, Err}
use Rattle.layout.specs.Answer.{Refused}
use Rattle.layout.specs.declared.SoftwareChannel.{SoftwareChannel}
use Rattle.layout.specs.Code.{number}
use Rattle.layout.specs.Answers.{accepting}
use Rattle.corrections.specs.declared.Source.{Source}
use Rattle.corrections.specs.declared.Source.TheVariants.{Deposit, Corrections}
use Rattle.corrections.specs.declared.Span.{Span}
use Rattle.corrections.specs.declared.FileRefusal.{FileRefusal}
use Rattle.corrections.specs.Found.{Found}
use Rattle.corrections.specs.Views.{source_mark, whose_mark, held_as, as_found}
use Rattle.corrections.specs.Corrections.{found_numbers, found_fields, PingFound, found-settled}
use Rattle.archive.specs.Saying.{SaidAlone, alone-settled}
use Rattle.archive.specs.Numbers.{five, told}
use Rattle.archive.proofs.Saying.{alone-untold, alone-told}
use Rattle.archive.proofs.of_corrections.hac_find_ping.Goals as goal

abbrev telling : Found → List ℕ
telling = told found_numbers found_fields

-- what is told of a ping that a file holds
held-told : (s : Source) (p : Span) → telling (held_as s p) ≡ five (accepting 1 p.length) ++ (source_mark s ∷ p.from ∷ [])
held-told Deposit p = refl
held-told Corrections p = refl

pub returns-then-answer-lt-FOUND : goal.returns-then-answer-lt-FOUND
returns-then-answer-lt-FOUND c =
    let a = c.args in
    alone-untold 2 telling (PingFound a.deposit.now a.corrections.now (record { 0 = a.channel }) a.number) a.answer.now c.if-answer-lt-FOUND.true

pub returns-in-Ok : goal.returns-in-Ok
returns-in-Ok c =
    let a = c.args in
    alone-told 2 telling (PingFound a.deposit.now a.corrections.now (record { 0 = a.channel }) a.number) a.answer.now
    (as_found c.find_ping.result) _ _ _ c.if-answer-lt-FOUND.false (omega arith) c.find_ping.ensures
    (ap (λ (r : Found). telling r) (ap as_found c.in-Ok.is) ∙ held-told c.in-Ok.held.source c.in-Ok.held.span)
    c.tell_part.ensures.value (rw c.mark.ensures at c.tell_part.ensures.answer_after)

pub returns-in-Err : goal.returns-in-Err
returns-in-Err c =
    let a = c.args in
    alone-told 2 telling (PingFound a.deposit.now a.corrections.now (record { 0 = a.channel }) a.number) a.answer.now
    (as_found c.find_ping.result) _ _ _ c.if-answer-lt-FOUND.false (omega arith) c.find_ping.ensures
    (ap (λ (r : Found). telling r) (ap as_found c.in-Err.is))
    c.tell_found.ensures.value (rw (c.from.ensures ∙ c.mark-in-Err.ensures) at c.tell_found.ensures.answer_after)

pub hac-find-ping-settled : (d k : List ℕ) (c : SoftwareChannel) (n : ℕ) (lent : List ℕ) {x y : ℕ} {left right : List ℕ}
    → SaidAlone 2 (told found_numbers found_fields) (PingFound d k c n) lent x left
    → SaidAlone 2 (told found_numbers found_fields) (PingFound d k c n) lent y right
    → (x ≡ y) × (left ≡ right)
hac-find-ping-settled d k c n lent = alone-settled 2 telling (PingFound d k c n) lent (λ a b p q. found-settled d k c n p q)
