-- `archive::of_energy::hac_energy` meets its contract, which settles what it says: the energy behind the answer's numbers. Assumes nothing.
use Rattle.std.proofs.Common.{◌≡◌, ap, ◌∙◌, ℕ, List, arith}
use Rattle.energy.specs.Views.{as_echo}
use Rattle.energy.specs.Energy.{energy_numbers, energy_fields, EnergyTold, energy-settled}
use Rattle.archive.specs.Saying.{SaidAlone, alone-settled}
use Rattle.archive.specs.Numbers.{told}
use Rattle.archive.proofs.Saying.{alone-untold, alone-told}
use Rattle.archive.proofs.of_energy.hac_energy.Goals as goal

pub returns-then-answer-lt-ENERGY : goal.returns-then-answer-lt-ENERGY
returns-then-answer-lt-ENERGY c =
    let a = c.args in
    alone-untold 1 (told energy_numbers energy_fields) (EnergyTold a.file.now a.place) a.answer.now c.if-answer-lt-ENERGY.true

pub returns-in-Ok : goal.returns-in-Ok
returns-in-Ok c =
    let a = c.args in
    alone-told 1 (told energy_numbers energy_fields) (EnergyTold a.file.now a.place) a.answer.now (as_echo c.energy.result) _ _ _
    c.if-answer-lt-ENERGY.false (omega arith) c.energy.ensures (ap (told energy_numbers energy_fields) (ap as_echo c.in-Ok.is))
    c.tell_found.ensures.value c.tell_found.ensures.answer_after

pub returns-in-Err : goal.returns-in-Err
returns-in-Err c =
    let a = c.args in
    alone-told 1 (told energy_numbers energy_fields) (EnergyTold a.file.now a.place) a.answer.now (as_echo c.energy.result) _ _ _
    c.if-answer-lt-ENERGY.false (omega arith) c.energy.ensures (ap (told energy_numbers energy_fields) (ap as_echo c.in-Err.is))
    c.tell_refusal.ensures.value c.tell_refusal.ensures.answer_after

pub hac-energy-settled : (f : List ℕ) (p : ℕ) (lent : List ℕ) {c d : ℕ} {left right : List ℕ}
    → SaidAlone 1 (told energy_numbers energy_fields) (EnergyTold f p) lent c left
    → SaidAlone 1 (told energy_numbers energy_fields) (EnergyTold f p) lent d right
    → (c ≡ d) × (left ≡ right)
hac-energy-settled f p lent = alone-settled 1 (told energy_numbers energy_fields) (EnergyTold f p) lent (λ a b x y. energy-settled f p x y)
