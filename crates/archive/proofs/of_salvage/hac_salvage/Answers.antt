-- `archive::of_salvage::hac_salvage` meets its contract, which settles what it says and leaves: the ranges and the offsets tried behind
-- the answer's numbers. Assumes nothing.
use Rattle.std.proofs.Common.{◌≡◌, ap, ◌∙◌, ℕ, List, arith}
use Rattle.salvage.specs.Views.{as_outcome}
use Rattle.salvage.specs.Outcome.{Outcome}
use Rattle.salvage.specs.Salvage.{salvage_numbers, salvage_fields, Salvaged, salvaged-settled}
use Rattle.archive.specs.Saying.{Said, said_settled}
use Rattle.archive.specs.Numbers.{told}
use Rattle.archive.proofs.Saying.{untold, told_as}
use Rattle.archive.proofs.of_salvage.hac_salvage.Goals as goal

abbrev telling : Outcome → List ℕ
telling = told salvage_numbers salvage_fields

abbrev promise : (f out table : List ℕ) → Outcome → List ℕ × List ℕ → Type 0
promise f out table o m = Salvaged f out table o m.0 m.1

pub returns-then-answer-lt-SALVAGE : goal.returns-then-answer-lt-SALVAGE
returns-then-answer-lt-SALVAGE c =
    let a = c.args in
    untold 2 telling (promise a.file.now a.out.now a.table.now) a.answer.now (a.out.now, a.table.now) c.if-answer-lt-SALVAGE.true

pub returns-in-Ok : goal.returns-in-Ok
returns-in-Ok c =
    let a = c.args in
    told_as 2 telling (promise a.file.now a.out.now a.table.now) a.answer.now (a.out.now, a.table.now)
    (as_outcome c.salvage.result) _ _ _ _ c.if-answer-lt-SALVAGE.false (omega arith) c.salvage.ensures
    (ap telling (ap as_outcome c.in-Ok.is)) c.tell_found.ensures.value c.tell_found.ensures.answer_after

pub returns-in-Err : goal.returns-in-Err
returns-in-Err c =
    let a = c.args in
    told_as 2 telling (promise a.file.now a.out.now a.table.now) a.answer.now (a.out.now, a.table.now)
    (as_outcome c.salvage.result) _ _ _ _ c.if-answer-lt-SALVAGE.false (omega arith) c.salvage.ensures
    (ap telling (ap as_outcome c.in-Err.is)) c.tell_refusal.ensures.value c.tell_refusal.ensures.answer_after

module _ (f out table lent : List ℕ) where
  settled : (x y : List ℕ × List ℕ) (a b : Outcome) → promise f out table a x → promise f out table b y → (a ≡ b) × (x ≡ y)
  settled x y a b p q = let e = salvaged-settled p q in (e.0, λ i. (e.1 i, e.2 i))

  pub hac-salvage-settled : {c d : ℕ} {left right : List ℕ} {kept held : List ℕ × List ℕ}
      → Said 2 (told salvage_numbers salvage_fields) (promise f out table) lent (out, table) c left kept
      → Said 2 (told salvage_numbers salvage_fields) (promise f out table) lent (out, table) d right held
      → (c ≡ d) × (left ≡ right) × (kept ≡ held)
  hac-salvage-settled {kept = kept} {held = held} =
      said_settled 2 telling (promise f out table) lent (out, table) (settled kept held)
