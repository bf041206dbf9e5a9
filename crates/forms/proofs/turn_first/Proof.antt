-- `forms::turn_first` meets its contract: in each arm the listing is the arm's. Assumes nothing.
use mathlib.Core.Path.{◌≡◌, refl}
use native.Mathlib.Omega.{arith}
use borrow.Author.Rules.{rules}
use Rattle.layout.specs.Types.{listings}
use Rattle.layout.specs.inner.Codes.{field_of, fields_of, row_codes}
use Rattle.layout.proofs.Arms.{at_least}
use Rattle.forms.proofs.Arms.{asked, left}
use Rattle.forms.proofs.turn_first.Statement.{statement}
use Rattle.forms.proofs.turn_first.Tie as tie

-- behind the four arms one listing is left
last : (m : tie.In_default) → m.args.listing ≡ 4
last m = let s = m.before.before.before in omega (arith, s.requires.0, at_least 4 s.args.listing m.in_default.in_default-own.rest)

pub turn_first_spec : {M : Type 1} → statement M
unfolding row_codes listings fields_of field_of
turn_first_spec =
    tie.close
    (tie.spec
    (λ c κs. search rules)
    (λ c. search rules)
    (λ c. search rules)
    (λ c. search rules)
    (λ c. search rules)
    (λ c κs. let r = c.before.before.before in
    let m = r.before in
    let s = m.before.before.before in
    let a = s.args in
    asked m.in-0.is r.row.ensures refl a.at a.to a.file.now a.out.now s.requires.1.0 s.requires.1.1)
    (λ c κs. search rules)
    (λ c. search rules)
    (λ c. search rules)
    (λ c. search rules)
    (λ c. search rules)
    (λ c κs. let r = c.before.before.before in
    let m = r.before in
    let s = m.before.before.before in
    let a = s.args in
    asked m.in-1.is r.row-in-1.ensures refl a.at a.to a.file.now a.out.now s.requires.1.0 s.requires.1.1)
    (λ c κs. search rules)
    (λ c. search rules)
    (λ c. search rules)
    (λ c. search rules)
    (λ c. search rules)
    (λ c κs. let r = c.before.before.before in
    let m = r.before in
    let s = m.before.before.before in
    let a = s.args in
    asked m.in-2.is r.row-in-2.ensures refl a.at a.to a.file.now a.out.now s.requires.1.0 s.requires.1.1)
    (λ c κs. search rules)
    (λ c. search rules)
    (λ c. search rules)
    (λ c. search rules)
    (λ c. search rules)
    (λ c κs. let r = c.before.before.before in
    let m = r.before in
    let s = m.before.before.before in
    let a = s.args in
    asked m.in-3.is r.row-in-3.ensures refl a.at a.to a.file.now a.out.now s.requires.1.0 s.requires.1.1)
    (λ c κs. search rules)
    (λ c. search rules)
    (λ c. search rules)
    (λ c. search rules)
    (λ c. search rules)
    (λ c κs. let r = c.before.before.before in
    let m = r.before in
    let s = m.before.before.before in
    let a = s.args in
    asked (last m.before) r.row-in_default.ensures refl a.at a.to a.file.now a.out.now s.requires.1.0 s.requires.1.1)
    (λ c. search rules)
    (λ c. let t = c.before.before in
    let r = t.before.before.before.before in
    let m = r.before in
    let a = m.args in
    left m.in-0.is r.row.ensures refl a.at a.to a.msb a.file.now a.out.now t.turn_row.ensures)
    (λ c. search rules)
    (λ c. let t = c.before.before in
    let r = t.before.before.before.before in
    let m = r.before in
    let a = m.args in
    left m.in-1.is r.row-in-1.ensures refl a.at a.to a.msb a.file.now a.out.now t.turn_row-in-1.ensures)
    (λ c. search rules)
    (λ c. let t = c.before.before in
    let r = t.before.before.before.before in
    let m = r.before in
    let a = m.args in
    left m.in-2.is r.row-in-2.ensures refl a.at a.to a.msb a.file.now a.out.now t.turn_row-in-2.ensures)
    (λ c. search rules)
    (λ c. let t = c.before.before in
    let r = t.before.before.before.before in
    let m = r.before in
    let a = m.args in
    left m.in-3.is r.row-in-3.ensures refl a.at a.to a.msb a.file.now a.out.now t.turn_row-in-3.ensures)
    (λ c. search rules)
    (λ c. let t = c.before.before in
    let r = t.before.before.before.before in
    let m = r.before in
    let a = m.args in
    left (last m.before) r.row-in_default.ensures refl a.at a.to a.msb a.file.now a.out.now t.turn_row-in_default.ensures))
