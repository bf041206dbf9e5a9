-- `forms::turn_listed` meets its contract: in each arm the listing is the arm's. Assumes nothing.
use mathlib.Core.Path.{refl}
use borrow.Author.Rules.{rules}
use Rattle.layout.specs.Types.{listings}
use Rattle.layout.specs.inner.Codes.{field_of, fields_of, row_codes}
use Rattle.forms.specs.inner.Parts.{first_listings}
use Rattle.forms.proofs.Arms.{asked, left, below}
use Rattle.forms.proofs.turn_listed.Statement.{statement}
use Rattle.forms.proofs.turn_listed.Tie as tie

pub turn_listed_spec : {M : Type 1} → statement M
unfolding row_codes listings fields_of field_of
turn_listed_spec =
    tie.close
    (tie.spec
    (λ c κs. search rules)
    (λ c. search rules)
    (λ c. search rules)
    (λ c. search rules)
    (λ c. search rules)
    (λ c κs. let r = c.before.before.before in
    let m = r.before in
    let s = m.before.before.before in
    let a = s.args in
    asked m.in-5.is r.row.ensures refl a.at a.to a.file.now a.out.now s.requires.1.0 s.requires.1.1)
    (λ c κs. search rules)
    (λ c. search rules)
    (λ c. search rules)
    (λ c. search rules)
    (λ c. search rules)
    (λ c κs. let r = c.before.before.before in
    let m = r.before in
    let s = m.before.before.before in
    let a = s.args in
    asked m.in-6.is r.row-in-6.ensures refl a.at a.to a.file.now a.out.now s.requires.1.0 s.requires.1.1)
    (λ c κs. search rules)
    (λ c. search rules)
    (λ c. search rules)
    (λ c. search rules)
    (λ c. search rules)
    (λ c κs. let r = c.before.before.before in
    let m = r.before in
    let s = m.before.before.before in
    let a = s.args in
    asked m.in-7.is r.row-in-7.ensures refl a.at a.to a.file.now a.out.now s.requires.1.0 s.requires.1.1)
    (λ c κs. search rules)
    (λ c. search rules)
    (λ c. search rules)
    (λ c. search rules)
    (λ c. search rules)
    (λ c κs. let r = c.before.before.before in
    let m = r.before in
    let s = m.before.before.before in
    let a = s.args in
    asked m.in-8.is r.row-in-8.ensures refl a.at a.to a.file.now a.out.now s.requires.1.0 s.requires.1.1)
    (λ c κs. search rules)
    (λ c. search rules)
    (λ c. search rules)
    (λ c. search rules)
    (λ c. search rules)
    (λ c κs. let r = c.before.before.before in
    let m = r.before in
    let s = m.before.before.before in
    let a = s.args in
    asked m.in-9.is r.row-in-9.ensures refl a.at a.to a.file.now a.out.now s.requires.1.0 s.requires.1.1)
    (λ c κs. search rules)
    (λ c. search rules)
    (λ c. search rules)
    (λ c. search rules)
    (λ c. search rules)
    (λ c κs. let r = c.before.before.before in
    let m = r.before in
    let s = m.before.before.before in
    let a = s.args in
    asked m.in-10.is r.row-in-10.ensures refl a.at a.to a.file.now a.out.now s.requires.1.0 s.requires.1.1)
    (λ c κs. search rules)
    (λ c. search rules)
    (λ c. search rules)
    (λ c. search rules)
    (λ c. search rules)
    (λ c κs. let r = c.before.before.before in
    let m = r.before in
    let s = m.before.before.before in
    let a = s.args in
    asked m.in-11.is r.row-in-11.ensures refl a.at a.to a.file.now a.out.now s.requires.1.0 s.requires.1.1)
    (λ c κs. search rules)
    (λ c. search rules)
    (λ c. search rules)
    (λ c. search rules)
    (λ c. search rules)
    (λ c κs. let r = c.before.before.before in
    let m = r.before in
    let s = m.before.before.before in
    let a = s.args in
    asked m.in-12.is r.row-in-12.ensures refl a.at a.to a.file.now a.out.now s.requires.1.0 s.requires.1.1)
    (λ c κs. search rules)
    (λ c. search rules)
    (λ c. search rules)
    (λ c. search rules)
    (λ c. search rules)
    (λ c κs. let r = c.before.before.before in
    let m = r.before in
    let s = m.before.before.before in
    let a = s.args in
    asked m.in-13.is r.row-in-13.ensures refl a.at a.to a.file.now a.out.now s.requires.1.0 s.requires.1.1)
    (λ c κs. search rules)
    (λ c. search rules)
    (λ c. search rules)
    (λ c. search rules)
    (λ c. search rules)
    (λ c κs. let r = c.before.before.before in
    let m = r.before in
    let s = m.before.before.before in
    let a = s.args in
    asked m.in-14.is r.row-in-14.ensures refl a.at a.to a.file.now a.out.now s.requires.1.0 s.requires.1.1)
    (λ c κs. let m = c.before in
    let s = m.before.before.before in
    (below first_listings 10 s.args.listing s.requires.0 m.in_default.in_default-own.rest, (s.requires.1.0, s.requires.1.1)))
    (λ c. search rules)
    (λ c. let t = c.before.before in
    let r = t.before.before.before.before in
    let m = r.before in
    let a = m.args in
    left m.in-5.is r.row.ensures refl a.at a.to a.msb a.file.now a.out.now t.turn_row.ensures)
    (λ c. search rules)
    (λ c. let t = c.before.before in
    let r = t.before.before.before.before in
    let m = r.before in
    let a = m.args in
    left m.in-6.is r.row-in-6.ensures refl a.at a.to a.msb a.file.now a.out.now t.turn_row-in-6.ensures)
    (λ c. search rules)
    (λ c. let t = c.before.before in
    let r = t.before.before.before.before in
    let m = r.before in
    let a = m.args in
    left m.in-7.is r.row-in-7.ensures refl a.at a.to a.msb a.file.now a.out.now t.turn_row-in-7.ensures)
    (λ c. search rules)
    (λ c. let t = c.before.before in
    let r = t.before.before.before.before in
    let m = r.before in
    let a = m.args in
    left m.in-8.is r.row-in-8.ensures refl a.at a.to a.msb a.file.now a.out.now t.turn_row-in-8.ensures)
    (λ c. search rules)
    (λ c. let t = c.before.before in
    let r = t.before.before.before.before in
    let m = r.before in
    let a = m.args in
    left m.in-9.is r.row-in-9.ensures refl a.at a.to a.msb a.file.now a.out.now t.turn_row-in-9.ensures)
    (λ c. search rules)
    (λ c. let t = c.before.before in
    let r = t.before.before.before.before in
    let m = r.before in
    let a = m.args in
    left m.in-10.is r.row-in-10.ensures refl a.at a.to a.msb a.file.now a.out.now t.turn_row-in-10.ensures)
    (λ c. search rules)
    (λ c. let t = c.before.before in
    let r = t.before.before.before.before in
    let m = r.before in
    let a = m.args in
    left m.in-11.is r.row-in-11.ensures refl a.at a.to a.msb a.file.now a.out.now t.turn_row-in-11.ensures)
    (λ c. search rules)
    (λ c. let t = c.before.before in
    let r = t.before.before.before.before in
    let m = r.before in
    let a = m.args in
    left m.in-12.is r.row-in-12.ensures refl a.at a.to a.msb a.file.now a.out.now t.turn_row-in-12.ensures)
    (λ c. search rules)
    (λ c. let t = c.before.before in
    let r = t.before.before.before.before in
    let m = r.before in
    let a = m.args in
    left m.in-13.is r.row-in-13.ensures refl a.at a.to a.msb a.file.now a.out.now t.turn_row-in-13.ensures)
    (λ c. search rules)
    (λ c. let t = c.before.before in
    let r = t.before.before.before.before in
    let m = r.before in
    let a = m.args in
    left m.in-14.is r.row-in-14.ensures refl a.at a.to a.msb a.file.now a.out.now t.turn_row-in-14.ensures)
    (λ c. search rules)
    (λ c. c.turn_first.ensures))
