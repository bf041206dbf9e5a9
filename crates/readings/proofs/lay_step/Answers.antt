-- `readings::lay_step` meets its contract: a sample's reading is laid at its number, a run lays none. Assumes nothing.
use Rattle.std.proofs.Common.{◌≡◌, ℕ, ℤ, sym, ap, ap₂, ◌∙◌, rules}
use mir.Syntax.{w32}
use mir.ValLaws.{to_z-of_z}
use Rattle.readings.specs.declared.Reading.{Reading}
use Rattle.readings.specs.Double.{double_of}
use Rattle.readings.specs.Reading.{cased, case_in, double_in}
use Rattle.readings.specs.inner.Laying.{put}
use Rattle.readings.proofs.Laying.{laid_sample, laid_none}
use Rattle.readings.proofs.lay_step.Goals as goal

pub returns-in-Some-clause-cases_after : goal.returns-in-Some-clause-cases_after
returns-in-Some-clause-cases_after c =
    let a = c.args in
    let v = to_z-of_z w32 c.in-Some.value (search rules) in
    let z : c.reading_of.result ≡ cased a.quantity (double_of c.in-Some.value a.divisor) =
    c.reading_of.ensures ∙ ap (λ (z : ℤ). cased a.quantity (double_of z a.divisor)) v in
    c.put_reading.ensures.cases_after
    ∙ ap₂ (λ (n : ℕ) (x : Reading). put a.first a.cases.now n (case_in x)) c.wide.ensures z
    ∙ sym (laid_sample _ _ _ a.it c.in-Some.is)

pub returns-in-Some-clause-doubles_after : goal.returns-in-Some-clause-doubles_after
returns-in-Some-clause-doubles_after c =
    let a = c.args in
    let v = to_z-of_z w32 c.in-Some.value (search rules) in
    let z : c.reading_of.result ≡ cased a.quantity (double_of c.in-Some.value a.divisor) =
    c.reading_of.ensures ∙ ap (λ (z : ℤ). cased a.quantity (double_of z a.divisor)) v in
    c.put_reading.ensures.doubles_after
    ∙ ap₂ (λ (n : ℕ) (x : Reading). put a.first a.doubles.now n (double_in x)) c.wide.ensures z
    ∙ sym (laid_sample _ _ _ a.it c.in-Some.is)

pub returns-in_default-clause-cases_after : goal.returns-in_default-clause-cases_after
returns-in_default-clause-cases_after c = sym (laid_none _ _ _ c.args.it c.in_default.is)

pub returns-in_default-clause-doubles_after : goal.returns-in_default-clause-doubles_after
returns-in_default-clause-doubles_after c = sym (laid_none _ _ _ c.args.it c.in_default.is)
