-- `readings::has_readings` meets its contract: a ping with values has readings where its samples are read. Assumes nothing.
use mathlib.Core.Path.{◌≡◌, sym, ap, ◌∙◌}
use borrow.Author.Rules.{rules}
use borrow.Author.Tests.{not-true, not-false}
use Rattle.quantities.specs.declared.Quantity.{Quantity}
use Rattle.quantities.specs.inner.Codes.{family_of}
use Rattle.readings.specs.Reading.{is_read, has_readings}
use Rattle.readings.proofs.Units.{has-valued, has-none}
use Rattle.readings.proofs.has_readings.Statement.{statement}
use Rattle.readings.proofs.has_readings.Tie as tie

returns : tie.Need-returns-then-not-is_valued
returns c =
    let k = c.before in
    let s = k.before in
    sym (has-none s.args.quantity s.args.code s.requires (sym k.is_valued.ensures ∙ not-true _ c.if-not-is_valued.true-raw))

-- what the samples are told to be
told : (c : tie.Else-not-is_valued) {x : Quantity} → let a = c.args in
    a.quantity ≡ x → is_read x ≡ has_readings a.quantity (family_of a.code)
told c e =
    let k = c.before in
    let s = k.before in
    let valued = sym k.is_valued.ensures ∙ not-false _ c.if-not-is_valued.false-raw in
    ap is_read (sym e) ∙ sym (has-valued s.args.quantity s.args.code s.requires valued)

pub has_readings_spec : {M : Type 1} → statement M
has_readings_spec =
    tie.close
    (tie.spec
    (λ c κs. search rules)
    returns
    (λ c. search rules)
    (λ c. search rules)
    (λ c. search rules)
    (λ c. search rules)
    (λ c. told c.before c.in-Volts.is)
    (λ c. told c.before c.in-Sv.is)
    (λ c. told c.before c.in-Ts.is)
    (λ c. told c.before c.in-Other.is))
