-- `readings::hand_over` meets its contract: 30 at a ping without readings; else the first entries hold its window. Assumes nothing.
use Rattle.std.proofs.Common.{◌≡◌, true, length, sym, ◌∙◌, arith}
use Rattle.quantities.specs.inner.Codes.{family_of}
use Rattle.readings.specs.Reading.{has_readings}
use Rattle.readings.proofs.Units.{valued_by}
use Rattle.readings.proofs.Handing.{handed-over}
use Rattle.readings.proofs.Windows.{shorter-min}
use Rattle.readings.proofs.hand_over.Goals as goal

pub fill-requires-clause-code_value : goal.fill-requires-clause-code_value
fill-requires-clause-code_value c =
    let x = c.args.ping in
    valued_by x.quantity x.code c.requires.listed (sym c.has_readings.ensures ∙ c.if-not-has_readings.false)

pub returns : goal.returns
returns c =
    let a = c.args in
    let x = a.ping in
    let has : has_readings x.quantity (family_of x.code) ≡ true = sym c.has_readings.ensures ∙ c.if-not-has_readings.false in
    handed-over x a.counts a.first has a.cases.now a.doubles.now (c.min-n.ensures ∙ shorter-min (length a.cases.now) (length a.doubles.now))
    (omega arith) c.fill.ensures.cases_after c.fill.ensures.doubles_after
