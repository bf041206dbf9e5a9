-- `readings::put_reading` meets its contract: both parts of the reading stand at its number, where the window has that. Assumes
-- nothing.
use mathlib.Core.Path.{sym, ap, ◌∙◌}
use Prim.Native.Nat.{◌-◌, ◌≤◌}
use native.Mathlib.Omega.{arith}
use borrow.Author.Rules.{rules}
use lib.ListN.{length, set}
use lib.Seq.{set_out}
use Rattle.readings.proofs.Laying.{put-inside, put-before}
use Rattle.readings.proofs.put_reading.Statement.{statement}
use Rattle.readings.proofs.put_reading.Tie as tie

returns : tie.Need-returns-then-i-cases
returns c =
    let then = c.before.before.before in
    let a = then.args in (
      ap (set a.cases.now (a.number - a.first)) c.case_of.ensures ∙ sym (put-inside _ _ _ _ then.if-first-number.true),
      ap (set a.doubles.now (a.number - a.first)) c.double_of.ensures ∙ sym (put-inside _ _ _ _ then.if-first-number.true),
    )

-- behind the window
returns-2 : tie.Need-returns-else-i-cases
returns-2 c =
    let then = c.before in
    let a = then.args in
    let k : length a.doubles.now ≤ a.number - a.first = omega arith in (
      sym (put-inside _ _ _ _ then.if-first-number.true ∙ set_out a.cases.now _ _ c.if-i-cases.false),
      sym (put-inside _ _ _ _ then.if-first-number.true ∙ set_out a.doubles.now _ _ k),
    )

-- before it
returns-3 : tie.Need-returns-else-first-number
returns-3 c = (sym (put-before _ _ _ _ c.if-first-number.false), sym (put-before _ _ _ _ c.if-first-number.false))

pub put_reading_spec : {M : Type 1} → statement M
put_reading_spec =
    tie.close
    (tie.spec
    (λ c κs. search rules)
    (λ c. search rules)
    (λ c κs. search rules)
    (λ c. search rules)
    (λ c. search rules)
    (λ c. search rules)
    (λ c. search rules)
    returns
    returns-2
    returns-3)
