-- `readings::quotient` meets its contract: one division of exact doubles rounds once. Assumes nothing.
use native.Mathlib.Nat.{lt_of_lt_of_le, le_of_lt}
use borrow.Author.Rules.{rules}
use lib.Dec.{lit≤}
use mir.Syntax.{w32}
use mir.ValLaws.{to_z-of_z}
use Rattle.readings.proofs.Doubles.{one_rounding}
use Rattle.readings.proofs.quotient.Statement.{statement}
use Rattle.readings.proofs.quotient.Tie as tie

returns : tie.Need-returns
returns c =
    let s = c.before.before in
    let f = s.ranges in
    rw (to_z-of_z w32 s.args.value f.value)
    (one_rounding s.args.value s.args.divisor (lt_of_lt_of_le f.value.sfits (lit≤ tt)) s.requires
    (le_of_lt (lt_of_lt_of_le f.divisor.fits (lit≤ tt))))

pub quotient_spec : {M : Type 1} → statement M
quotient_spec = tie.close (tie.spec
    (λ c. search rules)
    (λ c. search rules)
    returns)
