-- `samples16::magnitude_of` meets its contract. Assumes nothing.
use native.Mathlib.Omega.{arith}
use borrow.Author.Rules.{rules}
use Rattle.samples16.proofs.Laws.{size_small, size_large}
use Rattle.samples16.proofs.magnitude_of.Statement.{statement}
use Rattle.samples16.proofs.magnitude_of.Tie as tie

returns : tie.Need-returns-then-exponent-eq0
returns c = (size_small c.args.word c.if-exponent-eq0.true, omega arith)

returns-2 : tie.Need-returns
returns-2 c = size_large c.args.word c.requires (omega (arith, c.if-exponent-eq0.false))

pub magnitude_of_spec : {M : Type 1} → statement M
magnitude_of_spec =
    tie.close
    (tie.spec
    (λ c. search rules)
    returns
    (λ c. search rules)
    (λ c. search rules)
    (λ c. search rules)
    (λ c. search rules)
    returns-2)
