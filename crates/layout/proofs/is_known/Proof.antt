-- `layout::is_known` meets its contract. Assumes nothing.
use borrow.Author.Tests.{eq-eqb, ne_eqb}
use Rattle.layout.proofs.is_known.Statement.{statement}
use Rattle.layout.proofs.is_known.Tie as tie

pub is_known_spec : {M : Type 1} → statement M
is_known_spec = tie.close (tie.spec
    (λ c. simp (eq-eqb _ _ c.if-identifier-eq-IDENTIFIER.true))
    (λ c. simp (ne_eqb _ _ c.if-identifier-eq-IDENTIFIER.false)))
