-- `quantities::quantity_by` meets its contract: the types of data sample of each maker's table. Assumes nothing.
use mathlib.Core.Path.{◌≡◌, refl, sym, ap₂, ◌∙◌}
use Prim.Native.Nat.{ℕ}
use mathlib.Core.List.{[], ◌∷◌}
use borrow.Author.Rules.{rules}
use borrow.Author.Tests.{ne_eqb}
use Rattle.layout.specs.declared.Maker.{Maker}
use Rattle.layout.specs.declared.Maker.TheVariants.{Biosonics, Simrad}
use Rattle.layout.proofs.Tables.{NoneOf}
use Rattle.quantities.specs.declared.Quantity.{Quantity}
use Rattle.quantities.specs.declared.Quantity.TheVariants.{Other}
use Rattle.quantities.specs.Quantities.{quantity_by}
use Rattle.quantities.proofs.quantity_by.Statement.{statement}
use Rattle.quantities.proofs.quantity_by.Tie as tie

-- an arm: of a maker, a type of its table
arm : {m n : Maker} {k j : ℕ} {x : Quantity} → m ≡ n → k ≡ j → quantity_by n j ≡ x → x ≡ quantity_by m k
arm e h q = sym q ∙ sym (ap₂ quantity_by e h)

-- and any other
rest-biosonics : (k : ℕ) → NoneOf (2 ∷ 1 ∷ 0 ∷ []) k → quantity_by Biosonics k ≡ Other
rest-biosonics k n = rw (ne_eqb k 0 n.0.0.1, ne_eqb k 1 n.0.1, ne_eqb k 2 n.1)

rest-simrad : (k : ℕ) → NoneOf (3 ∷ 2 ∷ []) k → quantity_by Simrad k ≡ Other
rest-simrad k n = rw (ne_eqb k 2 n.0.1, ne_eqb k 3 n.1)

pub quantity_by_spec : {M : Type 1} → statement M
quantity_by_spec =
    tie.close
    (tie.spec
    (λ c. search rules)
    (λ c. search rules)
    (λ c. arm c.in-Biosonics.is c.in-0.is refl)
    (λ c. arm c.in-Biosonics.is c.in-1.is refl)
    (λ c. arm c.in-Biosonics.is c.in-2.is refl)
    (λ c. arm c.in-Biosonics.is refl (rest-biosonics _ c.in_default.in_default-own.rest))
    (λ c. arm {k = c.args.samples} {j = 2} c.in-Simrad.is (search rules) refl)
    (λ c. arm c.in-Simrad.is c.in-3.is refl)
    (λ c. arm c.in-Simrad.is refl (rest-simrad _ c.in_default-samples.in_default-samples-own.rest)))
