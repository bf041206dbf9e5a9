-- `layout::row` meets its contract: the code's table is `row_codes`. Assumes nothing.
use mathlib.Core.Path.{◌≡◌, refl}
use mathlib.Core.List.{[]}
use native.Mathlib.Omega.{arith}
use borrow.Author.Rules.{rules}
use Rattle.layout.specs.Types.{listings}
use Rattle.layout.specs.inner.Codes.{row_codes}
use Rattle.layout.proofs.Arms.{arm, at_least}
use Rattle.layout.proofs.row.Statement.{statement}
use Rattle.layout.proofs.row.Tie as tie

-- behind the fourteen arms one listing is left
returns-15 : tie.Need-returns-in_default
unfolding row_codes listings
returns-15 c =
    let s = c.before.before in
    let e : s.args.listing ≡ 14 = omega (arith, s.requires, at_least 14 s.args.listing c.in_default.in_default-own.rest) in
    arm row_codes [] e refl

pub row_spec : {M : Type 1} → statement M
unfolding row_codes listings
row_spec =
    tie.close
    (tie.spec
    (λ c. search rules)
    (λ c. search rules)
    (λ c. search rules)
    (λ c. search rules)
    (λ c. search rules)
    (λ c. search rules)
    (λ c. search rules)
    (λ c. search rules)
    (λ c. search rules)
    (λ c. search rules)
    (λ c. search rules)
    (λ c. search rules)
    (λ c. search rules)
    (λ c. search rules)
    (λ c. search rules)
    (λ c. arm row_codes [] c.in-0.is refl)
    (λ c. arm row_codes [] c.in-1.is refl)
    (λ c. arm row_codes [] c.in-2.is refl)
    (λ c. arm row_codes [] c.in-3.is refl)
    (λ c. arm row_codes [] c.in-4.is refl)
    (λ c. arm row_codes [] c.in-5.is refl)
    (λ c. arm row_codes [] c.in-6.is refl)
    (λ c. arm row_codes [] c.in-7.is refl)
    (λ c. arm row_codes [] c.in-8.is refl)
    (λ c. arm row_codes [] c.in-9.is refl)
    (λ c. arm row_codes [] c.in-10.is refl)
    (λ c. arm row_codes [] c.in-11.is refl)
    (λ c. arm row_codes [] c.in-12.is refl)
    (λ c. arm row_codes [] c.in-13.is refl)
    returns-15)
