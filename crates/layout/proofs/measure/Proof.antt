-- `layout::measure` meets its contract: the code's table is `measures`. Assumes nothing.
use mathlib.Core.Path.{◌≡◌, refl}
use mathlib.Core.List.{[]}
use native.Mathlib.Omega.{arith}
use borrow.Author.Rules.{rules}
use Rattle.layout.specs.Types.{listings}
use Rattle.layout.specs.inner.Codes.{measures}
use Rattle.layout.proofs.Arms.{arm, at_least}
use Rattle.layout.proofs.measure.Statement.{statement}
use Rattle.layout.proofs.measure.Tie as tie

-- behind the nineteen arms one listing is left
returns-20 : tie.Need-returns-in_default
unfolding measures listings
returns-20 c =
    let s = c.before.before in
    let e : s.args.listing ≡ 19 = omega (arith, s.requires, at_least 19 s.args.listing c.in_default.in_default-own.rest) in
    arm measures [] e refl

pub measure_spec : {M : Type 1} → statement M
unfolding measures listings
measure_spec =
    tie.close
    (tie.spec
    (λ c. search rules)
    (λ c. search rules)
    (λ c. search rules)
    (λ c. search rules)
    (λ c. search rules)
    (λ c. search rules)
    (λ c. search rules)
    (λ c. search rules)
    (λ c. search rules)
    (λ c. search rules)
    (λ c. search rules)
    (λ c. search rules)
    (λ c. search rules)
    (λ c. search rules)
    (λ c. search rules)
    (λ c. search rules)
    (λ c. search rules)
    (λ c. search rules)
    (λ c. search rules)
    (λ c. search rules)
    (λ c. arm measures [] c.in-0.is refl)
    (λ c. arm measures [] c.in-1.is refl)
    (λ c. arm measures [] c.in-2.is refl)
    (λ c. arm measures [] c.in-3.is refl)
    (λ c. arm measures [] c.in-4.is refl)
    (λ c. arm measures [] c.in-5.is refl)
    (λ c. arm measures [] c.in-6.is refl)
    (λ c. arm measures [] c.in-7.is refl)
    (λ c. arm measures [] c.in-8.is refl)
    (λ c. arm measures [] c.in-9.is refl)
    (λ c. arm measures [] c.in-10.is refl)
    (λ c. arm measures [] c.in-11.is refl)
    (λ c. arm measures [] c.in-12.is refl)
    (λ c. arm measures [] c.in-13.is refl)
    (λ c. arm measures [] c.in-14.is refl)
    (λ c. arm measures [] c.in-15.is refl)
    (λ c. arm measures [] c.in-16.is refl)
    (λ c. arm measures [] c.in-17.is refl)
    (λ c. arm measures [] c.in-18.is refl)
    returns-20)
