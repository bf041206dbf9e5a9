-- `quantities::per_volt` meets its contract: each family's, by its types. Assumes nothing.
use mathlib.Core.Path.{refl, sym, ap}
use Rattle.layout.specs.Types.{listings, among, listing_of}
use Rattle.quantities.specs.Quantities.{per_volt}
use Rattle.quantities.proofs.Codes.{arm, left-wide}
use Rattle.quantities.proofs.per_volt.Statement.{statement}
use Rattle.quantities.proofs.per_volt.Tie as tie

pub per_volt_spec : {M : Type 1} → statement M
unfolding listing_of among listings
per_volt_spec =
    tie.close
    (tie.spec
    (λ c. arm per_volt c.in-10030.is refl)
    (λ c. arm per_volt c.in-10040.is refl)
    (λ c. arm per_volt c.in-10050.is refl)
    (λ c. arm per_volt c.in-10001.is refl)
    (λ c. arm per_volt c.in-10031.is refl)
    (λ c. sym (ap per_volt (left-wide c.args.code c.in_default.in_default-own.rest))))
