-- `linear::unit_of` meets its contract: each family's, by its types. Assumes nothing.
use mathlib.Core.Path.{refl, sym, ap}
use lib.Dec.{lit≤}
use Rattle.layout.specs.Types.{listings, among, listing_of}
use Rattle.quantities.proofs.Codes.{arm, left-wide}
use Rattle.linear.specs.Linear.{millionths}
use Rattle.linear.proofs.unit_of.Statement.{statement}
use Rattle.linear.proofs.unit_of.Tie as tie

pub unit_of_spec : {M : Type 1} → statement M
unfolding listing_of among listings
unit_of_spec =
    tie.close
    (tie.spec
    (λ c. (arm millionths c.in-10030.is refl, lit≤ tt))
    (λ c. (arm millionths c.in-10040.is refl, lit≤ tt))
    (λ c. (arm millionths c.in-10050.is refl, lit≤ tt))
    (λ c. (arm millionths c.in-10001.is refl, lit≤ tt))
    (λ c. (arm millionths c.in-10031.is refl, lit≤ tt))
    (λ c. (sym (ap millionths (left-wide c.args.code c.in_default.in_default-own.rest)), lit≤ tt)))
