-- `pings::of_u16::lengths` meets its contract: the constants are those listed. Assumes nothing.
use mathlib.Core.Path.{refl}
use Rattle.layout.specs.Types.{listings, among, listing_of}
use Rattle.pings.proofs.of_u16.lengths.Statement.{statement}
use Rattle.pings.proofs.of_u16.lengths.Tie as tie

pub lengths_spec : {M : Type 1} → statement M
unfolding listing_of among listings
lengths_spec = tie.close (tie.spec
    (λ c. refl))
