-- `pings::kind_of` meets its contract: each type has its kind, and behind the arms one type is left. Assumes nothing.
use mathlib.Core.Path.{◌≡◌, refl, sym, ap}
use mathlib.Core.List.{[], ◌∷◌}
use Prim.Native.Nat.{ℕ}
use Rattle.layout.specs.Types.{listings, among, listing_of, is_ping}
use Rattle.tuples.proofs.Codes.{last_code}
use Rattle.pings.specs.Fields.{kind_of_ping}
use Rattle.pings.proofs.Parts.{pings}
use Rattle.pings.proofs.kind_of.Statement.{statement}
use Rattle.pings.proofs.kind_of.Tie as tie

-- an arm of the match: the code is the arm's
arm : {k n : ℕ} → k ≡ n → kind_of_ping n ≡ kind_of_ping k
arm e = ap kind_of_ping (sym e)

pub kind_of_spec : {M : Type 1} → statement M
unfolding listing_of among listings is_ping
kind_of_spec =
    tie.close
    (tie.spec
    (λ c. arm c.in-10000.is)
    (λ c. arm c.in-10010.is)
    (λ c. arm c.in-10001.is)
    (λ c. arm c.in-10030.is)
    (λ c. arm c.in-10031.is)
    (λ c. arm c.in-10040.is)
    (λ c.
    let s = c.before in
    let others = 10040 ∷ 10031 ∷ 10030 ∷ 10001 ∷ 10010 ∷ 10000 ∷ [] in
    arm (last_code pings s.args.code 10050 others refl c.in_default.in_default-own.rest s.requires)))
