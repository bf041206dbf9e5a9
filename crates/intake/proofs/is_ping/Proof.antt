-- `intake::is_ping` meets its contract: the types of the arms have samples, and no other type has. Assumes nothing.
use mathlib.Core.Path.{◌≡◌, refl, sym, ap, ◌∙◌}
use mathlib.Core.Bool.{true}
use Prim.Native.Nat.{ℕ}
use Rattle.layout.specs.Types.{listings, among, listing_of, is_ping}
use Rattle.layout.proofs.Families.{no_ping}
use Rattle.intake.proofs.is_ping.Statement.{statement}
use Rattle.intake.proofs.is_ping.Tie as tie

-- an arm of the match: the code is the arm's
arm : {k n : ℕ} → k ≡ n → is_ping n ≡ true → true ≡ is_ping k
arm e h = sym h ∙ sym (ap is_ping e)

pub is_ping_spec : {M : Type 1} → statement M
unfolding is_ping listing_of among listings
is_ping_spec =
    tie.close
    (tie.spec
    (λ c. arm c.in-10000.is refl)
    (λ c. arm c.in-10010.is refl)
    (λ c. arm c.in-10001.is refl)
    (λ c. arm c.in-10030.is refl)
    (λ c. arm c.in-10031.is refl)
    (λ c. arm c.in-10040.is refl)
    (λ c. arm c.in-10050.is refl)
    (λ c. sym (no_ping c.args.code c.in_default.in_default-own.rest)))
