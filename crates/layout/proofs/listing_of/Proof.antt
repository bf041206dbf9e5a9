-- `layout::listing_of` meets its contract: each code has its own place, and what is left has none. Assumes nothing.
use mathlib.Core.Path.{◌≡◌, refl, sym, ap, ◌∙◌}
use Prim.Native.Nat.{ℕ}
use Rattle.layout.specs.Types.{listings}
use Rattle.layout.specs.inner.Codes.{place_among, place_in}
use Rattle.layout.proofs.Tables.{missed}
use Rattle.layout.proofs.listing_of.Statement.{statement}
use Rattle.layout.proofs.listing_of.Tie as tie

-- an arm of the match: the code is the arm's, whose place computes
arm : {k n p : ℕ} → k ≡ n → place_in n ≡ p → p ≡ place_in k
arm e h = sym h ∙ sym (ap place_in e)

pub listing_of_spec : {M : Type 1} → statement M
unfolding place_among listings
listing_of_spec =
    tie.close
    (tie.spec
    (λ c. arm c.in-65535.is refl)
    (λ c. arm c.in-100.is refl)
    (λ c. arm c.in-200.is refl)
    (λ c. arm c.in-1000.is refl)
    (λ c. arm c.in-2000.is refl)
    (λ c. arm c.in-20.is refl)
    (λ c. arm c.in-30.is refl)
    (λ c. arm c.in-40.is refl)
    (λ c. arm c.in-10100.is refl)
    (λ c. arm c.in-10110.is refl)
    (λ c. arm c.in-10000.is refl)
    (λ c. arm c.in-10010.is refl)
    (λ c. arm c.in-65516.is refl)
    (λ c. arm c.in-65517.is refl)
    (λ c. arm c.in-65534.is refl)
    (λ c. arm c.in-10001.is refl)
    (λ c. arm c.in-10030.is refl)
    (λ c. arm c.in-10031.is refl)
    (λ c. arm c.in-10040.is refl)
    (λ c. arm c.in-10050.is refl)
    (λ c. sym (missed c.args.code c.in_default.in_default-own.rest)))
