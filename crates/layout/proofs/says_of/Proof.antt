-- `layout::says_of` meets its contract: the types of the arms say what is listed of them, and no other type says anything. Assumes nothing.
use mathlib.Core.Path.{◌≡◌, refl, sym, ap, ◌∙◌}
use Prim.Native.Nat.{ℕ}
use Rattle.layout.specs.declared.Says.{Says}
use Rattle.layout.specs.Types.{listings, among, listing_of, says_of}
use Rattle.layout.proofs.Tables.{quiet}
use Rattle.layout.proofs.says_of.Statement.{statement}
use Rattle.layout.proofs.says_of.Tie as tie

-- an arm of the match: the code is the arm's, of which what it says computes
arm : {k n : ℕ} {a : Says} → k ≡ n → says_of n ≡ a → a ≡ says_of k
arm e h = sym h ∙ sym (ap says_of e)

pub says_of_spec : {M : Type 1} → statement M
unfolding listing_of among listings
says_of_spec =
    tie.close
    (tie.spec
    (λ c. arm c.in-100.is refl)
    (λ c. arm c.in-200.is refl)
    (λ c. arm c.in-1000.is refl)
    (λ c. arm c.in-2000.is refl)
    (λ c. arm c.in-40.is refl)
    (λ c. arm c.in-10100.is refl)
    (λ c. arm c.in-10000.is refl)
    (λ c. arm c.in-10010.is refl)
    (λ c. arm c.in-10001.is refl)
    (λ c. arm c.in-10030.is refl)
    (λ c. arm c.in-10031.is refl)
    (λ c. arm c.in-10040.is refl)
    (λ c. arm c.in-10050.is refl)
    (λ c. sym (quiet c.args.code c.in_default.in_default-own.rest)))
