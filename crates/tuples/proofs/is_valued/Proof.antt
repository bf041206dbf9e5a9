-- `tuples::is_valued` meets its contract: the types of the arms hold such samples, and no other type does. Assumes nothing.
use mathlib.Core.Path.{◌≡◌, refl, sym, ap, ◌∙◌}
use mathlib.Core.Bool.{true}
use Prim.Native.Nat.{ℕ}
use borrow.Author.Rules.{rules}
use Rattle.layout.specs.Types.{listings, among, listing_of}
use Rattle.tuples.specs.Readers.{is_valued}
use Rattle.tuples.proofs.Codes.{valued, no_code}
use Rattle.tuples.proofs.is_valued.Statement.{statement}
use Rattle.tuples.proofs.is_valued.Tie as tie

-- an arm of the match: the code is the arm's
arm : {k n : ℕ} → k ≡ n → is_valued n ≡ true → true ≡ is_valued k
arm e h = sym h ∙ sym (ap is_valued e)

pub is_valued_spec : {M : Type 1} → statement M
unfolding listing_of among listings
is_valued_spec =
    tie.close
    (tie.spec
    (λ c. arm {k = c.args.code} {n = 10000} (search rules) refl)
    (λ c. arm {k = c.args.code} {n = 10010} (search rules) refl)
    (λ c. arm {k = c.args.code} {n = 10030} (search rules) refl)
    (λ c. arm {k = c.args.code} {n = 10040} (search rules) refl)
    (λ c. arm {k = c.args.code} {n = 10050} (search rules) refl)
    (λ c. sym (no_code valued c.args.code c.in_default.in_default-own.rest)))
