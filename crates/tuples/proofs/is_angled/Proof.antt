-- `tuples::is_angled` meets its contract: the types of the arms hold such samples, and no other type does. Assumes nothing.
use mathlib.Core.Path.{◌≡◌, refl, sym, ap, ◌∙◌}
use mathlib.Core.Bool.{true}
use Prim.Native.Nat.{ℕ}
use borrow.Author.Rules.{rules}
use Rattle.layout.specs.Types.{listings, among, listing_of}
use Rattle.tuples.specs.Readers.{is_angled}
use Rattle.tuples.proofs.Codes.{angled, no_code}
use Rattle.tuples.proofs.is_angled.Statement.{statement}
use Rattle.tuples.proofs.is_angled.Tie as tie

-- an arm of the match: the code is the arm's
arm : {k n : ℕ} → k ≡ n → is_angled n ≡ true → true ≡ is_angled k
arm e h = sym h ∙ sym (ap is_angled e)

pub is_angled_spec : {M : Type 1} → statement M
unfolding listing_of among listings
is_angled_spec =
    tie.close
    (tie.spec
    (λ c. arm {k = c.args.code} {n = 10001} (search rules) refl)
    (λ c. arm {k = c.args.code} {n = 10031} (search rules) refl)
    (λ c. sym (no_code angled c.args.code c.in_default.in_default-own.rest)))
