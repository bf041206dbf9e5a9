-- `ping_forms::is_compressed` meets its contract: the samples of the arms' types are words, and of no other type. Assumes nothing.
use mathlib.Core.Path.{◌≡◌, refl, sym, ap, ◌∙◌}
use mathlib.Core.Bool.{true}
use Prim.Native.Nat.{ℕ}
use Rattle.layout.specs.Types.{listings, among, listing_of, shape_of}
use Rattle.layout.specs.inner.Codes.{has_words}
use Rattle.layout.proofs.Families.{no_words}
use Rattle.ping_forms.proofs.is_compressed.Statement.{statement}
use Rattle.ping_forms.proofs.is_compressed.Tie as tie

-- an arm of the match: the code is the arm's
arm : {k n : ℕ} → k ≡ n → has_words (shape_of n) ≡ true → true ≡ has_words (shape_of k)
arm e h = sym h ∙ sym (ap (λ (i : ℕ). has_words (shape_of i)) e)

pub is_compressed_spec : {M : Type 1} → statement M
unfolding listing_of among listings
is_compressed_spec =
    tie.close
    (tie.spec
    (λ c. arm c.in-10010.is refl)
    (λ c. arm c.in-10040.is refl)
    (λ c. arm c.in-10050.is refl)
    (λ c. sym (no_words c.args.code c.in_default.in_default-own.rest)))
