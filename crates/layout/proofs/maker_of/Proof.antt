-- `layout::maker_of` meets its contract: 0 is Biosonics', every other number Simrad's. Assumes nothing.
use mathlib.Core.Path.{◌≡◌, refl}
use Prim.Native.Nat.{ℕ, zero, suc}
use Rattle.layout.specs.declared.Maker.TheVariants.{Simrad}
use Rattle.layout.specs.inner.Codes.{maker_of}
use Rattle.layout.proofs.maker_of.Statement.{statement}
use Rattle.layout.proofs.maker_of.Tie as tie

other : (n : ℕ) → (n ≡ 0 → ⊥) → Simrad ≡ maker_of n
other zero h = absurd (h refl)
other (suc n) h = refl

returns : tie.Need-returns-then-number-eq-BIOSONICS
returns c = rw c.if-number-eq-BIOSONICS.true

returns-2 : tie.Need-returns
returns-2 c = other c.args.number c.if-number-eq-BIOSONICS.false

pub maker_of_spec : {M : Type 1} → statement M
maker_of_spec = tie.close (tie.spec
    returns
    returns-2)
