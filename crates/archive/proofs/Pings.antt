-- A ping's length as it is told, and its header and attribute as they are handed over. Assumes nothing.
use mathlib.Core.Path.{◌≡◌, refl, ap, subst, ◌∙◌}
use mathlib.Core.List.{[], ◌∷◌}
use mir.Syntax.{w32}
use mir.Val.{SFits, to_z, of_z}
use mir.Facts.{to_z-of_z}
use lib.IntN.{ℤ}
use lib.ListN.{length, get_or}
use Rattle.pings.specs.declared.PingHeader.{PingHeader}
use Rattle.pings.specs.PingLength.{PingLength}
use Rattle.std.specs.Prelude.{Some, None}
use Rattle.pings.specs.Fields.{length_numbers}

-- by two numbers
pub two-told : (l : PingLength) → length (length_numbers l) ≡ 2
two-told None = refl
two-told (Some n) = refl

pub both_told : (l : PingLength) → get_or (length_numbers l) 0 0 ∷ get_or (length_numbers l) 1 0 ∷ [] ≡ length_numbers l
both_told None = refl
both_told (Some n) = refl

-- a promise about a header and an attribute that were handed on, of the same ones
module _ (W : PingHeader → ℤ → Type 0) (header : ℤ → PingHeader) {h : PingHeader} {b z : ℤ} where
  pub of_same : SFits w32 b → SFits w32 z → h ≡ header (to_z w32 (of_z w32 b)) → W h (to_z w32 (of_z w32 z)) → W (header b) z
  of_same m n e w =
      subst (λ (x : PingHeader). W x z) (e ∙ ap header (to_z-of_z {w = w32} {z = b} m)) (subst (W h) (to_z-of_z {w = w32} {z = z} n) w)
