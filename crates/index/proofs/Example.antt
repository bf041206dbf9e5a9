-- The types of some tuples, computed. Assumes nothing.
use mathlib.Core.Path.{◌≡◌, refl}
use mathlib.Core.List.{[], ◌∷◌}
use Prim.Native.Nat.{ℕ}
use Rattle.layout.specs.Types.{in_class, classes}
use Rattle.frame.specs.Frames.{Tup}
use Rattle.links.specs.Links.{has}
use Rattle.index.specs.Index.{chosen, is_typed, types_of}

abbrev of_type : ℕ → Tup
of_type k = record { kind = k; body = [] }

example : types_of (of_type 65535 ∷ of_type 20 ∷ of_type 100 ∷ of_type 1000 ∷ of_type 10000 ∷ of_type 65406 ∷ of_type 20 ∷ of_type 65534 ∷
    []) ≡ 20 ∷ 100 ∷ 1000 ∷ 10000 ∷ 65534 ∷ 65535 ∷ []
unfolding types_of chosen is_typed has in_class classes
example = refl
