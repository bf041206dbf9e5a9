-- The families of the listed pings, by their types as a match on them leaves them. Assumes nothing.
use mathlib.Core.Path.{◌≡◌, refl, sym, ap, ◌∙◌}
use mathlib.Core.Bool.{Bool, cond}
use mathlib.Core.List.{List, [], ◌∷◌}
use Prim.Native.Nat.{ℕ}
use Rattle.rules.proofs.Bools.{same_arms}
use Rattle.layout.specs.Families.{Family, wide}
use Rattle.layout.specs.Types.{listings}
use Rattle.layout.proofs.Tables.{NoneOf, has_code, none_has, alike_all}
use Rattle.quantities.specs.inner.Codes.{family_in, family_of}

-- an arm of a match on the type: what is told of its family
pub arm : {A : Type 0} (g : Family → A) {k n : ℕ} {x : A} → k ≡ n → g (family_of n) ≡ x → x ≡ g (family_of k)
arm g e h = sym h ∙ sym (ap (λ (i : ℕ). g (family_of i)) e)

-- the types of the other families, the last of a match first: all others are as if of 32 bits
abbrev pub others : List ℕ
others = 10031 ∷ 10001 ∷ 10050 ∷ 10040 ∷ 10030 ∷ []

pub left-wide : (k : ℕ) → NoneOf others k → family_of k ≡ wide
unfolding listings
left-wide k h =
    ap (λ (b : Bool). cond b wide (family_of k)) (sym (none_has k others h))
    ∙ alike_all (λ j l. cond (has_code j others) wide (family_in l.shape)) (λ j l. wide) refl
    (λ j. same_arms (has_code j others) wide) (λ j. same_arms (has_code j others) wide) k
