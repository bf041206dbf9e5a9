-- Words one behind another: n words need no byte behind them, and the values of two lists of words, and whether one is bad. Assumes nothing.
use mathlib.Core.Path.{◌≡◌, refl, ap, ◌∙◌}
use mathlib.Core.Bool.{Bool, ◌||◌, or_assoc}
use mathlib.Core.List.{List, [], ◌∷◌, ◌++◌}
use Prim.Native.Nat.{ℕ, zero, suc, ◌+◌, ◌*◌}
use native.Mathlib.Nat.{zero-add, suc-add}
use native.Mathlib.Omega.{arith}
use lib.ListN.{take, drop}
use lib.Seq.{take-take, take-nil}
use Rattle.order.specs.Order.{num_of}
use Rattle.layout.specs.Families.{Family}
use Rattle.samples.specs.Words.{words}
use Rattle.samples.specs.Runs.{values, first_bad}
use Rattle.samples.specs.Judging.{any_bad}
use Rattle.samples.proofs.Judging.{values_cons, bad_cons}

pub drop-take : (m j : ℕ) (l : List ℕ) → drop m (take (m + j) l) ≡ take j (drop m l)
drop-take zero j l = rw zero-add
drop-take (suc m) j [] = rw (suc-add, take-nil)
drop-take (suc m) j (x ∷ l) = rw suc-add (drop-take m j l)

-- n words need no byte behind them
pub words_take : (k : ℕ) (o : Bool) (n : ℕ) (d : List ℕ) → words k o n (take (k * n) d) ≡ words k o n d
unfolding words
words_take k o zero d = refl
words_take k o (suc n) d =
    let e : k * suc n ≡ k + k * n = omega arith in
    rw (e, take-take k (k + k * n) d (omega arith), drop-take k (k * n) d)
    (ap (λ (l : List ℕ). num_of o (take k d) ∷ l) (words_take k o n (drop k d)))

-- ---- of words one behind another
pub values_append : (R : ℕ) (us ws : List ℕ) → values R (us ++ ws) ≡ values R us + values R ws
unfolding values
values_append R [] ws = omega arith
values_append R (u ∷ us) ws = values_cons R u (us ++ ws) ∙ omega (arith, values_append R us ws, values_cons R u us)

pub bad_append : (f : Family) (us ws : List ℕ) → any_bad f (us ++ ws) ≡ (any_bad f us || any_bad f ws)
unfolding first_bad
bad_append f [] ws = refl
bad_append f (u ∷ us) ws = rw (bad_cons f u (us ++ ws), bad_append f us ws, bad_cons f u us, or_assoc)
