-- Runs of bytes stored one behind the other are stored as one. Assumes nothing.
use mathlib.Core.Path.{◌≡◌, sym, ap, ◌∙◌}
use mathlib.Core.List.{List, ◌++◌, append_assoc}
use Prim.Native.Nat.{ℕ, ◌+◌}
use native.Mathlib.Omega.{arith}
use lib.ListN.{length, length-append}
use lib.Seq.{sets}
use Rattle.order.proofs.Stores.{sets_append}

-- ---- three runs of bytes, and four
pub length_three : (x y z : List ℕ) (i j k : ℕ) → length x ≡ i → length y ≡ j → length z ≡ k → length (x ++ (y ++ z)) ≡ i + j + k
length_three x y z i j k a b c = omega (arith, length-append x (y ++ z), length-append y z)

pub in_three : (x y z out : List ℕ) (i j : ℕ) → length x ≡ i → length y ≡ j
    → sets (sets (sets out 0 x) i y) (i + j) z ≡ sets out 0 (x ++ (y ++ z))
in_three x y z out i j a b =
    let first : 0 + length x ≡ i = omega arith in
    sym
    (sets_append x (y ++ z) out 0
    ∙ ap (λ (n : ℕ). sets (sets out 0 x) n (y ++ z)) first
    ∙ sets_append y z (sets out 0 x) i
    ∙ ap (λ (n : ℕ). sets (sets (sets out 0 x) i y) (i + n) z) b)

pub length-four : (x y z w : List ℕ) (i j k l : ℕ) → length x ≡ i → length y ≡ j → length z ≡ k → length w ≡ l
    → length (x ++ (y ++ (z ++ w))) ≡ i + j + k + l
length-four x y z w i j k l a b c d = omega (arith, length-append x (y ++ (z ++ w)), length-append y (z ++ w), length-append z w)

pub in_four : (x y z w out : List ℕ) (i j k : ℕ) → length x ≡ i → length y ≡ j → length z ≡ k
    → sets (sets (sets (sets out 0 x) i y) (i + j) z) (i + j + k) w ≡ sets out 0 (x ++ (y ++ (z ++ w)))
in_four x y z w out i j k a b c =
    let n : 0 + length (x ++ (y ++ z)) ≡ i + j + k = omega (arith, length_three x y z i j k a b c) in
    let assoc : (x ++ (y ++ z)) ++ w ≡ x ++ (y ++ (z ++ w)) = simp append_assoc in
    ap (λ (l : List ℕ). sets l (i + j + k) w) (in_three x y z out i j a b)
    ∙ ap (λ (m : ℕ). sets (sets out 0 (x ++ (y ++ z))) m w) (sym n)
    ∙ sym (sets_append (x ++ (y ++ z)) w out 0)
    ∙ ap (sets out 0) assoc
