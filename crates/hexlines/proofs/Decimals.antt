-- Numbers in decimal digits: the last digit behind those of a tenth; at most twenty digits. Assumes nothing.
use mathlib.Core.Path.{◌≡◌, sym, ap, ◌∙◌}
use mathlib.Core.Bool.{true, false}
use mathlib.Core.List.{List, [], ◌∷◌, ◌++◌}
use Prim.Native.Nat.{ℕ, zero, suc, ◌+◌, ◌/◌, ◌%◌, ◌^◌, ◌≤◌, ◌<◌}
use native.Mathlib.Nat.{pow-suc}
use native.Mathlib.Omega.{arith}
use lib.Dec.{ltb}
use lib.ListN.{length, length-append}
use borrow.Author.Tests.{lt-ltb, le-ltb}
use Rattle.hexlines.specs.Lines.{decimals, decimal}
use Rattle.hexlines.proofs.Digits.{by_bool}

last-digit : (d n : ℕ) → ltb n 10 ≡ true → decimals (suc d) n ≡ (48 + n) ∷ []
unfolding decimals
last-digit d n e = rw (e, decimals)

more-digits : (d n : ℕ) → ltb n 10 ≡ false → decimals (suc d) n ≡ decimals d (n / 10) ++ ((48 + n % 10) ∷ [])
unfolding decimals
more-digits d n e = rw (e, decimals)

-- one digit more than enough changes nothing
one_more : (d n : ℕ) → n < 10 ^ suc d → decimals (suc d) n ≡ decimals (suc (suc d)) n
one_more zero n h = let e = lt-ltb n 10 h in last-digit zero n e ∙ sym (last-digit 1 n e)
one_more (suc d) n h =
    by_bool (ltb n 10) (λ e. last-digit (suc d) n e ∙ sym (last-digit (suc (suc d)) n e))
    (λ e.
    more-digits (suc d) n e
    ∙ ap (λ (l : List ℕ). l ++ ((48 + n % 10) ∷ [])) (one_more d (n / 10) (omega (arith, pow-suc 10 (suc d))))
    ∙ sym (more-digits (suc (suc d)) n e))

pub decimal-last : (n : ℕ) → n < 10 → decimal n ≡ (48 + n) ∷ []
decimal-last n h = last-digit 19 n (lt-ltb n 10 h)

pub decimal-more : (n : ℕ) → n < 2 ^ 64 → 10 ≤ n → decimal n ≡ decimal (n / 10) ++ ((48 + n % 10) ∷ [])
decimal-more n small h =
    more-digits 19 n (le-ltb n 10 h) ∙ ap (λ (l : List ℕ). l ++ ((48 + n % 10) ∷ [])) (one_more 18 (n / 10) (omega arith))

at_most : (d n : ℕ) → length (decimals d n) ≤ d
at_most zero n = unfold decimals in omega arith
at_most (suc d) n =
    by_bool (ltb n 10) (λ e. omega (arith, ap length (last-digit d n e)))
    (λ e. omega (arith, ap length (more-digits d n e), length-append (decimals d (n / 10)) ((48 + n % 10) ∷ []), at_most d (n / 10)))

pub at-most_twenty : (n : ℕ) → length (decimal n) ≤ 20
at-most_twenty n = at_most 20 n

pub tenth_short : (n : ℕ) → n < 2 ^ 64 → 10 ≤ n → length (decimal (n / 10)) < 20
tenth_short n small h =
    omega (arith, at-most_twenty n, ap length (decimal-more n small h), length-append (decimal (n / 10)) ((48 + n % 10) ∷ []))
