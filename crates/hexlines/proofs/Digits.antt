-- Digits in and out: what a digit's code can be, a line's digits from a place on, and those of bytes. Assumes nothing.
use mathlib.Core.Path.{◌≡◌, refl, sym, ap, ◌∙◌}
use mathlib.Core.Bool.{Bool, true, false, ◌&&◌}
use mathlib.Core.List.{List, [], ◌∷◌}
use Prim.Native.Nat.{ℕ, suc, ◌+◌, ◌*◌, ◌/◌, ◌%◌, ◌≤◌, ◌<◌}
use native.Mathlib.Numerals.{add-one}
use native.Mathlib.Omega.{arith}
use lib.ListN.{length, drop, get_or, drop_of_length-le}
use lib.Seq.{drop-cons}
use Rattle.std.specs.List.{list_all}
use Rattle.order.proofs.Stores.{add-two}
use Rattle.rules.proofs.Bools.{both_true}
use Rattle.hexlines.specs.Lines.{is_digit, digit_of, all_digits, bytes_in, digit, hex}

pub by_bool : {C : Type 0} (b : Bool) → (b ≡ true → C) → (b ≡ false → C) → C
by_bool true f g = f refl
by_bool false f g = g refl

-- ---- the digits of a line from i on
pub digits_all : (l : List ℕ) → list_all (λ c. is_digit c) l ≡ all_digits l
unfolding all_digits
digits_all [] = refl
digits_all (c ∷ cs) = ap (λ (b : Bool). is_digit c && b) (digits_all cs)

pub digits-next : (l : List ℕ) (i : ℕ) → i < length l → all_digits (drop i l) ≡ is_digit (get_or l i 0) && all_digits (drop (i + 1) l)
unfolding all_digits
digits-next l i h = rw (drop-cons l i 0 h, add-one i)

-- two digits at i, and digits behind them
split : (l : List ℕ) (i : ℕ) → i < length l → all_digits (drop i l) ≡ true
    → (is_digit (get_or l i 0) ≡ true) × (all_digits (drop (i + 1) l) ≡ true)
split l i h e = both_true _ _ (sym (digits-next l i h) ∙ e)

pub digits-pair : (l : List ℕ) (i : ℕ) → i + 1 < length l → all_digits (drop i l) ≡ true
    → (is_digit (get_or l i 0) ≡ true) × ((is_digit (get_or l (i + 1) 0) ≡ true) × (all_digits (drop (i + 2) l) ≡ true))
digits-pair l i h e =
    let a = split l i (omega arith) e in
    let b = split l (i + 1) h a.1 in
    let two : i + 2 ≡ i + 1 + 1 = omega arith in
    (a.0, (b.0, ap (λ (k : ℕ). all_digits (drop k l)) two ∙ b.1))

-- ---- the bytes of a line from i on
pub bytes_next : (l : List ℕ) (i : ℕ) → i + 1 < length l
    → bytes_in (drop i l) ≡ (16 * digit_of (get_or l i 0) + digit_of (get_or l (i + 1) 0)) ∷ bytes_in (drop (i + 2) l)
unfolding bytes_in
bytes_next l i h =
    let a : i < length l = omega arith in
    let b : suc i < length l = omega arith in
    rw (drop-cons l i 0 a, drop-cons l (suc i) 0 b, add-one i, add-two i)

pub bytes-end : (l : List ℕ) (i : ℕ) → length l ≤ i → bytes_in (drop i l) ≡ []
unfolding bytes_in
bytes-end l i h = rw (drop_of_length-le l h)

pub length-bytes_in : (l : List ℕ) → length (bytes_in l) ≡ length l / 2
unfolding bytes_in
length-bytes_in [] = refl
length-bytes_in (c ∷ []) = refl
length-bytes_in (c ∷ d ∷ cs) = omega (arith, length-bytes_in cs)

-- ---- the digits of bytes from i on
pub hex-next : (bs : List ℕ) (i : ℕ) → i < length bs
    → hex (drop i bs) ≡ digit (get_or bs i 0 / 16) ∷ digit (get_or bs i 0 % 16) ∷ hex (drop (i + 1) bs)
unfolding hex
hex-next bs i h = rw (drop-cons bs i 0 h, add-one i)

pub hex-end : (bs : List ℕ) (i : ℕ) → length bs ≤ i → hex (drop i bs) ≡ []
unfolding hex
hex-end bs i h = rw (drop_of_length-le bs h)

pub length-hex : (bs : List ℕ) → length (hex bs) ≡ 2 * length bs
unfolding hex
length-hex [] = refl
length-hex (b ∷ bs) = omega (arith, length-hex bs)
