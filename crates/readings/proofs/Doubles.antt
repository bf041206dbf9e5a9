-- Doubles of whole numbers: converting without loss and dividing once rounds once. Assumes nothing.
use mathlib.Core.Path.{◌≡◌, refl, sym, ap, subst, ◌∙◌}
use mathlib.Core.Bool.{Bool, true, false}
use Prim.Native.Nat.{ℕ, suc, ◌*◌, ◌^◌, ◌≤◌, ◌<◌}
use native.Mathlib.Nat.{mul-one, mul-pos, mul_comm, mul_assoc, lt_irrefl, le_of_lt, zero-mul}
use borrow.Author.Tests.{ne_eqb}
use lib.IntN.{ℤ, pos, negsuc}
use lib.Signed.{mag}
use lib.Ieee.{Float, nan, inf, fin, binary64, round, div, of_int, of_bits, up, down, unlike}
use lib.Ieee.Exact.{HasValue}
use lib.Ieee.Back.{round_whole}
use lib.Ieee.Fits.{down_pos}
use lib.Ieee.Scale.{round_same}
use Rattle.readings.specs.Double.{double_of}
use Rattle.readings.specs.Reading.{no_double}

-- the sign of a quotient by a number that isn't negative
same_sign : (t : Bool) → unlike t false ≡ t
same_sign true = refl
same_sign false = refl

-- doubles that hold whole numbers exactly: their quotient rounds once
quotient_once : (x y : Float) (s : Bool) (a d : ℕ) → HasValue x s a 1 → HasValue y false d 1 → 0 < d
    → div binary64 x y ≡ round binary64 s a d
unfolding div
quotient_once nan y s a d hx hy p = absurd hx
quotient_once (inf t) y s a d hx hy p = absurd hx
quotient_once (fin t m e) nan s a d hx hy p = absurd hy
quotient_once (fin t m e) (inf u) s a d hx hy p = absurd hy
quotient_once (fin t m e) (fin u n k) s a d hx hy p =
    let ex : m * up e ≡ a * down e = sym (mul-one (m * up e)) ∙ hx.1 in
    let ey : n * up k ≡ d * down k = sym (mul-one (n * up k)) ∙ hy.1 in
    let q : 0 < d * down k = mul-pos p (down_pos k) in
    let z : n ≡ 0 → ⊥ = λ i. lt_irrefl 0 (subst (λ (w : ℕ). 0 < w) (sym ey ∙ ap (λ (w : ℕ). w * up k) i ∙ zero-mul (up k)) q) in
    let turn : down e * (down k * d) ≡ d * down k * down e =
    mul_comm (down e) (down k * d) ∙ ap (λ (w : ℕ). w * down e) (mul_comm (down k) d) in
    rw (ne_eqb n 0 z, ex, ey, hx.0, hy.0, same_sign s)
    (round_same binary64 s (a * down e * down k) (d * down k * down e) a d (mul-pos q (down_pos e)) p
    (mul_assoc (a * down e) (down k) d ∙ mul_assoc a (down e) (down k * d) ∙ ap (λ (w : ℕ). a * w) turn))

-- what conversion and division give
pub one_rounding : (v : ℤ) (d : ℕ) → mag v < 2 ^ 53 → 0 < d → d ≤ 2 ^ 53
    → div binary64 (of_int binary64 v) (of_int binary64 (pos d)) ≡ double_of v d
unfolding of_int double_of
one_rounding (pos n) d h p l =
    quotient_once _ _ false n d (round_whole binary64 false n (le_of_lt h)) (round_whole binary64 false d l) p
one_rounding (negsuc n) d h p l =
    quotient_once _ _ true (suc n) d (round_whole binary64 true (suc n) h) (round_whole binary64 false d l) p

-- the literal 0.0
pub nought : of_bits binary64 0 ≡ no_double
unfolding of_bits
nought = refl
