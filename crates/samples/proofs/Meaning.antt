-- What words stand for: each word within the limits stands for a value that has a word. CE-16's counts are found again. Assumes
-- nothing.
use mathlib.Core.Path.{◌≡◌, refl, sym, ap, subst, ◌∙◌}
use mathlib.Core.Bool.{false}
use Prim.Native.Nat.{ℕ, zero, suc, ◌+◌, ◌-◌, ◌*◌, ◌/◌, ◌%◌, ◌^◌, ◌≤◌, ◌<◌}
use native.Mathlib.Nat.{mul_assoc, mul-le-mul, mul-le-mul_left, pow-suc, pow-le-pow_right}
use native.Mathlib.Omega.{arith}
use lib.Dec.{ltb, lit<}
use lib.IntN.{ℤ, pos}
use borrow.Author.Tests.{lt-ltb, le-ltb, ltb-true, ltb-false}
use Rattle.order.specs.Order.{pattern_of}
use Rattle.layout.specs.Families.{Family, wide, narrow, encoded, wide_angles, narrow_angles, value_bytes, radix_of, is_bad}
use Rattle.samples.specs.Runs.{is_run}
use Rattle.samples.specs.Values.{scaled, magnitude, negated, count_of, shortened, code_of, meant, word_for}
use Rattle.samples.proofs.Runs.{by_bool}

-- a value that has a word
pub record Worded (f : Family) (v : ℕ) : Type 0 where
  pub fits : word_for f v < 256 ^ value_bytes f
  pub value : is_run (radix_of f) (word_for f v) ≡ false
  pub inside : is_bad f (word_for f v) ≡ false
  pub says : meant f (word_for f v) ≡ v

-- ---- CE-16: the word of a count is found again
pub short-here : (k c : ℕ) → c < 8192 → shortened k c ≡ c
unfolding shortened
short-here zero c h = refl
short-here (suc k) c h = rw (lt-ltb c 8192 h, shortened)

pub short-more : (k c : ℕ) → 8192 ≤ c → shortened (suc k) c ≡ 4096 + shortened k (c / 2)
unfolding shortened
short-more k c h = rw (le-ltb c 8192 h, shortened)

-- by an exponent of e + 1
short-scaled : (e k m : ℕ) → m < 4096 → e ≤ k → shortened k ((4096 + m) * 2 ^ e) ≡ 4096 * (e + 1) + m
short-scaled zero k m h l =
    let one : (4096 + m) * 2 ^ 0 ≡ 4096 + m = omega arith in
    rw one (short-here k (4096 + m) (omega arith) ∙ omega arith)
short-scaled (suc e) zero m h l = absurd (omega arith)
short-scaled (suc e) (suc k) m h l =
    let x = (4096 + m) * 2 ^ e in
    let twice : (4096 + m) * 2 ^ suc e ≡ x * 2 = ap (λ (n : ℕ). (4096 + m) * n) (pow-suc 2 e) ∙ sym (mul_assoc (4096 + m) (2 ^ e) 2) in
    let power : 2 ^ 0 ≤ 2 ^ e = pow-le-pow_right {n = 2} (lit< tt) {i = 0} {j = e} (omega arith) in
    let some : 4096 ≤ x = omega (arith, mul-le-mul_left (4096 + m) power) in
    let half : x * 2 / 2 ≡ x = omega arith in
    rw (twice, short-more k (x * 2) (omega arith), half, short-scaled e k m h (omega arith)) (omega arith)

module _ (e f m : ℕ) (whole : e * 4096 + f ≡ m) (low : f < 4096) (high : e < 8) where
  short-magnitude : shortened 6 (scaled e f) ≡ m
  short-magnitude = by_exponent e refl
    where
      by_exponent : (n : ℕ) → e ≡ n → shortened 6 (scaled e f) ≡ m
      by_exponent zero z = rw z (short-here 6 f (omega arith) ∙ omega arith)
      by_exponent (suc n) z = rw z (short-scaled n 6 f low (omega arith) ∙ omega arith)

scaled-most : (e f : ℕ) → f < 4096 → e < 8 → scaled e f ≤ 524224
scaled-most zero f low high = omega arith
scaled-most (suc e) f low high =
    let a : 4096 + f ≤ 8191 = omega arith in
    let b : 2 ^ e ≤ 2 ^ 6 = pow-le-pow_right {n = 2} (lit< tt) {i = e} {j = 6} (omega arith) in
    mul-le-mul a b

module _ (m : ℕ) (h : m < 32768) where
  pub magnitude-found : shortened 6 (magnitude m) ≡ m
  unfolding magnitude
  magnitude-found = short-magnitude (m / 4096) (m % 4096) m (omega arith) (omega arith) (omega arith)

  magnitude-most : magnitude m ≤ 524224
  unfolding magnitude
  magnitude-most = scaled-most (m / 4096) (m % 4096) (omega arith) (omega arith)

-- a word below 8000 is the word of its count; so is one above it; 8000 stands for 0
pub count_plus : (w : ℕ) → w < 32768 → count_of w ≡ pos (magnitude w)
unfolding count_of
count_plus w h = rw (lt-ltb w 32768 h, count_of)

pub count-minus : (w : ℕ) → 32768 ≤ w → count_of w ≡ negated (magnitude (w - 32768))
unfolding count_of
count-minus w h = rw (le-ltb w 32768 h, count_of)

pub code-short : (v : ℕ) → v < 2147483648 → code_of v ≡ shortened 6 v
unfolding code_of
code-short v h = rw (lt-ltb v 2147483648 h, code_of)

pub code-long : (v : ℕ) → 2147483648 ≤ v → code_of v ≡ 32768 + shortened 6 (4294967296 - v)
unfolding code_of
code-long v h = rw (le-ltb v 2147483648 h, code_of)

pub code_plus : (w : ℕ) → w < 32768 → code_of (pattern_of 4 (count_of w)) ≡ w
code_plus w h = ap (λ (z : ℤ). code_of (pattern_of 4 z)) (count_plus w h) ∙ code-short (magnitude w) (omega (arith, magnitude-most w h))
    ∙ magnitude-found w h

pub code-minus : (w n : ℕ) → 32768 ≤ w → w < 65536 → magnitude (w - 32768) ≡ suc n → code_of (pattern_of 4 (count_of w)) ≡ w
code-minus w n h l e =
    let m = w - 32768 in
    let k = magnitude-most m (omega arith) in
    let v = 4294967296 - suc n in
    let back : 4294967296 - v ≡ suc n = omega arith in
    ap (λ (z : ℤ). code_of (pattern_of 4 z)) (count-minus w h ∙ ap negated e)
    ∙ code-long v (omega arith)
    ∙ ap (λ (c : ℕ). 32768 + shortened 6 c) (back ∙ sym e)
    ∙ omega (arith, magnitude-found m (omega arith))

-- ---- every family
worded-by : (f : Family) (w v : ℕ) → meant f w ≡ v → word_for f v ≡ w → w < 256 ^ value_bytes f → is_run (radix_of f) w ≡ false
    → is_bad f w ≡ false → Worded f v
worded-by f w v m e h r b =
    record {
      fits = subst (λ (x : ℕ). x < 256 ^ value_bytes f) (sym e) h;
      value = ap (is_run (radix_of f)) e ∙ r;
      inside = ap (is_bad f) e ∙ b;
      says = ap (meant f) e ∙ m;
    }

zero-worded : Worded encoded 0
unfolding word_for code_of shortened is_run is_bad meant count_of magnitude
zero-worded = record { fits = lit< tt; value = refl; inside = refl; says = refl }

-- a word within the limits that is no run
pub meant-worded : (f : Family) (w : ℕ) → w < 256 ^ value_bytes f → is_run (radix_of f) w ≡ false → is_bad f w ≡ false → Worded f (meant f w)
unfolding meant word_for
meant-worded wide w h r b = worded-by wide w w refl refl h r b
meant-worded narrow w h r b = worded-by narrow w w refl refl h r b
meant-worded wide_angles w h r b = worded-by wide_angles w w refl refl h r b
meant-worded narrow_angles w h r b = worded-by narrow_angles w w refl refl h r b
meant-worded encoded w h r b =
    let short : w < 65536 = h in
    by_bool (ltb w 32768)
    (λ t. worded-by encoded w (meant encoded w) refl (code_plus w (ltb-true w 32768 t)) h r b)
    (λ t. let l = ltb-false w 32768 t in minus l short (magnitude (w - 32768)) refl)
  where
    minus : 32768 ≤ w → w < 65536 → (n : ℕ) → magnitude (w - 32768) ≡ n → Worded encoded (meant encoded w)
    minus l s zero e = subst (Worded encoded) (sym (ap (pattern_of 4) (count-minus w l ∙ ap negated e))) zero-worded
    minus l s (suc n) e = worded-by encoded w (meant encoded w) refl (code-minus w n l s e) h r b
