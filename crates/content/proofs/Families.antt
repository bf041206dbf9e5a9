-- What each family's rows of the table give: its type codes have its shapes, and its lengths are those of its samples. Assumes nothing.
use mathlib.Core.Path.{◌≡◌, refl}
use mathlib.Core.Bool.{Bool, true, false, ◌||◌, false≢true}
use Prim.Native.Nat.{ℕ, ◌+◌, ◌-◌, ◌*◌, ◌/◌, ◌%◌, ◌≤◌, ◌<◌}
use native.Mathlib.Omega.{arith}
use borrow.Author.Tests.{le-leb, eq-eqb, leb-true, eqb-true, eqb-false}
use lib.Dec.{leb, eqb, lit<}
use Rattle.layout.specs.Families.{Family, wide, narrow, encoded, wide_angles, narrow_angles, type_u, type_c, has_u, has_c, sample_bytes}
use Rattle.layout.specs.Types
use Rattle.layout.specs.Types.{classes, in_class}
use Rattle.layout.specs.Types.{Length, upward, upward_or, uncompressed, compressed, listings, among, listing_of, shape_of, fitting, lengths_u}
use Rattle.rules.proofs.Bools.{both_true, or_true}
use Rattle.samples.specs.Judging.{most}

-- ---- type codes and shapes
pub shape_u : (f : Family) → has_u f ≡ true → shape_of (type_u f) ≡ uncompressed f
unfolding listing_of among listings
shape_u wide e = refl
shape_u narrow e = refl
shape_u encoded e = absurd (false≢true e)
shape_u wide_angles e = refl
shape_u narrow_angles e = refl

pub shape_c : (f : Family) → has_c f ≡ true → shape_of (type_c f) ≡ compressed f
unfolding listing_of among listings
shape_c wide e = refl
shape_c narrow e = refl
shape_c encoded e = refl
shape_c wide_angles e = absurd (false≢true e)
shape_c narrow_angles e = absurd (false≢true e)

pub code_u : (f : Family) → type_u f < 65536
code_u wide = lit< tt
code_u narrow = lit< tt
code_u encoded = lit< tt
code_u wide_angles = lit< tt
code_u narrow_angles = lit< tt

pub code_c : (f : Family) → type_c f < 65536
code_c wide = lit< tt
code_c narrow = lit< tt
code_c encoded = lit< tt
code_c wide_angles = lit< tt
code_c narrow_angles = lit< tt

-- ---- lengths
fits-upward : (least step m : ℕ) → least ≤ m → (m - least) % step ≡ 0 → fitting (upward least step) m ≡ true
fits-upward least step m h e = rw (le-leb least m h, eq-eqb ((m - least) % step) 0 e)

fits_whole : (least step more m : ℕ) → least ≤ m → (m - least) % step ≡ 0 → fitting (upward_or least step more) m ≡ true
fits_whole least step more m h e = rw (le-leb least m h, eq-eqb ((m - least) % step) 0 e)

fits_more : (least step more m : ℕ) → least ≤ m → (m - least) % step ≡ more → fitting (upward_or least step more) m ≡ true
fits_more least step more m h e =
    rw (le-leb least m h) (or_true (eqb ((m - least) % step) 0) (eq-eqb ((m - least) % step) more e))

upward-fits : (least step m : ℕ) → fitting (upward least step) m ≡ true → least ≤ m
upward-fits least step m e = leb-true least m (both_true (leb least m) _ e).0

-- the whole length of n samples of k bytes
abbrev pub plain_size : ℕ → ℕ → ℕ
plain_size k n = 32 + (n * k + (n * k) % 4)

-- one sample at least, and as many as 32,764
pub record PlainSize (l : Length) (k n : ℕ) : Type 0 where
  pub fits : fitting l (plain_size k n) ≡ true
  pub whole : plain_size k n % 4 ≡ 0
  pub small : plain_size k n ≤ 262144
  pub under : (n * k) % 4 < k

even : (n : ℕ) → n % 2 ≡ 0 → (n * 6) % 4 ≡ 0
even n e = let h : n ≡ 2 * (n / 2) = omega arith in let k : n * 6 ≡ 4 * (3 * (n / 2)) = omega arith in rw k (omega arith)

odd : (n : ℕ) → n % 2 ≡ 1 → (n * 6) % 4 ≡ 2
odd n e = let h : n ≡ 2 * (n / 2) + 1 = omega arith in let k : n * 6 ≡ 2 + 4 * (3 * (n / 2) + 1) = omega arith in rw k (omega arith)

pub plain_size_lem : (f : Family) (n : ℕ) → 1 ≤ n → n ≤ most → PlainSize (lengths_u f) (sample_bytes f) n
plain_size_lem wide n a b = record {
  fits = fits-upward 40 8 (plain_size 8 n) (omega arith) (omega arith);
  whole = omega arith;
  small = omega arith;
  under = omega arith;
}
plain_size_lem narrow n a b = record {
  fits = fits-upward 36 4 (plain_size 4 n) (omega arith) (omega arith);
  whole = omega arith;
  small = omega arith;
  under = omega arith;
}
plain_size_lem encoded n a b = record {
  fits = fits-upward 36 4 (plain_size 4 n) (omega arith) (omega arith);
  whole = omega arith;
  small = omega arith;
  under = omega arith;
}
plain_size_lem wide_angles n a b = record {
  fits = fits-upward 40 8 (plain_size 8 n) (omega arith) (omega arith);
  whole = omega arith;
  small = omega arith;
  under = omega arith;
}
plain_size_lem narrow_angles n a b = record {
  fits = by_parity (eqb (n % 2) 0) refl;
  whole = omega arith;
  small = omega arith;
  under = omega arith;
}
  where
    by_parity : (e : Bool) → eqb (n % 2) 0 ≡ e → fitting (upward_or 40 12 4) (plain_size 6 n) ≡ true
    by_parity true e =
        let z = eqb-true (n % 2) 0 e in
        let r : (n * 6) % 4 ≡ 0 = even n z in
        let m : plain_size 6 n ≡ 32 + n / 2 * 12 = omega arith in
        rw m (fits_more 40 12 4 (32 + n / 2 * 12) (omega arith) (omega arith))
    by_parity false e =
        let z = eqb-false (n % 2) 0 e in
        let o : n % 2 ≡ 1 = omega arith in
        let r : (n * 6) % 4 ≡ 2 = odd n o in
        let m : plain_size 6 n ≡ 40 + n / 2 * 12 = omega arith in
        rw m (fits_whole 40 12 4 (40 + n / 2 * 12) (omega arith) (omega arith))

-- a length that fits holds one sample
pub plain-least : (f : Family) (m : ℕ) → fitting (lengths_u f) m ≡ true → 32 + sample_bytes f ≤ m
plain-least wide m e = upward-fits 40 8 m e
plain-least narrow m e = upward-fits 36 4 m e
plain-least encoded m e = upward-fits 36 4 m e
plain-least wide_angles m e = upward-fits 40 8 m e
plain-least narrow_angles m e = omega (arith, leb-true 40 m (both_true (leb 40 m) _ e).0)

-- and as many as fill it but for the space
upward-whole : (least step m : ℕ) → fitting (upward least step) m ≡ true → (m - least) % step ≡ 0
upward-whole least step m e = eqb-true ((m - least) % step) 0 (both_true (leb least m) _ e).1

six : (m q r : ℕ) → m ≡ 32 + (q * 6 + r) → (q * 6) % 4 ≡ r → r < 6 → plain_size 6 ((m - 32) / 6) ≡ m
six m q r e p h =
    let z : m - 32 ≡ q * 6 + r = omega arith in
    let d : (m - 32) / 6 ≡ q = omega arith in
    rw d (omega (arith, p))

pub plain-whole : (f : Family) (m : ℕ) → fitting (lengths_u f) m ≡ true → plain_size (sample_bytes f) ((m - 32) / sample_bytes f) ≡ m
plain-whole wide m e = omega (arith, upward-fits 40 8 m e, upward-whole 40 8 m e)
plain-whole narrow m e = omega (arith, upward-fits 36 4 m e, upward-whole 36 4 m e)
plain-whole encoded m e = omega (arith, upward-fits 36 4 m e, upward-whole 36 4 m e)
plain-whole wide_angles m e = omega (arith, upward-fits 40 8 m e, upward-whole 40 8 m e)
plain-whole narrow_angles m e =
    let both = both_true (leb 40 m) _ e in
    let least : 40 ≤ m = leb-true 40 m both.0 in
    by (eqb ((m - 40) % 12) 0) refl least both.1
  where
    by : (b : Bool) → eqb ((m - 40) % 12) 0 ≡ b → 40 ≤ m → b || eqb ((m - 40) % 12) 4 ≡ true → plain_size 6 ((m - 32) / 6) ≡ m
    by true t h z =
        let j = (m - 40) / 12 in
        let r = eqb-true ((m - 40) % 12) 0 t in
        six m (2 * j + 1) 2 (omega arith) (odd (2 * j + 1) (omega arith)) (omega arith)
    by false t h z =
        let j = (m - 40) / 12 in
        let r = eqb-true ((m - 40) % 12) 4 z in
        six m (2 * j + 2) 0 (omega arith) (even (2 * j + 2) (omega arith)) (omega arith)

pub some_sample_bytes : (f : Family) → 4 ≤ sample_bytes f
some_sample_bytes wide = omega arith
some_sample_bytes narrow = omega arith
some_sample_bytes encoded = omega arith
some_sample_bytes wide_angles = omega arith
some_sample_bytes narrow_angles = omega arith

-- ---- the class of their codes: each is a ping's, and neither a signature's nor an end of file's
pub record PingCode (k : ℕ) : Type 0 where
  pub signs : false ≡ eqb k 65535
  pub ends : false ≡ eqb k 65534
  pub position : false ≡ in_class Types.position k
  pub sounder : false ≡ in_class Types.sounder k
  pub channel : false ≡ in_class Types.channel k
  pub ping : true ≡ in_class Types.ping k

pub class_u : (f : Family) → has_u f ≡ true → PingCode (type_u f)
unfolding in_class classes
class_u wide e = record { signs = refl; ends = refl; position = refl; sounder = refl; channel = refl; ping = refl }
class_u narrow e = record { signs = refl; ends = refl; position = refl; sounder = refl; channel = refl; ping = refl }
class_u encoded e = absurd (false≢true e)
class_u wide_angles e = record { signs = refl; ends = refl; position = refl; sounder = refl; channel = refl; ping = refl }
class_u narrow_angles e = record { signs = refl; ends = refl; position = refl; sounder = refl; channel = refl; ping = refl }

pub class_c : (f : Family) → has_c f ≡ true → PingCode (type_c f)
unfolding in_class classes
class_c wide e = record { signs = refl; ends = refl; position = refl; sounder = refl; channel = refl; ping = refl }
class_c narrow e = record { signs = refl; ends = refl; position = refl; sounder = refl; channel = refl; ping = refl }
class_c encoded e = record { signs = refl; ends = refl; position = refl; sounder = refl; channel = refl; ping = refl }
class_c wide_angles e = absurd (false≢true e)
class_c narrow_angles e = absurd (false≢true e)
