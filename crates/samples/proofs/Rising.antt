-- Sample numbers that rise strictly: the rule as a relation, and that the first fault's place agrees with it. Assumes nothing.
use mathlib.Core.Path.{◌≡◌, refl, ◌∙◌}
use mathlib.Core.Bool.{false}
use mathlib.Core.List.{List, [], ◌∷◌}
use Prim.Native.Nat.{ℕ, ◌+◌, ◌≤◌, ◌<◌}
use native.Mathlib.Omega.{arith}
use lib.Dec.{leb, ltb}
use lib.ListN.{length}
use borrow.Author.Tests.{le-ltb, ltb-false, leb-true, le-leb}
use Rattle.samples.specs.Words.{Sample}
use Rattle.samples.specs.Runs.{decode}
use Rattle.samples.specs.Judging.{first_drop}
use Rattle.samples.proofs.Runs.{Fit, by_bool, decode-fit}

-- every number is at least n and above the one before it
abbrev pub Rising : ℕ → List Sample → Type 0
Rising n [] = Unit {0}
Rising n (x ∷ s) = (n ≤ x.0) × Rising (x.0 + 1) s

pub drop-later : (n : ℕ) (x : Sample) (s : List Sample) → n ≤ x.0 → first_drop n (x ∷ s) ≡ first_drop (x.0 + 1) s + 1
unfolding first_drop
drop-later n x s h = rw (le-leb n x.0 h, first_drop)

pub drop_here : (n : ℕ) (x : Sample) (s : List Sample) → leb n x.0 ≡ false → first_drop n (x ∷ s) ≡ 0
unfolding first_drop
drop_here n x s e = rw (e, first_drop)

pub rising-all : (s : List Sample) (n : ℕ) → Rising n s → first_drop n s ≡ length s
rising-all [] n r = unfold first_drop in refl
rising-all (x ∷ s) n r = drop-later n x s r.0 ∙ omega (arith, rising-all s (x.0 + 1) r.1)

pub all-rising : (s : List Sample) (n : ℕ) → first_drop n s ≡ length s → Rising n s
all-rising [] n e = tt
all-rising (x ∷ s) n e =
    by_bool (leb n x.0)
    (λ t. let h = leb-true n x.0 t in (h, all-rising s (x.0 + 1) (omega (arith, drop-later n x s h))))
    (λ t. absurd (omega (arith, drop_here n x s t)))

pub drop-most : (s : List Sample) (n : ℕ) → first_drop n s ≤ length s
drop-most [] n = unfold first_drop in omega arith
drop-most (x ∷ s) n =
    by_bool (leb n x.0)
    (λ t. omega (arith, drop-later n x s (leb-true n x.0 t), drop-most s (x.0 + 1)))
    (λ t. omega (arith, drop_here n x s t))

-- the rule on numbers, passed
pub rises : (s : List Sample) → ltb (first_drop 0 s) (length s) ≡ false → Rising 0 s
rises s e = all-rising s 0 (omega (arith, drop-most s 0, ltb-false (first_drop 0 s) (length s) e))

pub rising-passes : (s : List Sample) → Rising 0 s → ltb (first_drop 0 s) (length s) ≡ false
rising-passes s r = le-ltb (first_drop 0 s) (length s) (omega (arith, rising-all s 0 r))

-- what words say rises, so its uncompressed form passes
pub fit-rising : (R : ℕ) (s : List Sample) (n : ℕ) → Fit R n s → Rising n s
fit-rising R [] n f = tt
fit-rising R (x ∷ s) n f = (f.0, fit-rising R s (x.0 + 1) f.2)

pub decode-rises : (R : ℕ) → 0 < R → (ws : List ℕ) → first_drop 0 (decode R ws) ≡ length (decode R ws)
decode-rises R pos ws = rising-all (decode R ws) 0 (fit-rising R (decode R ws) 0 (decode-fit R pos ws 0))
