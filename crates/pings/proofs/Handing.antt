-- Samples or angles handed over into lent slices, or refused for want of room. Assumes nothing.
use mathlib.Core.Path.{◌≡◌, refl, ap, ◌∙◌}
use mathlib.Core.Bool.{true, false, ◌||◌}
use mathlib.Core.List.{List, [], ◌∷◌, ◌++◌, map}
use Prim.Native.Nat.{ℕ, suc, ◌+◌, ◌≤◌, ◌<◌}
use native.Mathlib.Omega.{arith}
use borrow.Author.Tests.{lt-ltb, le-ltb}
use lib.Dec.{ltb}
use lib.IntN.{ℤ}
use lib.ListN.{length, drop}
use lib.Seq.{sets, sets-eq}
use Rattle.rules.proofs.Bools.{or_true}
use Rattle.layout.specs.Answer.{Refused}
use Rattle.layout.specs.Answers.{accepting}
use Rattle.samples.specs.Words.{Sample}
use Rattle.samples.specs.Lists.{numbers_of, values_of, alongship_of, athwartship_of}
use Rattle.samples.specs.inner.Lists.{Room}
use Rattle.samples.specs.inner.Narrow.{AngleRoom}
use Rattle.pings.specs.inner.Handing.{Handed, HandedAngles}

-- ---- entries written over the first of a slice
over : {A : Type 0} (l xs : List A) → length xs ≤ length l → sets l 0 xs ≡ xs ++ drop (length xs) l
over l xs h = let z : 0 + length xs ≡ length xs = omega arith in sets-eq xs l 0 (omega arith) ∙ ap (λ (k : ℕ). xs ++ drop k l) z

length-map : {B : Type 0} (g : Sample → B) (xs : List Sample) → length (map g xs) ≡ length xs
length-map g [] = refl
length-map g (x ∷ xs) = ap suc (length-map g xs)

written : {B : Type 0} (g : Sample → B) (s : List Sample) (l : List B) {m : List B} → length s ≤ length l → m ≡ sets l 0 (map g s)
    → m ≡ map g s ++ drop (length (map g s)) l
written g s l h e = e ∙ over l (map g s) (rw (length-map g s) h)

-- ---- samples
module _ (w : ℕ) (s : List Sample) (ns : List ℕ) (vs : List ℤ) where
  short : ltb (length ns) (length s) || ltb (length vs) (length s) ≡ true → Handed w s ns vs (Refused 19 0) ns vs
  short e = record { answer = rw e; numbers_left = rw e; values_left = rw e }

  pub short-numbers : length ns < length s → Handed w s ns vs (Refused 19 0) ns vs
  short-numbers h = short (rw (lt-ltb _ _ h))

  pub short-values : length vs < length s → Handed w s ns vs (Refused 19 0) ns vs
  short-values h = short (or_true (ltb (length ns) (length s)) (lt-ltb _ _ h))

  pub handed : Room s ns vs → {ms : List ℕ} {us : List ℤ} → ms ≡ sets ns 0 (numbers_of s) → us ≡ sets vs 0 (values_of w s)
      → Handed w s ns vs (accepting 1 (length s)) ms us
  handed r a b =
      let e : ltb (length ns) (length s) || ltb (length vs) (length s)
      ≡ false = rw (le-ltb (length ns) (length s) r.for_numbers, le-ltb (length vs) (length s) r.for_values) in
      record {
        answer = rw e;
        numbers_left = rw e (written _ s ns r.for_numbers a);
        values_left = rw e (written _ s vs r.for_values b);
      }

-- ---- angles
module _ (s : List Sample) (ns : List ℕ) (xs ys : List ℤ) where
  lacking : ltb (length ns) (length s) || (ltb (length xs) (length s) || ltb (length ys) (length s)) ≡ true
      → HandedAngles s ns xs ys (Refused 19 0) ns xs ys
  lacking e = record { answer = rw e; numbers_left = rw e; alongship_left = rw e; athwartship_left = rw e }

  pub lacking-numbers : length ns < length s → HandedAngles s ns xs ys (Refused 19 0) ns xs ys
  lacking-numbers h = lacking (rw (lt-ltb _ _ h))

  pub lacking-alongship : length xs < length s → HandedAngles s ns xs ys (Refused 19 0) ns xs ys
  lacking-alongship h = lacking (or_true (ltb (length ns) (length s)) (rw (lt-ltb _ _ h)))

  pub lacking-athwartship : length ys < length s → HandedAngles s ns xs ys (Refused 19 0) ns xs ys
  lacking-athwartship h =
      lacking (or_true (ltb (length ns) (length s)) (or_true (ltb (length xs) (length s)) (lt-ltb _ _ h)))

  pub handed-angles : AngleRoom s ns xs ys → {ms : List ℕ} {us ws : List ℤ} → ms ≡ sets ns 0 (numbers_of s)
      → us ≡ sets xs 0 (alongship_of s) → ws ≡ sets ys 0 (athwartship_of s) → HandedAngles s ns xs ys (accepting 1 (length s)) ms us ws
  handed-angles r a b c =
      let e : ltb (length ns) (length s) || (ltb (length xs) (length s) || ltb (length ys) (length s)) ≡ false = rw (
        le-ltb (length ns) (length s) r.for_numbers,
        le-ltb (length xs) (length s) r.for_alongship,
        le-ltb (length ys) (length s) r.for_athwartship,
      ) in
      record {
        answer = rw e;
        numbers_left = rw e (written _ s ns r.for_numbers a);
        alongship_left = rw e (written _ s xs r.for_alongship b);
        athwartship_left = rw e (written _ s ys r.for_athwartship c);
      }
