-- Samples of two angles: judged by their numbers, and handed over one at a time into three slices. Assumes nothing.
use mathlib.Core.Path.{◌≡◌, refl, sym, ap, subst, ◌∙◌}
use mathlib.Core.Logic.{◌⊎◌, ⊎_elim}
use mathlib.Core.Bool.{Bool}
use Rattle.std.specs.Simd.{first_chunks}
use mathlib.Core.List.{List, [], ◌∷◌}
use Prim.Native.Nat.{ℕ, zero, suc, ◌+◌, ◌-◌, ◌*◌, ◌/◌, ◌%◌, ◌≤◌, ◌<◌}
use native.Mathlib.Omega.{arith}
use lib.Dec.{leb, ltb}
use lib.IntN.{ℤ}
use lib.ListN.{length, take, drop, set, length-set}
use lib.Seq.{sets, drop-drop}
use borrow.Author.Tests.{leb-true}
use Rattle.order.specs.Order.{num_of, signed_of}
use Rattle.rules.specs.Rules.{◌⇒◌}
use Rattle.layout.specs.Verdict.{Verdict}
use Rattle.layout.specs.Answers.{judged, ◌byte◌}
use Rattle.layout.specs.Families.{wide, wide_angles, sample_bytes}
use Rattle.samples.specs.Words.{Sample, joined, sample_of, samples, all_samples}
use Rattle.samples.specs.Lists.{numbers_of, alongship_of, athwartship_of}
use Rattle.samples.specs.inner.Narrow.{AngleRoom}
use Rattle.samples.specs.Judging.{most, first_drop, first_sample, judged_samples}
use Rattle.samples.proofs.Words.{word_at, samples-many}
use Rattle.samples.proofs.Runs.{by_bool}
use Rattle.samples.proofs.Chunks.{samples_on, samples_first}
use Rattle.samples16.specs.inner.Sizes.{angles_of}
use Rattle.samples.proofs.Rising.{drop-later, drop_here}

-- ---- angles behind numbers of four bytes are judged like values
same_drop : (o : Bool) (n m : ℕ) (d : List ℕ) → first_drop m (samples wide o n d) ≡ first_drop m (samples wide_angles o n d)
unfolding samples first_drop
same_drop o zero m d = refl
same_drop o (suc n) m d =
    let x = num_of o (take 4 d) in
    let s = samples wide o n (drop 8 d) in
    let r = samples wide_angles o n (drop 8 d) in
    by_bool (leb m x)
    (λ e.
    let h = leb-true m x e in
    drop-later m (sample_of wide o d) s h
    ∙ ap (λ (k : ℕ). k + 1) (same_drop o n (x + 1) (drop 8 d))
    ∙ sym (drop-later m (sample_of wide_angles o d) r h))
    (λ e. drop_here m (sample_of wide o d) s e ∙ sym (drop_here m (sample_of wide_angles o d) r e))

-- what the rules say, by how many samples there are and where the first falls
abbrev said : ℕ → ℕ → Verdict
said n fall = judged ((ltb most n ⇒ 11 byte 0) ∷ (ltb fall n ⇒ 23 byte (first_sample + 8 * fall)) ∷ [])

pub judged-wide : (o : Bool) (part : List ℕ) → judged_samples wide o part ≡ judged_samples wide_angles o part
unfolding judged_samples all_samples
judged-wide o part =
    let many = samples-many wide o part ∙ sym (samples-many wide_angles o part) in
    λ i. said (many i) (same_drop o (length part / 8) 0 part i)

-- ---- the two angles of a sample: the words behind its number, of k bytes
pub angles-at : (k : ℕ) (o : Bool) (part : List ℕ) (p x y : ℕ) → x < 65536 → x ≡ word_at 2 o part (p + k) → y ≡ word_at 2 o part (p + (k + 2))
    → (joined 2 2 o (drop k (drop p part)) % 65536 ≡ x) × (joined 2 2 o (drop k (drop p part)) / 65536 ≡ y)
unfolding joined
angles-at k o part p x y h ex ey =
    let a : x ≡ num_of o (take 2 (drop k (drop p part))) = ex ∙ ap (λ (l : List ℕ). num_of o (take 2 l)) (sym (drop-drop k p part)) in
    let z : p + k + 2 ≡ p + (k + 2) = omega arith in
    let place = ap (drop 2) (drop-drop k p part) ∙ drop-drop 2 (p + k) part ∙ ap (λ (n : ℕ). drop n part) z in
    let b : y ≡ num_of o (take 2 (drop 2 (drop k (drop p part)))) = ey ∙ ap (λ (l : List ℕ). num_of o (take 2 l)) (sym place) in
    rw (← a, ← b) (omega arith, omega arith)

-- ---- samples s are to stand in the slices ns₀, xs₀ and ys₀; those left are still to come, from entry j on
pub record Angled (s left : List Sample) (ns₀ : List ℕ) (xs₀ ys₀ : List ℤ) (ns : List ℕ) (xs ys : List ℤ) (j : ℕ) : Type 0 where
  pub long_numbers : length ns ≡ length ns₀
  pub long_alongship : length xs ≡ length xs₀
  pub long_athwartship : length ys ≡ length ys₀
  pub room_numbers : j + length left ≤ length ns₀
  pub room_alongship : j + length left ≤ length xs₀
  pub room_athwartship : j + length left ≤ length ys₀
  pub numbers : sets ns j (numbers_of left) ≡ sets ns₀ 0 (numbers_of s)
  pub alongship : sets xs j (alongship_of left) ≡ sets xs₀ 0 (alongship_of s)
  pub athwartship : sets ys j (athwartship_of left) ≡ sets ys₀ 0 (athwartship_of s)

pub angled-begin : {s : List Sample} {ns : List ℕ} {xs ys : List ℤ} → AngleRoom s ns xs ys → Angled s s ns xs ys ns xs ys 0
angled-begin r =
    record {
      long_numbers = refl;
      long_alongship = refl;
      long_athwartship = refl;
      room_numbers = omega (arith, r.for_numbers);
      room_alongship = omega (arith, r.for_alongship);
      room_athwartship = omega (arith, r.for_athwartship);
      numbers = refl;
      alongship = refl;
      athwartship = refl;
    }

module _ {s : List Sample} {ns₀ : List ℕ} {xs₀ ys₀ : List ℤ} {ns : List ℕ} {xs ys : List ℤ} {j : ℕ} where
  -- by another name for what is left
  pub angled_as : {left rest : List Sample} → left ≡ rest → Angled s left ns₀ xs₀ ys₀ ns xs ys j → Angled s rest ns₀ xs₀ ys₀ ns xs ys j
  angled_as e h = subst (λ (l : List Sample). Angled s l ns₀ xs₀ ys₀ ns xs ys j) e h

  -- one more handed over, its angles u and v as the code has them
  pub angled-one : {r : List Sample} (x : Sample) (u v : ℤ) → u ≡ signed_of 2 (x.1 % 65536) → v ≡ signed_of 2 (x.1 / 65536)
      → Angled s (x ∷ r) ns₀ xs₀ ys₀ ns xs ys j → Angled s r ns₀ xs₀ ys₀ (set ns j x.0) (set xs j u) (set ys j v) (j + 1)
  angled-one x u v a b h =
      let e : j + 1 ≡ suc j = omega arith in
      record {
        long_numbers = length-set ns j x.0 ∙ h.long_numbers;
        long_alongship = length-set xs j u ∙ h.long_alongship;
        long_athwartship = length-set ys j v ∙ h.long_athwartship;
        room_numbers = omega (arith, h.room_numbers);
        room_alongship = omega (arith, h.room_alongship);
        room_athwartship = omega (arith, h.room_athwartship);
        numbers = rw e h.numbers;
        alongship = rw (e, a) h.alongship;
        athwartship = rw (e, b) h.athwartship;
      }

-- ---- samples by their bytes
module _ (n : ℕ) (h : (n ≡ 8) ⊎ (n ≡ 6)) where
  sized : sample_bytes (angles_of n) ≡ n
  sized =
      let by : ℕ → Type 0 = λ m. sample_bytes (angles_of m) ≡ m in
      let eight : by 8 = refl in
      let six : by 6 = refl in
      ⊎_elim (λ e. subst by (sym e) eight) (λ e. subst by (sym e) six) h

  pub angled-chunks : (o : Bool) (part : List ℕ) (cs : List (List ℕ)) → cs ≡ first_chunks n (length part / n) part
      → samples_on (sample_of (angles_of n) o) cs 0 ≡ all_samples (angles_of n) o part
  angled-chunks o part cs e =
      samples_first (angles_of n) o part cs (subst (λ (k : ℕ). cs ≡ first_chunks k (length part / k) part) (sym sized) e)

  -- a sample is its number, of all bytes but the last four, and its angles
  pub angled-sample : (o : Bool) (c : List ℕ) → sample_of (angles_of n) o c ≡ (num_of o (take (n - 4) c), joined 2 2 o (drop (n - 4) c))
  angled-sample o c =
      let by : ℕ → Type 0 = λ m. sample_of (angles_of m) o c ≡ (num_of o (take (m - 4) c), joined 2 2 o (drop (m - 4) c)) in
      let eight : by 8 = refl in
      let six : by 6 = refl in
      ⊎_elim (λ e. subst by (sym e) eight) (λ e. subst by (sym e) six) h

  pub angled-values : (o : Bool) (c : List ℕ) (x y : ℕ) → x < 65536 → x ≡ num_of o (take 2 (drop (n - 4) c)) → y ≡ num_of o (take 2 (drop (n - 2) c))
      → ((sample_of (angles_of n) o c).1 % 65536 ≡ x) × ((sample_of (angles_of n) o c).1 / 65536 ≡ y)
  angled-values o c x y l ex ey =
      let fits = ⊎_elim (λ (e : n ≡ 8). let k : n - 4 + 2 ≡ n - 2 = omega arith in k) (λ (e : n ≡ 6). let k : n - 4 + 2 ≡ n - 2 = omega arith in k) h in
      let a : 0 + (n - 4) ≡ n - 4 = omega arith in
      let b : 0 + (n - 4 + 2) ≡ n - 2 = omega (arith, fits) in
      let both = angles-at (n - 4) o c 0 x y l (ex ∙ ap (λ (m : ℕ). num_of o (take 2 (drop m c))) (sym a))
      (ey ∙ ap (λ (m : ℕ). num_of o (take 2 (drop m c))) (sym b)) in
      let value = ap (λ (s : Sample). s.1) (angled-sample o c) in
      (ap (λ (v : ℕ). v % 65536) value ∙ both.0, ap (λ (v : ℕ). v / 65536) value ∙ both.1)
