-- Reading may stop early: the first 196,609 characters of a text settle its input, and so what either program prints. Assumes nothing.
use mathlib.Core.Path.{◌≡◌, refl, sym, ap, ap₂, ◌∙◌}
use mathlib.Core.Bool.{true}
use mathlib.Core.List.{List, [], ◌∷◌}
use Prim.Native.Nat.{ℕ, zero, suc, ◌+◌, ◌-◌, ◌*◌, ◌/◌, ◌≤◌, ◌<◌}
use native.Mathlib.Nat.{zero-add, suc-add}
use native.Mathlib.Omega.{arith}
use lib.Dec.{eqb, ltb}
use lib.ListN.{length, take, drop, length-take, length-drop}
use lib.Seq.{take-take, length-take-le, take-nil}
use borrow.Author.Tests.{ltb-true, ltb-false}
use Rattle.hexlines.specs.Lines.{room, line_feed, lines_of, bytes_in, is_bad, bad, joined, input_from, input_of, enough}
use Rattle.hexlines.specs.inner.Reading.{line_length}
use Rattle.hexlines.specs.Programs.{file_program, normal_file, tuple_program, normal_tuple}
use Rattle.hexlines.proofs.Digits.{by_bool}
use Rattle.hexlines.proofs.Lines.{ends, goes_on, line-within, lines_cons}
use Rattle.hexlines.proofs.Reading.{good, input_bad, input_good}

-- ---- the first line of a text that is cut
drop-take : (m j : ℕ) (l : List ℕ) → drop m (take (m + j) l) ≡ take j (drop m l)
drop-take zero j l = rw zero-add
drop-take (suc m) j [] = rw (suc-add, take-nil)
drop-take (suc m) j (x ∷ l) = rw suc-add (drop-take m j l)

-- cut in the line
cut-within : (t : List ℕ) (k : ℕ) → k ≤ line_length t → line_length (take k t) ≡ k
cut-within [] k h = unfold line_length in rw take-nil (omega arith)
cut-within (c ∷ cs) zero h = unfold line_length in refl
cut-within (c ∷ cs) (suc k) h =
    by_bool (eqb c line_feed) (λ e. absurd (omega (arith, ends c cs e)))
    (λ e. goes_on c (take k cs) e ∙ omega (arith, cut-within cs k (omega (arith, goes_on c cs e))))

-- cut behind it
cut-behind : (t : List ℕ) (k : ℕ) → line_length t < k → line_length (take k t) ≡ line_length t
cut-behind t zero h = absurd (omega arith)
cut-behind [] (suc k) h = refl
cut-behind (c ∷ cs) (suc k) h =
    by_bool (eqb c line_feed) (λ e. ends c (take k cs) e ∙ sym (ends c cs e))
    (λ e. goes_on c (take k cs) e ∙ ap (λ (n : ℕ). n + 1) (cut-behind cs k (omega (arith, goes_on c cs e))) ∙ sym (goes_on c cs e))

-- ---- a line that takes the rest of what is enough is bad
long-bad : (n : ℕ) (l : List ℕ) → n ≤ room → enough ≤ 3 * n + length l → is_bad n l ≡ true
long-bad n l h g = by_bool (is_bad n l) (λ e. e) (λ e. let p = good n l e in absurd (omega arith))

first-long : (i n : ℕ) (t : List ℕ) → n ≤ room → enough ≤ 3 * n + line_length t → input_from i n (lines_of t) ≡ bad i
first-long i n t h g =
    let l = take (line_length t) t in
    let e : length l ≡ line_length t = length-take-le (line_length t) t (line-within t) in
    ap (input_from i n) (lines_cons t (omega (arith, line-within t))) ∙ input_bad n l _ i (long-bad n l h (omega arith))

-- ---- text of which k characters are read, n bytes being decoded before it
abbrev Same : ℕ → ℕ → ℕ → List ℕ → Type 0
Same i n k t = input_from i n (lines_of (take k t)) ≡ input_from i n (lines_of t)

same_none : (i n k : ℕ) (t : List ℕ) → length t ≤ 0 → Same i n k t
same_none i n k [] l = rw take-nil
same_none i n k (c ∷ cs) l = absurd (omega arith)

module _ (i n k : ℕ) (t : List ℕ) (h : n ≤ room) (g : enough ≤ 3 * n + k) where
  -- its first line is cut
  same-cut : k ≤ line_length t → Same i n k t
  same-cut e = first-long i n (take k t) h (omega (arith, cut-within t k e)) ∙ sym (first-long i n t h (omega arith))

  -- its first line is whole
  module _ (some : 0 < length t) (e : line_length t < k) where
    abbrev end : ℕ
    end = line_length t

    first : lines_of (take k t) ≡ take end t ∷ lines_of (take (k - (end + 1)) (drop (end + 1) t))
    first =
        let z : k ≡ end + 1 + (k - (end + 1)) = omega arith in
        let le : end ≤ k = omega arith in
        lines_cons (take k t) (simp length-take (omega arith))
        ∙ ap (λ (x : ℕ). take x (take k t) ∷ lines_of (drop (x + 1) (take k t))) (cut-behind t k e)
        ∙ ap₂ (λ (a b : List ℕ). a ∷ lines_of b) (take-take end k t le)
        (ap (λ (x : ℕ). drop (end + 1) (take x t)) z ∙ drop-take (end + 1) (k - (end + 1)) t)

    same_whole : ((n' k' : ℕ) → n' ≤ room → enough ≤ 3 * n' + k' → Same (i + 1) n' k' (drop (end + 1) t)) → Same i n k t
    same_whole rest =
        let l = take end t in
        let long : length l ≡ end = length-take-le end t (line-within t) in
        let left : input_from i n (lines_of (take k t)) ≡ input_from i n (l ∷ _) = ap (input_from i n) first in
        let right : input_from i n (lines_of t) ≡ input_from i n (l ∷ _) = ap (input_from i n) (lines_cons t some) in
        by_bool (is_bad n l) (λ b. left ∙ input_bad n l _ i b ∙ sym (right ∙ input_bad n l _ i b))
        (λ b.
        let p = good n l b in
        left
        ∙ input_good n l _ i b
        ∙ ap (joined (bytes_in l)) (rest (n + length l / 2) (k - (end + 1)) p.within (omega (arith, p.some, p.even)))
        ∙ sym (right ∙ input_good n l _ i b))

stops-from : (m i n k : ℕ) (t : List ℕ) → length t ≤ m → n ≤ room → enough ≤ 3 * n + k → Same i n k t
stops-from zero i n k t l h g = same_none i n k t l
stops-from (suc m) i n k t l h g =
    by_bool (ltb 0 (length t))
    (λ s.
    by_bool (ltb (line_length t) k)
    (λ e.
    same_whole i n k t h g (ltb-true _ _ s) (ltb-true _ _ e)
    (λ n' k' h' g'. stops-from m (i + 1) n' k' (drop (line_length t + 1) t) (omega (arith, length-drop (line_length t + 1) t)) h' g'))
    (λ e. same-cut i n k t h g (ltb-false _ _ e)))
    (λ s. same_none i n k t (ltb-false _ _ s))

-- ---- whatever follows the first characters, there being enough, doesn't matter
module _ (text : List ℕ) where
  pub stops : input_of (take enough text) ≡ input_of text
  stops = stops-from (length text) 1 0 enough text (omega arith) (omega arith) (omega arith)

  pub file-stops : normal_file (take enough text) ≡ normal_file text
  unfolding normal_file
  file-stops = ap file_program stops

  pub tuple-stops : normal_tuple (take enough text) ≡ normal_tuple text
  unfolding normal_tuple
  tuple-stops = ap tuple_program stops
