-- How long a ping is: the samples counted word by word, and whether its last word is a run. Assumes nothing.
use mathlib.Core.Path.{◌≡◌, refl, sym, ap, ◌∙◌}
use mathlib.Core.Bool.{Bool, true, false, cond}
use mathlib.Core.List.{List, [], ◌∷◌}
use mathlib.Core.Option.{Option, some, none}
use Prim.Native.Nat.{ℕ, zero, suc, ◌+◌, ◌-◌, ◌*◌, ◌/◌, ◌%◌, ◌≤◌, ◌<◌}
use native.Mathlib.Nat.{mul-div_cancel_left}
use native.Mathlib.Omega.{arith}
use mir.Val.{bool_byte}
use lib.ListN.{length, take, drop, get_or}
use lib.Seq.{drop-drop}
use Rattle.order.specs.Order.{num_of}
use Rattle.samples.specs.Words.{words, all_words}
use Rattle.samples.specs.inner.Lists.{numbered}
use Rattle.samples.specs.Runs.{is_run, run_length, samples_from, ends_from, ping_length, behind}
use Rattle.samples.proofs.Words.{word_at}
use Rattle.samples.proofs.Runs.{by_bool, run_short, samples-run, samples-value}

-- ---- the last word
last_of : (R k : ℕ) (o b : Bool) (n : ℕ) (d : List ℕ) → ends_from R b (words k o (suc n) d) ≡ is_run R (num_of o (take k (drop (k * n) d)))
unfolding ends_from words
last_of R k o b zero d = let z : k * 0 ≡ 0 = omega arith in ap (λ (i : ℕ). is_run R (num_of o (take k (drop i d)))) (sym z)
last_of R k o b (suc n) d =
    let z : k + k * n ≡ k * suc n = omega arith in
    last_of R k o (is_run R (num_of o (take k d))) n (drop k d)
    ∙ ap (λ (l : List ℕ). is_run R (num_of o (take k l))) (drop-drop (k * n) k d ∙ ap (λ (i : ℕ). drop i d) z)

-- a part of n + 1 words
pub ends_last : (R k n : ℕ) → 0 < k → (o : Bool) (part : List ℕ) → length part ≡ k * suc n
    → is_run R (word_at k o part (length part - k)) ≡ ends_from R false (all_words k o part)
unfolding all_words
ends_last R k n pos o part e =
    let many : length part / k ≡ suc n = ap (λ (i : ℕ). i / k) e ∙ mul-div_cancel_left (suc n) pos in
    let place : k * n ≡ length part - k = omega arith in
    sym (ap (λ (i : ℕ). ends_from R false (words k o i part)) many
    ∙ last_of R k o false n part
    ∙ ap (λ (i : ℕ). is_run R (word_at k o part i)) place)

-- ---- a ping's length, by whether its last word is a run
by_end : (b : Bool) (n : ℕ) → elim b as (λ _. Option ℕ) [ true ↦ some n | false ↦ none ] ≡ cond b (some n) none
by_end true n = refl
by_end false n = refl

module _ (R : ℕ) where
  pub length-by : (ws : List ℕ) (b : Bool) → ends_from R false ws ≡ b → ping_length R ws ≡ cond b (some (samples_from R 0 ws)) none
  unfolding ping_length
  length-by ws b e = by_end (ends_from R false ws) (samples_from R 0 ws) ∙ ap (λ (c : Bool). cond c (some (samples_from R 0 ws)) none) e

  -- ---- a word more: a run passes its samples, a value one
  pub samples-turn : 0 < R → (n w : ℕ) (ws : List ℕ) (run : Bool) → run ≡ is_run R w
      → samples_from R (n + (bool_byte run * (w % R) + 1)) ws ≡ samples_from R n (w ∷ ws)
  unfolding run_length
  samples-turn pos n w ws true e =
      let z : n + (bool_byte true * (w % R) + 1) ≡ n + (w % R + 1) = omega arith in
      ap (λ (i : ℕ). samples_from R i ws) z ∙ sym (samples-run R pos n w ws (sym e))
  samples-turn pos n w ws false e =
      let z : n + (bool_byte false * (w % R) + 1) ≡ n + 1 = omega arith in
      ap (λ (i : ℕ). samples_from R i ws) z ∙ sym (samples-value R pos n w ws (sym e))

-- ---- a word passes at most as many samples as the radix says
pub samples-few : (R : ℕ) → 0 < R → (ws : List ℕ) (n : ℕ) → samples_from R n ws ≤ n + R * length ws
samples-few R pos [] n = unfold samples_from in omega arith
samples-few R pos (w ∷ ws) n =
    by_bool (is_run R w)
    (λ e. omega (arith, samples-run R pos n w ws e, samples-few R pos ws (n + run_length R w), run_short R pos w))
    (λ e. omega (arith, samples-value R pos n w ws e, samples-few R pos ws (n + 1)))

-- ---- the number behind the last
pub behind-none : (ns : List ℕ) → length ns ≡ 0 → behind 0 (numbered ns) ≡ 0
unfolding behind
behind-none [] e = refl
behind-none (n ∷ ns) e = absurd (omega arith)

pub behind-last : (ns : List ℕ) (m : ℕ) → 0 < length ns → behind m (numbered ns) ≡ get_or ns (length ns - 1) 0 + 1
unfolding behind
behind-last [] m h = absurd (omega arith)
behind-last (n ∷ []) m h = refl
behind-last (n ∷ k ∷ ns) m h =
    let z : suc (length ns) ≡ suc (suc (length ns)) - 1 = omega arith in
    let y : suc (length ns) - 1 ≡ length ns = omega arith in
    behind-last (k ∷ ns) (n + 1) (omega arith)
    ∙ ap (λ (i : ℕ). get_or (k ∷ ns) i 0 + 1) y
    ∙ ap (λ (i : ℕ). get_or (n ∷ k ∷ ns) i 0 + 1) z
