-- How far samples reach, and what fits an uncompressed ping: the widths of each family. Assumes nothing.
use mathlib.Core.Path.{◌≡◌}
use mathlib.Core.Bool.{true, false≢true}
use mathlib.Core.List.{List, [], ◌∷◌}
use Prim.Native.Nat.{ℕ, ◌+◌, ◌*◌, ◌/◌, ◌%◌, ◌≤◌, ◌<◌}
use native.Mathlib.Omega.{arith}
use Rattle.layout.specs.Families.{Family, wide, narrow, encoded, wide_angles, narrow_angles, has_u, has_c, value_bytes, sample_bytes}
use Rattle.samples.specs.Words.{Sample}
use Rattle.samples.specs.Runs.{behind}
use Rattle.samples.specs.Values.{word_for}
use Rattle.samples.proofs.Words.{Within, value_limit}
use Rattle.samples.proofs.Rising.{Rising}
use Rattle.samples.proofs.Meaning.{Worded}
use Rattle.samples.proofs.Written.{EachValue, AllWorded}

-- ---- the number behind the last sample's
behind_more : (s : List Sample) (n : ℕ) → Rising n s → n ≤ behind n s
unfolding behind
behind_more [] n r = omega arith
behind_more (x ∷ s) n r = omega (arith, behind_more s (x.0 + 1) r.1, r.0)

pub behind-within : (a b : ℕ) (s : List Sample) (n : ℕ) → Within a b s → n ≤ a → behind n s ≤ a
unfolding behind
behind-within a b [] n w h = h
behind-within a b (x ∷ s) n w h = behind-within a b s (x.0 + 1) w.2 (omega (arith, w.0))

pub within-behind : (a b : ℕ) (s : List Sample) (n : ℕ) → Rising n s → behind n s ≤ a → EachValue (λ (v : ℕ). v < b) s → Within a b s
unfolding behind
within-behind a b [] n r h v = tt
within-behind a b (x ∷ s) n r h v = (omega (arith, behind_more s (x.0 + 1) r.1), v.0, within-behind a b s (x.0 + 1) r.1 h v.1)

-- ---- a value that has a word in a family of both kinds fits the uncompressed one
word_fits : (f : Family) → has_u f ≡ true → has_c f ≡ true → (v : ℕ) → Worded f v → v < value_limit f
unfolding word_for
word_fits wide a b v w = w.fits
word_fits narrow a b v w = w.fits
word_fits encoded a b v w = absurd (false≢true a)
word_fits wide_angles a b v w = absurd (false≢true b)
word_fits narrow_angles a b v w = absurd (false≢true b)

pub words-fit : (f : Family) → has_u f ≡ true → has_c f ≡ true → (s : List Sample) → AllWorded f s → EachValue (λ (v : ℕ). v < value_limit f) s
words-fit f a b [] w = tt
words-fit f a b (x ∷ s) w = (word_fits f a b x.1 w.0, words-fit f a b s w.1)

-- ---- bytes of words and of samples, with the space behind them
by_width : (P : ℕ → Type 0) → P 4 → P 2 → (f : Family) → P (value_bytes f)
by_width P four two wide = four
by_width P four two narrow = two
by_width P four two encoded = two
by_width P four two wide_angles = two
by_width P four two narrow_angles = two

pub record Spaced (k n : ℕ) : Type 0 where
  pub whole : (k * n + (k * n) % 4) % 4 ≡ 0
  pub some : 1 ≤ n → 4 ≤ k * n + (k * n) % 4
  pub most : (m : ℕ) → m % 4 ≡ 0 → k * n ≤ m → k * n + (k * n) % 4 ≤ m

pub words-spaced : (f : Family) (n : ℕ) → Spaced (value_bytes f) n
words-spaced f n =
    by_width (λ (k : ℕ). Spaced k n)
    (record { whole = omega arith; some = λ h. omega arith; most = λ m e h. omega arith })
    (record { whole = omega arith; some = λ h. omega arith; most = λ m e h. omega arith })
    f

pub whole_words : (f : Family) (m : ℕ) → m % 4 ≡ 0 → value_bytes f * (m / value_bytes f) ≡ m
whole_words f m e = by_width (λ (k : ℕ). k * (m / k) ≡ m) (omega arith) (omega arith) f

-- where a family has both kinds, a sample is two words
pub doubled : (f : Family) → has_u f ≡ true → has_c f ≡ true → (n : ℕ)
    → (n * sample_bytes f ≡ 2 * (value_bytes f * n)) × ((n * sample_bytes f) % 4 ≡ 0)
doubled wide a b n = (omega arith, omega arith)
doubled narrow a b n = (omega arith, omega arith)
doubled encoded a b n = absurd (false≢true a)
doubled wide_angles a b n = absurd (false≢true b)
doubled narrow_angles a b n = absurd (false≢true b)
