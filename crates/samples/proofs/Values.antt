-- Laws of the values among words: how many, the first outside the limits, and how far their numbers go. Assumes nothing.
use mathlib.Core.Path.{◌≡◌, refl}
use mathlib.Core.Bool.{true, false}
use mathlib.Core.List.{List, [], ◌∷◌}
use Prim.Native.Nat.{ℕ, ◌+◌, ◌*◌, ◌≤◌, ◌<◌}
use native.Mathlib.Omega.{arith}
use lib.ListN.{length}
use Rattle.layout.specs.Families.{Family, is_bad}
use Rattle.samples.specs.Runs.{is_run, run_length, decode_from, values, first_bad}
use Rattle.samples.proofs.Words.{Within}
use Rattle.samples.specs.Words.{Below}
use Rattle.samples.proofs.Runs.{decode-run, decode-value, run_short, by_bool}

module _ (R : ℕ) where
  pub values-run : (w : ℕ) (ws : List ℕ) → is_run R w ≡ true → values R (w ∷ ws) ≡ values R ws
  unfolding values
  values-run w ws e = rw (e, values)

  pub values-value : (w : ℕ) (ws : List ℕ) → is_run R w ≡ false → values R (w ∷ ws) ≡ values R ws + 1
  unfolding values
  values-value w ws e = rw (e, values)

module _ (f : Family) where
  pub bad-here : (w : ℕ) (ws : List ℕ) → is_bad f w ≡ true → first_bad f (w ∷ ws) ≡ 0
  unfolding first_bad
  bad-here w ws e = rw (e, first_bad)

  pub bad-later : (w : ℕ) (ws : List ℕ) → is_bad f w ≡ false → first_bad f (w ∷ ws) ≡ first_bad f ws + 1
  unfolding first_bad
  bad-later w ws e = rw (e, first_bad)

module _ (R : ℕ) (pos : 0 < R) where
  -- as many samples as values, wherever the words start
  pub length-decode : (ws : List ℕ) (n : ℕ) → length (decode_from R n ws) ≡ values R ws
  length-decode [] n = unfold decode_from values in refl
  length-decode (w ∷ ws) n =
      by_bool (is_run R w)
      (λ e. rw (decode-run R pos n w ws e, values-run R w ws e) (length-decode ws (n + run_length R w)))
      (λ e. rw (decode-value R pos n w ws e, values-value R w ws e) (omega (arith, length-decode ws (n + 1))))

  -- numbers stay below the words times R: 65527 words of 65536 stay below 2 ^ 32
  pub decode-within : (m b : ℕ) (ws : List ℕ) (n : ℕ) → Below b ws → n + R * length ws ≤ m → Within m b (decode_from R n ws)
  decode-within m b [] n f h = unfold decode_from in tt
  decode-within m b (w ∷ ws) n f h =
      by_bool (is_run R w)
      (λ e. rw (decode-run R pos n w ws e) (decode-within m b ws (n + run_length R w) f.1 (omega (arith, run_short R pos w))))
      (λ e. rw (decode-value R pos n w ws e) (omega arith, f.0, decode-within m b ws (n + 1) f.1 (omega arith)))

-- the first bad word is one of them, or none is bad
pub bad-most : (f : Family) (ws : List ℕ) → first_bad f ws ≤ length ws
bad-most f [] = unfold first_bad in omega arith
bad-most f (w ∷ ws) =
    by_bool (is_bad f w)
    (λ t. omega (arith, bad-here f w ws t))
    (λ t. omega (arith, bad-later f w ws t, bad-most f ws))
