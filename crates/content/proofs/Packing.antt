-- Which compressed pings stay so in their normal form, by their words. Assumes nothing.
use mathlib.Core.Path.{◌≡◌, refl, sym, ap, ◌∙◌}
use mathlib.Core.Bool.{Bool, true, false, ◌||◌}
use mathlib.Core.List.{List, [], ◌∷◌}
use Prim.Native.Nat.{ℕ, ◌^◌, ◌≤◌}
use native.Mathlib.Omega.{arith}
use borrow.Author.Tests.{ne_eqb}
use lib.Dec.{eqb, ltb}
use lib.ListN.{length}
use Rattle.layout.specs.Families.{Family, has_u, has_c, number_bytes, radix_of}
use Rattle.samples.specs.Runs.{is_run, decode, samples_from, ends_from, ping_length, values, behind}
use Rattle.samples.specs.Values.{meant, samples_in}
use Rattle.samples.proofs.Runs.{by_bool, ends-behind}
use Rattle.samples.proofs.Values.{values-run, values-value}
use Rattle.samples.proofs.Lengths.{length-by}
use Rattle.samples.proofs.Written.{some-radix, behind-map, says-many}
use Rattle.content.specs.Pings.{words_in, content_c}
use Rattle.content.specs.Forms.{has_length, packs}

-- a family without an uncompressed kind keeps its words
pub packs_always : (f : Family) → has_u f ≡ false → (o : Bool) (d : List ℕ) → packs (content_c f o d) ≡ true
unfolding packs content_c
packs_always f e o d = rw e

-- words of which the last is a value hold one
ends-value : (R : ℕ) (ws : List ℕ) (b : Bool) → 1 ≤ length ws → ends_from R b ws ≡ false → 1 ≤ values R ws
ends-value R [] b h e = absurd (omega arith)
ends-value R (w ∷ []) b h e = unfold ends_from in omega (arith, values-value R w [] e)
ends-value R (w ∷ v ∷ ws) b h e =
    let rest = ends-value R (v ∷ ws) (is_run R w) (omega arith) (unfold ends_from in e) in
    by_bool (is_run R w) (λ t. omega (arith, values-run R w (v ∷ ws) t)) (λ t. omega (arith, values-value R w (v ∷ ws) t))

-- one with both keeps them where the last is a run, or a sample is numbered past the other's width
module _ (f : Family) (both : has_u f ≡ true) (listed : has_c f ≡ true) (o : Bool) (d : List ℕ)
    (some_words : 1 ≤ length (words_in f o d)) where
  abbrev R : ℕ
  R = radix_of f

  abbrev ws : List ℕ
  ws = words_in f o d

  abbrev limit : ℕ
  limit = 256 ^ number_bytes f

  by_end : (b : Bool) → ends_from R false ws ≡ b
      → (has_length (ping_length R ws) || (eqb (length (samples_in f ws)) 0 || ltb limit (behind 0 (samples_in f ws))))
      ≡ (b || ltb limit (samples_from R 0 ws))
  by_end true e = rw (length-by R ws true e)
  by_end false e =
      let many = says-many f ws in
      let one = ends-value R ws false some_words e in
      rw (length-by R ws false e, ne_eqb (length (samples_in f ws)) 0 (λ z. omega arith)) (ap (ltb limit) last)
    where
      last : behind 0 (samples_in f ws) ≡ samples_from R 0 ws
      last = unfold samples_in in behind-map (meant f) (decode R ws) 0 ∙ sym (ends-behind R (some-radix f) ws e)

  pub packs-by : packs (content_c f o d) ≡ (ends_from R false ws || ltb limit (samples_from R 0 ws))
  unfolding packs content_c
  packs-by = rw (both, listed) (by_end (ends_from R false ws) refl)
