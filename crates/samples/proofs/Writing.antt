-- What the writers' loops write, over the width k of a word, the radix R and the family: words and samples behind one another, the
-- words of a gap, and a turn past a sample. Assumes nothing.
use mathlib.Core.Path.{◌≡◌, refl, sym, ap, subst, ◌∙◌}
use mathlib.Core.Bool.{Bool}
use mathlib.Core.List.{List, [], ◌∷◌, ◌++◌, append-nil}
use Prim.Native.Nat.{ℕ, zero, suc, ◌+◌, ◌-◌, ◌*◌, ◌/◌, ◌%◌, ◌^◌, ◌≤◌, ◌<◌}
use native.Mathlib.Nat.{div-add-mod', div-eq_of_lt, div-eq-sub-div, div-lt_iff_lt-mul, le-mul_of_pos_right, mod-eq_of_lt, mod-eq-sub-mod}
use native.Mathlib.Nat.{mod-lt}
use native.Mathlib.Numerals.{add-one}
use native.Mathlib.Omega.{arith}
use lib.IntN.{ℤ, pos}
use lib.ListN.{length, drop, get_or}
use lib.Seq.{sets}
use Rattle.order.proofs.Stores.{sets_append}
use Rattle.order.specs.Order.{bytes_of, pattern_of}
use Rattle.order.proofs.Laws.{length_bytes_of}
use Rattle.layout.specs.Families.{Family, number_bytes, value_bytes, value_count, sample_bytes}
use Rattle.samples.specs.Words.{Sample, unwords, parted, sample_back, unsampled}
use Rattle.samples.specs.Lists.{paired}
use Rattle.samples.specs.Runs.{last_run, gap, encode_from}
use Rattle.samples.specs.Values.{revalued}
use Rattle.samples.proofs.Words.{length-unwords, unwords_append, length_back}
use Rattle.samples.proofs.Runs.{encode-length, gap-covers, gap-least}
use Rattle.samples.proofs.Rising.{Rising}
use Rattle.samples.proofs.Apart.{paired-next}

module _ (k : ℕ) (o : Bool) (l : List ℕ) (q : ℕ) where
  -- l holds what stood there with the words us at q; the words ws follow at p
  pub past_words : (us ws : List ℕ) (p : ℕ) → p ≡ q + k * length us
      → sets (sets l q (unwords k o us)) p (unwords k o ws) ≡ sets l q (unwords k o (us ++ ws))
  past_words us ws p e =
      ap (λ (n : ℕ). sets (sets l q (unwords k o us)) n (unwords k o ws)) (omega (arith, length-unwords k o us))
      ∙ sym (ap (sets l q) (unwords_append k o us ws) ∙ sets_append (unwords k o us) (unwords k o ws) l q)

  pub past_word : (w : ℕ) (ws : List ℕ) → sets (sets l q (bytes_of o k w)) (q + k) (unwords k o ws) ≡ sets l q (unwords k o (w ∷ ws))
  unfolding unwords
  past_word w ws =
      ap (λ (n : ℕ). sets (sets l q (bytes_of o k w)) (q + n) (unwords k o ws)) (sym (length_bytes_of o k w))
      ∙ sym (sets_append (bytes_of o k w) (unwords k o ws) l q)

-- a sample, and those behind it
pub past_sample : (f : Family) (o : Bool) (l : List ℕ) (q : ℕ) (x : Sample) (s : List Sample)
    → sets (sets l q (sample_back f o x)) (q + sample_bytes f) (unsampled f o s) ≡ sets l q (unsampled f o (x ∷ s))
unfolding unsampled
past_sample f o l q x s =
    ap (λ (n : ℕ). sets (sets l q (sample_back f o x)) (q + n) (unsampled f o s)) (sym (length_back f o x))
    ∙ sym (sets_append (sample_back f o x) (unsampled f o s) l q)

-- the bytes of a sample of one value are its number's and its value's
pub one_value : (f : Family) (o : Bool) (n v : ℕ) → value_count f ≡ 1 → v < 256 ^ value_bytes f
    → sample_back f o (n, v) ≡ bytes_of o (number_bytes f) n ++ bytes_of o (value_bytes f) v
unfolding parted
one_value f o n v one h =
    ap (λ (k : ℕ). bytes_of o (number_bytes f) n ++ parted (value_bytes f) k o v) one
    ∙ ap (λ (l : List ℕ). bytes_of o (number_bytes f) n ++ l) (append-nil (bytes_of o (value_bytes f) (v % 256 ^ value_bytes f))
    ∙ ap (bytes_of o (value_bytes f)) (mod-eq_of_lt h))

-- ---- a gap's words: those of full runs, and the one of the remainder
module _ (R : ℕ) (some : 0 < R) (g : ℕ) where
  pub gap-full : R ≤ g → gap R g ≡ ((R - 1) * R + (R - 1)) ∷ gap R (g - R)
  unfolding gap
  gap-full h = rw (div-eq-sub-div some h ∙ add-one _, mod-eq-sub-mod h)

  gap-end : g < R → gap R g ≡ last_run R g
  unfolding gap
  gap-end h = rw (div-eq_of_lt h, mod-eq_of_lt h)

pub gap-none : (R : ℕ) → 0 < R → gap R 0 ≡ []
gap-none R some = gap-end R some 0 some ∙ unfold last_run in refl

pub gap-last : (R : ℕ) → 0 < R → (g : ℕ) → 0 < g → g < R → gap R g ≡ ((R - 1) * R + (g - 1)) ∷ []
gap-last R some zero h l = absurd (omega arith)
gap-last R some (suc g) h l = gap-end R some (suc g) l ∙ unfold last_run in ap (λ (n : ℕ). ((R - 1) * R + n) ∷ []) (omega arith)

-- how many they are: as many runs as cover the gap
module _ (R : ℕ) (some : 0 < R) (g : ℕ) where
  pub gap-count : (g + (R - 1)) / R ≡ length (gap R g)
  gap-count =
      let n = length (gap R g) in
      let up : (g + (R - 1)) / R < n + 1 = (div-lt_iff_lt-mul {k = R} {x = g + (R - 1)} {y = n + 1} some).1
      (omega (arith, gap-covers R some g)) in
      let down = gap-least R some g ((g + (R - 1)) / R) (omega (arith, div-add-mod' (g + (R - 1)) R, mod-lt (g + (R - 1)) some)) in
      omega arith

  pub gap-short : length (gap R g) ≤ g
  gap-short = gap-least R some g g (le-mul_of_pos_right g some)

-- ---- a turn past the sample at i, whose number is n: values of w bytes are handed over, and g gives their words
module _ (w : ℕ) (g : ℕ → ℕ) where
  abbrev left : List ℕ → List ℤ → ℕ → List Sample
  left ns vs i = revalued g (paired w (drop i ns) (drop i vs))

  module _ (ns : List ℕ) (vs : List ℤ) (i n : ℕ) (h : i < length ns) (same : length vs ≡ length ns) (e : n ≡ get_or ns i 0) where
    pub sample_next : left ns vs i ≡ (n, g (pattern_of w (get_or vs i (pos 0)))) ∷ left ns vs (i + 1)
    sample_next = rw e (ap (revalued g) (paired-next w ns vs i h (omega arith)))

    -- m being the least that its number may be, and t samples below threshold behind the last value
    module _ (m t : ℕ) where
      pub sample_rises : Rising m (left ns vs i) → (m ≤ n) × Rising (n + 1) (left ns vs (i + 1))
      sample_rises r = subst (Rising m) sample_next r

      module _ (R : ℕ) (some : 0 < R) where
        -- its words: those of its gap, its value, and the rest
        pub sample_words : length (encode_from R m (left ns vs i) t) ≡ length (gap R (n - m)) + suc
            (length (encode_from R (n + 1) (left ns vs (i + 1)) t))
        sample_words = ap (λ (s : List Sample). length (encode_from R m s t)) sample_next
            ∙ encode-length R some m (n, g (pattern_of w (get_or vs i (pos 0)))) (left ns vs (i + 1)) t

        -- the gap is written at q, which makes l₁ of l; then at p the value's word, which makes l₂
        pub sample_turn : (k : ℕ) (o : Bool) (l l₁ l₂ : List ℕ) (q p v : ℕ)
            → p ≡ q + k * length (gap R (n - m)) → l₁ ≡ sets l q (unwords k o (gap R (n - m)))
            → v ≡ g (pattern_of w (get_or vs i (pos 0))) → l₂ ≡ sets l₁ p (bytes_of o k v)
            → sets l₂ (p + k) (unwords k o (encode_from R (n + 1) (left ns vs (i + 1)) t)) ≡ sets l q
            (unwords k o (encode_from R m (left ns vs i) t))
        unfolding encode_from
        sample_turn k o l l₁ l₂ q p v place e₁ ev e₂ =
            let rest = encode_from R (n + 1) (left ns vs (i + 1)) t in
            ap (λ (x : List ℕ). sets x (p + k) (unwords k o rest)) e₂
            ∙ past_word k o l₁ p v rest
            ∙ ap (λ (x : List ℕ). sets x p (unwords k o (v ∷ rest))) e₁
            ∙ past_words k o l q (gap R (n - m)) (v ∷ rest) p place
            ∙ ap (λ (x : ℕ). sets l q (unwords k o (gap R (n - m) ++ (x ∷ rest)))) ev
            ∙ ap (λ (s : List Sample). sets l q (unwords k o (encode_from R m s t))) (sym sample_next)

-- ---- a number and a value behind it are a sample of one value
module _ (f : Family) (one : value_count f ≡ 1) (o : Bool) (l l₁ l₂ : List ℕ) (q n v : ℕ) (h : v < 256 ^ value_bytes f)
    (e₁ : l₁ ≡ sets l q (bytes_of o (number_bytes f) n)) (e₂ : l₂ ≡ sets l₁ (q + number_bytes f) (bytes_of o (value_bytes f) v)) where
  pub sample_put : l₂ ≡ sets l q (sample_back f o (n, v))
  sample_put =
      let a = bytes_of o (number_bytes f) n in
      let b = bytes_of o (value_bytes f) v in
      e₂
      ∙ ap (λ (x : List ℕ). sets x (q + number_bytes f) b) e₁
      ∙ ap (λ (i : ℕ). sets (sets l q a) (q + i) b) (sym (length_bytes_of o (number_bytes f) n))
      ∙ sym (sets_append a b l q)
      ∙ ap (sets l q) (sym (one_value f o n v one h))

  -- and those behind it
  pub sample_stored : (s : List Sample) → sets l₂ (q + sample_bytes f) (unsampled f o s) ≡ sets l q (unsampled f o ((n, v) ∷ s))
  sample_stored s = ap (λ (x : List ℕ). sets x (q + sample_bytes f) (unsampled f o s)) sample_put ∙ past_sample f o l q (n, v) s
