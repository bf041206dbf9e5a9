-- Turns of the loops that pack and spread a compressed ping's words, of k bytes over the radix R: the code reads both measures anew each
-- time that it needs them. Assumes nothing.
use Rattle.std.proofs.Common.{◌≡◌, ◌∙◌, refl, sym, true, ℤ, Option, ap, ap₂, ℕ, ◌+◌, ◌-◌, ◌*◌, ◌%◌, ◌<◌, ◌≤◌, Bool, false, not}
use Rattle.std.proofs.Common.{cond, leb, eqb, List, [], ◌∷◌, ◌^◌, length, arith}
use Rattle.std.proofs.lemmas.List.Edits.{sets}
use mir.Val.{bool_byte}
use Rattle.std.specs.List.{AllWithin, HoldsAt}
use Rattle.std.specs.Option.{MatchOption, unwrap_or}
use Rattle.std.proofs.lemmas.Iterator.{index_from_first}
use Rattle.order.specs.Order.{bytes_of, pattern_of}
use Rattle.layout.specs.Families.{Family, number_bytes, value_bytes, value_count, sample_bytes}
use Rattle.samples.specs.Words.{Sample, all_words, sample_back}
use Rattle.samples.specs.Runs.{is_run, run_length, decode_from}
use Rattle.samples.specs.Values.{wordless}
use Rattle.samples.specs.Judging.{first_wordless}
use Rattle.samples.specs.inner.Lists.{valued}
use Rattle.samples.specs.inner.Packing.{pack_from}
use Rattle.samples.proofs.Packed.{pack_words-step, Packing, packing_as, packing_one}
use Rattle.samples.proofs.Turning.{Spreading, spreading_word, word-left}
use Rattle.samples.proofs.Words.{from_all}
use Rattle.samples.proofs.Writing.{sample_put}
use Rattle.samples.proofs.Written.{wordless-here, wordless-later}

-- a run and the word itself are stored, and what doesn't stand there will be stored over
module _ (g : ℕ → ℕ) (ws : List ℕ) {k R q w n to at : ℕ} {all lent out put next : List ℕ} {run ends : Bool} where
  pub pack-turn : (s full full₂ word word₂ v : ℕ) → k ≤ 8 → 0 < R → q < R → 1 ≤ s → s ≡ (R - 1) * R
      → full ≡ R → full₂ ≡ R → word ≡ k → word₂ ≡ k → v ≡ g w
      → run ≡ is_run R w → n ≡ run_length R w → ends ≡ cond run (leb R (q + n)) (not (eqb q 0))
      → put ≡ sets out at (bytes_of false k (s - 1 + (bool_byte run * full + bool_byte (not run) * q))) → length put ≡ length out
      → next ≡ sets put (at + word * bool_byte ends) (bytes_of false k v) → length next ≡ length put
      → Packing k all (pack_from R g q (w ∷ ws)) lent to out at
      → Packing k all (pack_from R g (bool_byte run * ((q + n) % full₂)) ws) lent to next
      (at + word * bool_byte ends + word₂ * bool_byte (not run))
  pack-turn s full full₂ word word₂ v few pos short some es ef ef₂ ew ew₂ ev e en f e₁ l₁ e₂ l₂ h =
      let x = s - 1 + (bool_byte run * full + bool_byte (not run) * q) in
      let a : x + 1 ≡ s + (bool_byte run * full + bool_byte (not run) * q) = omega arith in
      let b : x + 1 ≡ (R - 1) * R + (bool_byte run * R + bool_byte (not run) * q) =
      a ∙ ap₂ (λ (i j : ℕ). i + (bool_byte run * j + bool_byte (not run) * q)) es ef in
      let step = pack_words-step R pos g q w n x ws short run ends e en f b in
      rw (ef₂, ew, ew₂) (packing_one few (not run) (g w) _ (rw (ew, ev) at e₂) l₂ (packing_one few ends x _ e₁ l₁ (packing_as step h)))

-- ---- a sample of a family whose number and whose one value are words of k bytes
module _ (f : Family) {k : ℕ} (number : number_bytes f ≡ k) (value : value_bytes f ≡ k) (one : value_count f ≡ 1) where
  pair-bytes : sample_bytes f ≡ 2 * k
  pair-bytes = ap₂ ◌+◌ number (ap₂ ◌*◌ one value) ∙ omega arith

  pub pair-put : (o : Bool) (l : List ℕ) (q n : ℕ) {l₁ l₂ : List ℕ} {v word : ℕ} → v < 256 ^ k → word ≡ k → l₁ ≡ sets l q (bytes_of o k n)
      → l₂ ≡ sets l₁ (q + word) (bytes_of o k v) → l₂ ≡ sets l q (sample_back f o (n, v))
  pair-put o l q n {l₁} {l₂} {v} h e e₁ e₂ =
      sample_put f one o l l₁ l₂ q n v (rw value h) (rw number e₁) (rw (number, value) (rw e at e₂))

  -- a turn of the loop that spreads words over the radix R: a run passes its samples, a value is the next sample's
  pub spread-turn : (n v : ℕ) (ws : List ℕ) {z run : Bool} {s : List Sample} {out₀ out put : List ℕ} {R to₀ end to full word : ℕ} → 0 < R
      → full ≡ R → word ≡ k → put ≡ sets out to (sample_back f z (n, v)) → length put ≡ length out → run ≡ is_run R v → to < end
      → Spreading f z s (decode_from R n (v ∷ ws)) out₀ to₀ end out to
      → Spreading f z s (decode_from R (n + (bool_byte run * (v % full) + 1)) ws) out₀ to₀ end put (to + 2 * word * bool_byte (not run))
  spread-turn n v ws {run = run} {R = R} {word = word} pos ef ew e l t before h =
      let width : 2 * word ≡ sample_bytes f = ap (λ (i : ℕ). 2 * i) ew ∙ sym pair-bytes in
      rw (ef, width) (spreading_word n v e l R pos ws run t before h)

-- before the end a sample is left, and so is a word
some : {f : Family} {z : Bool} {s : List Sample} {out₀ out : List ℕ} {to₀ end to : ℕ} (left : List Sample) → to < end
    → Spreading f z s left out₀ to₀ end out to → 0 < length left
some [] before h = absurd (omega (arith, h.ends))
some (x ∷ left) before h = omega arith

pub spread-more : (R n k : ℕ) (o : Bool) (d : List ℕ) {f : Family} {z : Bool} {s : List Sample} {out₀ out : List ℕ} {to₀ end to : ℕ} → 0 < k
    → to < end → Spreading f z s (decode_from R n (all_words k o d)) out₀ to₀ end out to → k ≤ length d
spread-more R n k o d pos before h =
    omega (arith, word-left k R pos o d 0 n (rw (from_all k o d) (some _ before h)))

-- ---- the first value that has no word, as a search for it tells
module _ (f : Family) (w : ℕ) where
  abbrev pub Wordless : ℤ → Type 0
  Wordless z = wordless f (pattern_of w z) ≡ true

  abbrev pub HasWord : ℤ → Type 0
  HasWord z = wordless f (pattern_of w z) ≡ false

  pub wordless-found : (vs : List ℤ) (r : Option ℕ)
      → MatchOption r (AllWithin HasWord vs 0 (length vs)) (λ i. (i < length vs) × HoldsAt Wordless vs i × AllWithin HasWord vs 0 i)
      → first_wordless f (valued w vs) ≡ unwrap_or r (length vs)
  unfolding first_wordless
  wordless-found =
      index_from_first (λ (vs : List ℤ). first_wordless f (valued w vs)) Wordless HasWord refl
      (λ z vs h. wordless-here f (0, pattern_of w z) (valued w vs) h) (λ z vs h. wordless-later f (0, pattern_of w z) (valued w vs) h)
