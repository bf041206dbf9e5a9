-- What the proofs of this crate's functions lean on: samples of two values, over the family; the words of CE-16 counts. Assumes nothing.
use Rattle.std.proofs.Common.{◌≡◌, ◌∙◌, refl, sym, ap, ap₂, ℕ, zero, suc, ◌+◌, ◌-◌, ◌*◌, ◌/◌, ◌%◌, ◌^◌, ◌≤◌, ◌<◌, ℤ, pos}
use Rattle.std.proofs.Common.{get_or, Bool, true, not, ◌&&◌, ◌||◌, eqb, leb, List, [], ◌∷◌, ◌++◌}
use Rattle.std.proofs.Common.{length, take, drop, length-append, length-drop, add-one, arith}
use Rattle.std.proofs.Common.{drop_of_length-le}
use Rattle.std.proofs.lemmas.List.{append-nil, take-append-le, drop-append-le}
use Rattle.std.proofs.lemmas.List.Edits.{sets}
use Rattle.std.proofs.Math.Nat.{add_comm, mul_comm, mod-eq_of_lt, div-eq-sub-div, div-eq_of_lt}
use Rattle.std.proofs.Math.Seq.{drop-cons, drop-drop, drop_at}
use lib.Arith.{digits_div, digits_mod}
use borrow.Author.Tests.{lt-ltb, le-ltb}
use Rattle.order.specs.Order.{num_of, bytes_of, pattern_of}
use Rattle.order.proofs.Laws.{length_bytes_of}
use Rattle.order.proofs.Stores.{stored-behind}
use Rattle.layout.specs.Families.{Family, encoded, number_bytes, value_bytes, value_count, sample_bytes, is_bad}
use Rattle.samples.specs.Words.{Sample, joined, parted, sample_of, sample_back, samples, all_samples, unsampled}
use Rattle.samples.specs.Runs.{is_run}
use Rattle.samples.specs.Lists.{angled}
use Rattle.samples.specs.Values.{count_of, shortened, code_of, meant, word_for, wordless}
use Rattle.samples.specs.inner.Lists.{valued}
use Rattle.samples.specs.Judging.{first_wordless}
use Rattle.samples.proofs.Words.{word_at, some_bytes}
use Rattle.samples.proofs.Meaning.{Worded}
use Rattle.samples.proofs.Written.{EachValue, all-worded}
use Rattle.samples.proofs.Apart.{length-valued}
use Rattle.samples.proofs.Writing.{past_sample}

-- ---- samples of two values
-- handed over apart: the one at i, and those behind it
pub angled-next : (ns : List ℕ) (xs ys : List ℤ) (i : ℕ) → i < length ns → i < length xs → i < length ys
    → angled (drop i ns) (drop i xs) (drop i ys)
    ≡ (get_or ns i 0, pattern_of 2 (get_or xs i (pos 0)) + 65536 * pattern_of 2 (get_or ys i (pos 0)))
    ∷ angled (drop (i + 1) ns) (drop (i + 1) xs) (drop (i + 1) ys)
angled-next ns xs ys i h g k = rw (drop-cons ns i 0 h, drop-cons xs i (pos 0) g, drop-cons ys i (pos 0) k, add-one i)

pub angled-end : (ns : List ℕ) (xs ys : List ℤ) (i : ℕ) → length ns ≤ i → angled (drop i ns) (drop i xs) (drop i ys) ≡ []
angled-end ns xs ys i h = rw (drop_of_length-le ns h)

-- their bytes are the number's and each value's
two-values : (f : Family) (o : Bool) (n a b : ℕ) → value_count f ≡ 2 → a < 256 ^ value_bytes f → b < 256 ^ value_bytes f
    → sample_back f o (n, a + 256 ^ value_bytes f * b)
    ≡ bytes_of o (number_bytes f) n ++ (bytes_of o (value_bytes f) a ++ bytes_of o (value_bytes f) b)
unfolding parted
two-values f o n a b two ha hb =
    let w = value_bytes f in
    let turn : a + 256 ^ w * b ≡ b * 256 ^ w + a = add_comm a (256 ^ w * b) ∙ ap (λ (i : ℕ). i + a) (mul_comm (256 ^ w) b) in
    let low : (a + 256 ^ w * b) % 256 ^ w ≡ a = ap (λ (i : ℕ). i % 256 ^ w) turn ∙ digits_mod b ha in
    let high : (a + 256 ^ w * b) / 256 ^ w % 256 ^ w ≡ b =
    ap (λ (i : ℕ). i % 256 ^ w) (ap (λ (i : ℕ). i / 256 ^ w) turn ∙ digits_div b ha) ∙ mod-eq_of_lt hb in
    ap (λ (k : ℕ). bytes_of o (number_bytes f) n ++ parted w k o (a + 256 ^ w * b)) two
    ∙ ap₂ (λ (i j : ℕ). bytes_of o (number_bytes f) n ++ (bytes_of o w i ++ (bytes_of o w j ++ []))) low high
    ∙ ap (λ (l : List ℕ). bytes_of o (number_bytes f) n ++ (bytes_of o w a ++ l)) (append-nil (bytes_of o w b))

-- a number and two values stored behind it are a sample of two
module _ (f : Family) (two : value_count f ≡ 2) (o : Bool) (l l₁ l₂ l₃ : List ℕ) (q q₂ q₃ n a b : ℕ)
    (ha : a < 256 ^ value_bytes f) (hb : b < 256 ^ value_bytes f) (p₂ : q₂ ≡ q + number_bytes f)
    (p₃ : q₃ ≡ q + number_bytes f + value_bytes f)
    (e₁ : l₁ ≡ sets l q (bytes_of o (number_bytes f) n)) (e₂ : l₂ ≡ sets l₁ q₂ (bytes_of o (value_bytes f) a))
    (e₃ : l₃ ≡ sets l₂ q₃ (bytes_of o (value_bytes f) b)) where
  pub angles-put : l₃ ≡ sets l q (sample_back f o (n, a + 256 ^ value_bytes f * b))
  angles-put =
      let x = bytes_of o (number_bytes f) n in
      let y = bytes_of o (value_bytes f) a in
      let z = bytes_of o (value_bytes f) b in
      let lx = length_bytes_of o (number_bytes f) n in
      let ly = length_bytes_of o (value_bytes f) a in
      e₃
      ∙ ap (λ (m : List ℕ). sets m q₃ z) (e₂ ∙ ap (λ (m : List ℕ). sets m q₂ y) e₁)
      ∙ stored-behind y z (sets l q x) q₂ q₃ (omega (arith, p₂, p₃, ly))
      ∙ stored-behind x (y ++ z) l q q₂ (omega (arith, p₂, lx))
      ∙ ap (sets l q) (sym (two-values f o n a b two ha hb))

  -- and those behind it
  pub angles-stored : (rest : List Sample) → sets l₃ (q + sample_bytes f) (unsampled f o rest)
      ≡ sets l q (unsampled f o ((n, a + 256 ^ value_bytes f * b) ∷ rest))
  angles-stored rest =
      ap (λ (m : List ℕ). sets m (q + sample_bytes f) (unsampled f o rest)) angles-put
      ∙ past_sample f o l q (n, a + 256 ^ value_bytes f * b) rest

-- a sample of two values as it is read
pub angles-at : (f : Family) → value_count f ≡ 2 → (o : Bool) (s : List ℕ) (p p₂ p₃ n a b : ℕ)
    → p₂ ≡ p + number_bytes f → p₃ ≡ p + number_bytes f + value_bytes f
    → n ≡ word_at (number_bytes f) o s p → a ≡ word_at (value_bytes f) o s p₂ → b ≡ word_at (value_bytes f) o s p₃
    → (n, a + 256 ^ value_bytes f * b) ≡ sample_of f o (drop p s)
unfolding joined
angles-at f two o s p p₂ p₃ n a b h₂ h₃ en ea eb =
    let k = number_bytes f in
    let w = value_bytes f in
    let first : drop p₂ s ≡ drop k (drop p s) = ap (λ (i : ℕ). drop i s) h₂ ∙ sym (drop-drop k p s) in
    let second : drop p₃ s ≡ drop w (drop k (drop p s)) =
    ap (λ (i : ℕ). drop i s) h₃ ∙ sym (drop-drop w (p + k) s) ∙ ap (drop w) (sym (drop-drop k p s)) in
    let none : b ≡ b + 256 ^ w * 0 = omega arith in
    let values : a + 256 ^ w * b ≡ joined w 2 o (drop k (drop p s)) =
    ap (λ (i : ℕ). a + 256 ^ w * i) none
    ∙ ap₂ (λ (i j : ℕ). i + 256 ^ w * (j + 256 ^ w * 0)) (ea ∙ ap (λ (m : List ℕ). num_of o (take w m)) first)
    (eb ∙ ap (λ (m : List ℕ). num_of o (take w m)) second) in
    λ i. (en i, (values ∙ ap (λ (j : ℕ). joined w j o (drop k (drop p s))) (sym two)) i)

-- ---- samples turned: those of a chunk x and of the bytes behind it
module _ (f : Family) (o : Bool) where
  pub samples-first : {all : List ℕ} (x rest : List ℕ) → all ≡ x ++ rest → length x ≡ sample_bytes f
      → all_samples f o all ≡ sample_of f o all ∷ all_samples f o rest
  unfolding all_samples samples
  samples-first {all} x rest e l =
      let m : length all - sample_bytes f ≡ length rest = omega (arith, ap length e, length-append x rest) in
      let d : length all / sample_bytes f ≡ suc (length rest / sample_bytes f) =
      div-eq-sub-div (some_bytes f) (omega (arith, ap length e, length-append x rest)) ∙ ap (λ (n : ℕ). n / sample_bytes f + 1) m ∙
      add-one _ in
      rw d (ap (λ (s : List ℕ). sample_of f o all ∷ samples f o (length rest / sample_bytes f) s)
      (ap (drop (sample_bytes f)) e ∙ drop_at x rest (sample_bytes f) l))

  pub samples-none : (rest : List ℕ) → length rest < sample_bytes f → all_samples f o rest ≡ []
  unfolding all_samples samples
  samples-none rest h = rw (div-eq_of_lt h)

-- a number within a chunk
pub within-chunk : (x rest : List ℕ) (p w : ℕ) {all : List ℕ} → all ≡ x ++ rest → p + w ≤ length x → take w (drop p x) ≡ take w (drop p all)
within-chunk x rest p w e h =
    rw (e, drop-append-le p x rest (omega arith), take-append-le w (drop p x) rest (simp length-drop (omega arith)))

-- ---- CE-16: the word of a count, step by step
pub short-more : (k c : ℕ) → 0 < k → 8192 ≤ c → shortened k c ≡ 4096 + shortened (k - 1) (c / 2)
unfolding shortened
short-more zero c p h = absurd (omega arith)
short-more (suc k) c p h = let z : suc k - 1 ≡ k = omega arith in rw (le-ltb c 8192 h, shortened, z)

pub short-end : (k c : ℕ) → k ≤ 0 → shortened k c ≡ c
unfolding shortened
short-end zero c h = refl
short-end (suc k) c h = absurd (omega arith)

-- a count, of which v is the pattern and w the word: too long, or as the tests of a word say, u being the pattern of what it stands for
pub codeless_long : (v w : ℕ) → w ≡ code_of v → 65535 < w → wordless encoded v ≡ true
unfolding wordless word_for
codeless_long v w e h = rw (← e, le-ltb w 65536 (omega arith))

pub codeless_short : (v w u : ℕ) (r b : Bool) → w ≡ code_of v → w ≤ 65535 → r ≡ is_run 256 w → b ≡ (leb 0x7f00 w && leb w 0x7fff)
    → u ≡ pattern_of 4 (count_of w) → (r || b || not (eqb u v)) ≡ wordless encoded v
unfolding wordless word_for meant is_bad
codeless_short v w u r b e h er eb eu = rw (er, eb, eu, ← e, lt-ltb w 65536 (omega arith))

-- ---- values alone: what each has, the one at i has
value-each : (P : ℕ → Type 0) (w : ℕ) (vs : List ℤ) (i : ℕ) → EachValue P (valued w vs) → i < length vs
    → P (pattern_of w (get_or vs i (pos 0)))
value-each P w [] i e h = absurd (omega arith)
value-each P w (v ∷ vs) zero e h = e.0
value-each P w (v ∷ vs) (suc i) e h = value-each P w vs i e.1 (omega arith)

-- where each count has a word, the one at i has one of two bytes
pub code_fits : (counts : List ℤ) (i : ℕ) → first_wordless encoded (valued 4 counts) ≡ length counts → i < length counts
    → code_of (pattern_of 4 (get_or counts i (pos 0))) < 65536
unfolding word_for
code_fits counts i e h =
    let all = all-worded encoded (valued 4 counts) (omega (arith, length-valued 4 counts)) in
    (value-each (Worded encoded) 4 counts i all h).fits
