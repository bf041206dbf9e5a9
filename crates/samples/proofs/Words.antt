-- Laws of words and of samples in either byte order, over the width. Assumes nothing.
use mathlib.Core.Path.{◌≡◌, refl, sym, ap, ◌∙◌}
use mathlib.Core.Bool.{Bool}
use mathlib.Core.List.{List, [], ◌∷◌, ◌++◌, append-nil, append_assoc}
use Prim.Native.Nat.{ℕ, zero, suc, ◌+◌, ◌-◌, ◌*◌, ◌/◌, ◌%◌, ◌^◌, ◌≤◌, ◌<◌}
use native.Mathlib.Nat.{mul-div_cancel_left, div-eq_of_lt, div-eq-sub-div, sub-add-eq, div-lt_iff_lt-mul, div-add-mod, mod-lt, pow-zero}
use native.Mathlib.Nat.{pow-suc, mul_comm, mul-le-mul_left}
use native.Mathlib.Numerals.{add-one}
use native.Mathlib.Omega.{arith}
use lib.Dec.{lit<}
use lib.Arith.{digits_div}
use lib.ListN.{length, take, drop, replicate, length-append, length-drop, length-replicate}
use lib.Seq.{take_at, drop_at, drop-drop, length-take-le}
use Rattle.order.specs.Order.{num_of, bytes_of, Bytes}
use Rattle.order.proofs.Laws.{bytes-zeros, length_bytes_of, num_of_bytes_of, num_of_bound, bytes_take, bytes_drop, bytes_append, bytes-ordered}
use Rattle.order.proofs.Laws.{bytes-lows}
use Rattle.layout.specs.Families.{Family, wide, narrow, encoded, wide_angles, narrow_angles, number_bytes, value_bytes, value_count, sample_bytes}
use Rattle.samples.specs.Words.{Sample, words, all_words, unwords, joined, parted, sample_of, samples, all_samples, sample_back}
use Rattle.samples.specs.Words.{unsampled, spaced, Below}

-- numbers of samples below n and values below v
abbrev pub Within : ℕ → ℕ → List Sample → Type 0
Within n v [] = Unit {0}
Within n v (x ∷ s) = (x.0 < n) × (x.1 < v) × Within n v s

-- a family's numbers, and its values
abbrev pub number_limit : Family → ℕ
number_limit f = 256 ^ number_bytes f

abbrev pub value_limit : Family → ℕ
value_limit f = (256 ^ value_bytes f) ^ value_count f

-- ---- words and their bytes are inverse
pub length-unwords : (k : ℕ) (o : Bool) (ws : List ℕ) → length (unwords k o ws) ≡ k * length ws
unfolding unwords
length-unwords k o [] = omega arith
length-unwords k o (w ∷ ws) = simp length-append (omega (arith, length_bytes_of o k w, length-unwords k o ws))

pub words-unwords : (k : ℕ) (o : Bool) (ws rest : List ℕ) → Below (256 ^ k) ws → words k o (length ws) (unwords k o ws ++ rest) ≡ ws
unfolding words unwords
words-unwords k o [] rest f = refl
words-unwords k o (w ∷ ws) rest f =
    let l = length_bytes_of o k w in
    let g : bytes_of o k w ++ unwords k o ws ++ rest ≡ bytes_of o k w ++ (unwords k o ws ++ rest) = simp append_assoc in
    rw (g, take_at (bytes_of o k w) (unwords k o ws ++ rest) k l, drop_at (bytes_of o k w) (unwords k o ws ++ rest) k l)
    (λ i. num_of_bytes_of o k w f.0 i ∷ words-unwords k o ws rest f.1 i)

pub all-unwords : (k : ℕ) → 0 < k → (o : Bool) (ws : List ℕ) → Below (256 ^ k) ws → all_words k o (unwords k o ws) ≡ ws
unfolding all_words
all-unwords k pos o ws f =
    let e : length (unwords k o ws) / k ≡ length ws = ap (λ (n : ℕ). n / k) (length-unwords k o ws) ∙ mul-div_cancel_left (length ws) pos in
    rw (e, ← append-nil (unwords k o ws)) (words-unwords k o ws [] f)

pub bytes-unwords : (k : ℕ) (o : Bool) (ws : List ℕ) → Bytes (unwords k o ws)
unfolding unwords
bytes-unwords k o [] = tt
bytes-unwords k o (w ∷ ws) = bytes_append (bytes_of o k w) (unwords k o ws) (bytes-ordered o _ (bytes-lows k w)) (bytes-unwords k o ws)

-- words read from bytes are within their width, and as many as asked
pub words-below : (k n : ℕ) (o : Bool) (d : List ℕ) → Bytes d → k * n ≤ length d
    → Below (256 ^ k) (words k o n d) × (length (words k o n d) ≡ n)
unfolding words
words-below k zero o d b h = (tt, refl)
words-below k (suc n) o d b h =
    let l : length (take k d) ≡ k = length-take-le k d (omega arith) in
    let r = words-below k n o (drop k d) (bytes_drop k d b) (simp length-drop (omega arith)) in
    ((rw l at (num_of_bound o (take k d) (bytes_take k d b)), r.0), ap suc r.1)

pub unwords_append : (k : ℕ) (o : Bool) (us ws : List ℕ) → unwords k o (us ++ ws) ≡ unwords k o us ++ unwords k o ws
unfolding unwords
unwords_append k o [] ws = refl
unwords_append k o (u ∷ us) ws = ap (λ (l : List ℕ). bytes_of o k u ++ l) (unwords_append k o us ws)
    ∙ sym (append_assoc (bytes_of o k u) (unwords k o us) (unwords k o ws))

-- ---- values joined, over their width and number
pub limit-pos : (w : ℕ) → 0 < 256 ^ w
limit-pos zero = lit< tt
limit-pos (suc w) = rw pow-suc (omega (arith, limit-pos w))

pub length-parted : (w k : ℕ) (o : Bool) (v : ℕ) → length (parted w k o v) ≡ k * w
unfolding parted
length-parted w zero o v = omega arith
length-parted w (suc k) o v = simp length-append (omega (arith, length_bytes_of o w (v % 256 ^ w), length-parted w k o (v / 256 ^ w)))

bytes-parted : (w k : ℕ) (o : Bool) (v : ℕ) → Bytes (parted w k o v)
unfolding parted
bytes-parted w zero o v = tt
bytes-parted w (suc k) o v = bytes_append (bytes_of o w (v % 256 ^ w)) (parted w k o (v / 256 ^ w))
    (bytes-ordered o _ (bytes-lows w (v % 256 ^ w))) (bytes-parted w k o (v / 256 ^ w))

joined-parted : (w k : ℕ) (o : Bool) (v : ℕ) (rest : List ℕ) → v < (256 ^ w) ^ k → joined w k o (parted w k o v ++ rest) ≡ v
unfolding joined parted
joined-parted w zero o v rest h = let g : v < 1 = rw pow-zero at h in omega arith
joined-parted w (suc k) o v rest h =
    let b = 256 ^ w in
    let p = limit-pos w in
    let l = length_bytes_of o w (v % b) in
    let below : v / b < b ^ k = (div-lt_iff_lt-mul p).1 (rw pow-suc at h) in
    let g : bytes_of o w (v % b) ++ parted w k o (v / b) ++ rest ≡ bytes_of o w (v % b) ++ (parted w k o (v / b) ++ rest) =
    simp append_assoc in
    rw (
      g,
      take_at (bytes_of o w (v % b)) (parted w k o (v / b) ++ rest) w l,
      drop_at (bytes_of o w (v % b))
          (parted w k o (v / b) ++ rest) w l,
    )
    (rw (num_of_bytes_of o w (v % b) (mod-lt v p), joined-parted w k o (v / b) rest below) (omega (arith, div-add-mod v b)))

joined-below : (w k : ℕ) (o : Bool) (bs : List ℕ) → Bytes bs → k * w ≤ length bs → joined w k o bs < (256 ^ w) ^ k
unfolding joined
joined-below w zero o bs b h = rw pow-zero (lit< tt)
joined-below w (suc k) o bs b h =
    let l : length (take w bs) ≡ w = length-take-le w bs (omega arith) in
    let n = rw l at (num_of_bound o (take w bs) (bytes_take w bs b)) in
    let ih = joined-below w k o (drop w bs) (bytes_drop w bs b) (simp length-drop (omega arith)) in
    rw pow-suc (omega (arith, mul-le-mul_left (256 ^ w) ih, mul_comm ((256 ^ w) ^ k) (256 ^ w)))

-- ---- samples and their bytes are inverse
pub some_bytes : (f : Family) → 0 < sample_bytes f
some_bytes wide = lit< tt
some_bytes narrow = lit< tt
some_bytes encoded = lit< tt
some_bytes wide_angles = lit< tt
some_bytes narrow_angles = lit< tt

module _ (f : Family) (o : Bool) where
  pub length_back : (x : Sample) → length (sample_back f o x) ≡ sample_bytes f
  length_back x =
      length-append (bytes_of o (number_bytes f) x.0) (parted (value_bytes f) (value_count f) o x.1)
      ∙ omega (arith, length_bytes_of o (number_bytes f) x.0, length-parted (value_bytes f) (value_count f) o x.1)

  sample_back_lem : (x : Sample) (rest : List ℕ) → x.0 < number_limit f → x.1 < value_limit f → sample_of f o (sample_back f o x ++ rest) ≡ x
  sample_back_lem x rest hn hv =
      let a = bytes_of o (number_bytes f) x.0 in
      let b = parted (value_bytes f) (value_count f) o x.1 in
      let l = length_bytes_of o (number_bytes f) x.0 in
      let g : a ++ b ++ rest ≡ a ++ (b ++ rest) = simp append_assoc in
      rw (g, take_at a (b ++ rest) (number_bytes f) l, drop_at a (b ++ rest) (number_bytes f) l)
      (λ i. (num_of_bytes_of o (number_bytes f) x.0 hn i, joined-parted (value_bytes f) (value_count f) o x.1 rest hv i))

  pub length-unsampled : (s : List Sample) → length (unsampled f o s) ≡ length s * sample_bytes f
  unfolding unsampled
  length-unsampled [] = omega arith
  length-unsampled (x ∷ s) = length-append (sample_back f o x) (unsampled f o s) ∙ omega (arith, length_back x, length-unsampled s)

  pub bytes-unsampled : (s : List Sample) → Bytes (unsampled f o s)
  unfolding unsampled
  bytes-unsampled [] = tt
  bytes-unsampled (x ∷ s) =
      bytes_append (sample_back f o x) (unsampled f o s)
      (bytes_append (bytes_of o (number_bytes f) x.0) _ (bytes-ordered o _ (bytes-lows (number_bytes f) x.0))
      (bytes-parted (value_bytes f) (value_count f) o x.1))
      (bytes-unsampled s)

  samples-back : (s : List Sample) (rest : List ℕ) → Within (number_limit f) (value_limit f) s
      → samples f o (length s) (unsampled f o s ++ rest) ≡ s
  unfolding samples unsampled
  samples-back [] rest h = refl
  samples-back (x ∷ s) rest h =
      let g : sample_back f o x ++ unsampled f o s ++ rest ≡ sample_back f o x ++ (unsampled f o s ++ rest) = simp append_assoc in
      rw (g, drop_at (sample_back f o x) (unsampled f o s ++ rest) (sample_bytes f) (length_back x))
      (λ i. sample_back_lem x (unsampled f o s ++ rest) h.0 h.1 i ∷ samples-back s rest h.2 i)

  -- whatever space is behind them
  pub all-samples : (s : List Sample) (rest : List ℕ) → Within (number_limit f) (value_limit f) s → length rest < sample_bytes f
      → all_samples f o (unsampled f o s ++ rest) ≡ s
  unfolding all_samples
  all-samples s rest h r =
      let e : length (unsampled f o s ++ rest) / sample_bytes f ≡ length s =
      ap (λ (n : ℕ). n / sample_bytes f) (length-append (unsampled f o s) rest ∙ ap (λ (n : ℕ). n + length rest) (length-unsampled s))
      ∙ digits_div (length s) r in
      rw e (samples-back s rest h)

  -- samples read from bytes fit their family, and are as many as asked
  pub samples-within : (n : ℕ) (d : List ℕ) → Bytes d → n * sample_bytes f ≤ length d
      → Within (number_limit f) (value_limit f) (samples f o n d) × (length (samples f o n d) ≡ n)
  unfolding samples
  samples-within zero d b h = (tt, refl)
  samples-within (suc n) d b h =
      let k = number_bytes f in
      let l : length (take k d) ≡ k = length-take-le k d (omega arith) in
      let r = samples-within n (drop (sample_bytes f) d) (bytes_drop (sample_bytes f) d b) (simp length-drop (omega arith)) in
      let v = joined-below (value_bytes f) (value_count f) o (drop k d) (bytes_drop k d b) (simp length-drop (omega arith)) in
      ((rw l at (num_of_bound o (take k d) (bytes_take k d b)), v, r.0), ap suc r.1)

-- as many as whole samples fit
length-samples : (f : Family) (o : Bool) (n : ℕ) (d : List ℕ) → length (samples f o n d) ≡ n
unfolding samples
length-samples f o zero d = refl
length-samples f o (suc n) d = ap suc (length-samples f o n (drop (sample_bytes f) d))

pub samples-many : (f : Family) (o : Bool) (d : List ℕ) → length (all_samples f o d) ≡ length d / sample_bytes f
unfolding all_samples
samples-many f o d = length-samples f o (length d / sample_bytes f) d

-- ---- a space
pub length-spaced : (bs : List ℕ) → length (spaced bs) ≡ length bs + length bs % 4
unfolding spaced
length-spaced bs = length-append bs (replicate (length bs % 4) 0) ∙ omega (arith, length-replicate {A = ℕ} (length bs % 4) 0)

-- none behind a multiple of 4
pub spaced-whole : (bs : List ℕ) → length bs % 4 ≡ 0 → spaced bs ≡ bs
unfolding spaced
spaced-whole bs e = ap (λ (n : ℕ). bs ++ replicate n 0) e ∙ append-nil bs

pub bytes-spaced : (bs : List ℕ) → Bytes bs → Bytes (spaced bs)
unfolding spaced
bytes-spaced bs b = bytes_append bs (replicate (length bs % 4) 0) b (bytes-zeros (length bs % 4))

-- ---- where a loop stands: the words of s from byte p on, as many as are whole
abbrev pub word_at : ℕ → Bool → List ℕ → ℕ → ℕ
word_at k o s p = num_of o (take k (drop p s))

unfoldable pub words_from : ℕ → Bool → List ℕ → ℕ → List ℕ
words_from k o s p = words k o ((length s - p) / k) (drop p s)

pub from_all : (k : ℕ) (o : Bool) (s : List ℕ) → words_from k o s 0 ≡ all_words k o s
unfolding words_from all_words
from_all k o s = ap (λ (n : ℕ). words k o (n / k) s) (omega arith)

pub from_cons : (k : ℕ) (o : Bool) (s : List ℕ) (p : ℕ) → 0 < k → p + k ≤ length s
    → words_from k o s p ≡ word_at k o s p ∷ words_from k o s (p + k)
unfolding words_from words
from_cons k o s p pos h =
    let e : (length s - p) / k ≡ suc ((length s - (p + k)) / k) =
    div-eq-sub-div pos (omega arith) ∙ ap (λ (n : ℕ). n / k + 1) (sym (sub-add-eq (length s) p k)) ∙ add-one _ in
    rw (e, drop-drop k p s)

pub from_end_lem : (k : ℕ) (o : Bool) (s : List ℕ) (p : ℕ) → 0 < k → length s < p + k → words_from k o s p ≡ []
unfolding words_from words
from_end_lem k o s p pos h = let l : length s - p < k = omega arith in rw (div-eq_of_lt l)

-- ---- the samples of s from byte p on, as many as are whole
unfoldable pub rest_of : Family → Bool → List ℕ → ℕ → List Sample
rest_of f o s p = samples f o ((length s - p) / sample_bytes f) (drop p s)

pub rest_all : (f : Family) (o : Bool) (s : List ℕ) → rest_of f o s 0 ≡ all_samples f o s
unfolding rest_of all_samples
rest_all f o s = ap (λ (n : ℕ). samples f o (n / sample_bytes f) s) (omega arith)

pub rest-next : (f : Family) (o : Bool) (s : List ℕ) (p : ℕ) → p + sample_bytes f ≤ length s
    → rest_of f o s p ≡ sample_of f o (drop p s) ∷ rest_of f o s (p + sample_bytes f)
unfolding rest_of samples
rest-next f o s p h =
    let k = sample_bytes f in
    let e : (length s - p) / k ≡ suc ((length s - (p + k)) / k) =
    div-eq-sub-div (some_bytes f) (omega arith) ∙ ap (λ (n : ℕ). n / k + 1) (sym (sub-add-eq (length s) p k)) ∙ add-one _ in
    rw (e, drop-drop k p s)

pub rest_end : (f : Family) (o : Bool) (s : List ℕ) (p : ℕ) → length s < p + sample_bytes f → rest_of f o s p ≡ []
unfolding rest_of samples
rest_end f o s p h = let l : length s - p < sample_bytes f = omega (arith, some_bytes f) in rw (div-eq_of_lt l)

-- the value of a sample that has one stands behind its number
pub value-at : (f : Family) → value_count f ≡ 1 → (o : Bool) (s : List ℕ) (p : ℕ)
    → word_at (value_bytes f) o s (p + number_bytes f) ≡ (sample_of f o (drop p s)).1
unfolding joined
value-at f one o s p =
    let w = value_bytes f in
    let z : (n : ℕ) → n + 256 ^ w * 0 ≡ n = λ n. omega arith in
    sym (ap (λ (k : ℕ). joined w k o (drop (number_bytes f) (drop p s))) one
    ∙ z (num_of o (take w (drop (number_bytes f) (drop p s))))
    ∙ ap (λ (l : List ℕ). num_of o (take w l)) (drop-drop (number_bytes f) p s))
