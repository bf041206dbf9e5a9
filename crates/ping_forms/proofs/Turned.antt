-- The header and the samples of an uncompressed ping, turned: the row of every ping; samples as words, and the space behind them.
-- Assumes nothing.
use mathlib.Core.Path.{◌≡◌, refl, sym, ap, subst, ◌∙◌}
use mathlib.Core.Bool.{Bool, true, false, false≢true}
use mathlib.Core.List.{List, [], ◌∷◌, ◌++◌}
use Prim.Native.Nat.{ℕ, zero, suc, ◌+◌, ◌-◌, ◌*◌, ◌/◌, ◌%◌, ◌≤◌, ◌<◌}
use native.Mathlib.Nat.{mul-div_cancel_left}
use native.Mathlib.Omega.{arith}
use lib.Dec.{lit<}
use lib.ListN.{length, take, drop, replicate, get_or}
use lib.Seq.{sets, take-take, take-length, length-take-le}
use Rattle.order.specs.Order.{num_of, bytes_of, Bytes}
use Rattle.order.proofs.Stores.{stored-behind}
use Rattle.layout.specs.Fields.{Field}
use Rattle.layout.specs.Families.{Family, wide, narrow, encoded, wide_angles, narrow_angles, number_bytes, value_bytes, value_count, sample_bytes}
use Rattle.layout.specs.Types.{listings, uncompressed, shape_of, ping_row, fitting, lengths_u}
use Rattle.layout.specs.inner.Codes.{field_of, fields_of, row_codes}
use Rattle.turning.specs.Rows.{turned}
use Rattle.turning.proofs.Contents.{drop-take}
use Rattle.frame.specs.inner.Framing.{open_bytes, opening_bytes}
use Rattle.frame.proofs.Framing.{opening-stored}
use Rattle.samples.specs.Words.{words, all_words, unwords, samples, all_samples, unsampled, spaced}
use Rattle.samples.proofs.Words.{length-unsampled, samples-many, spaced-whole}
use Rattle.samples.proofs.Turning.{flat}
use Rattle.content.proofs.Families.{plain-whole}
use Rattle.content.proofs.Places.{Shaped, shaped}

-- ---- the first six codes of the U-32 ping's row are the header of every ping
pub header-fields : {r : List ℕ} → r ≡ get_or row_codes 10 [] → fields_of (take 6 r) ≡ ping_row
unfolding row_codes listings fields_of field_of
header-fields h = ap (λ (l : List ℕ). fields_of (take 6 l)) h

-- fields stored by them, behind size and type
pub header-stored : {r : List ℕ} → r ≡ get_or row_codes 10 [] → (o : Bool) (f out left : List ℕ) (to n k : ℕ)
    → left ≡ sets (sets out to (open_bytes false n k)) (to + 6) (turned o (fields_of (take 6 r)) f)
    → left ≡ sets out to (opening_bytes false n k (turned o ping_row f))
header-stored h o f out left to n k e =
    e
    ∙ ap (λ (fs : List Field). sets (sets out to (open_bytes false n k)) (to + 6) (turned o fs f)) (header-fields h)
    ∙ opening-stored false out to n k (turned o ping_row f)

-- ---- a space
spaced-two : (bs : List ℕ) → length bs % 4 ≡ 2 → spaced bs ≡ bs ++ bytes_of false 2 0
unfolding spaced
spaced-two bs e = ap (λ (n : ℕ). bs ++ replicate n 0) e

-- ---- words of the first bytes
words_take : (k : ℕ) (o : Bool) (n e : ℕ) (d : List ℕ) → n * k ≤ e → words k o n (take e d) ≡ words k o n d
unfolding words
words_take k o zero e d h = refl
words_take k o (suc n) e d h =
    rw (take-take k e d (omega arith), drop-take e k d)
    (ap (λ (l : List ℕ). num_of o (take k d) ∷ l) (words_take k o n (e - k) (drop k d) (omega arith)))

-- ---- samples whose numbers are as wide as their values: the words of the bytes of whole samples
module _ (f : Family) (w : ℕ) (some : 0 < w) (number : number_bytes f ≡ w) (value : value_bytes f ≡ w) where
  flat-all : (o : Bool) (d : List ℕ) → Bytes d → (n e : ℕ) → length d / sample_bytes f ≡ n → e ≡ n * sample_bytes f → e ≤ length d
      → unwords w false (all_words w o (take e d)) ≡ unsampled f false (all_samples f o d)
  unfolding all_words all_samples
  flat-all o d b n e q z h =
      let k = value_count f in
      let m = n * (1 + k) in
      let room : e ≡ w * m = z ∙ omega (arith, number, ap (λ (x : ℕ). n * (k * x)) value, ap (λ (x : ℕ). n * x) number) in
      let many : length (take e d) / w ≡ m =
      ap (λ (i : ℕ). i / w) (length-take-le e d h ∙ room) ∙ mul-div_cancel_left m some in
      ap (λ (i : ℕ). unwords w false (words w o i (take e d))) many
      ∙ ap (unwords w false) (words_take w o m e d (omega arith))
      ∙ sym (ap (λ (i : ℕ). unsampled f false (samples f o i d)) q ∙ flat f w number value o false n d b (omega arith))

-- ---- a part of samples of 6 bytes, and the space of two behind an odd number of them
module _ (m : ℕ) (h : fitting (lengths_u narrow_angles) (m + 32) ≡ true) where
  by-six : m / 6 * 6 + (m / 6 * 6) % 4 ≡ m
  by-six = omega (arith, plain-whole narrow_angles (m + 32) h)

  pub space-two : m - m % 6 < m → m % 6 ≡ 2
  space-two e = omega (arith, by-six)

-- ---- the samples of a part that fits its type, with the space behind them
module _ (o : Bool) (d : List ℕ) where
  size_of : (f : Family) → length (unsampled f false (all_samples f o d)) ≡ length d / sample_bytes f * sample_bytes f
  size_of f = length-unsampled f false (all_samples f o d) ∙ ap (λ (n : ℕ). n * sample_bytes f) (samples-many f o d)

  -- samples of 8 or of 4 bytes leave no space
  pub turned-angles : let bs = unsampled wide_angles false (all_samples wide_angles o d) in bs ≡ spaced bs
  turned-angles = sym (spaced-whole _ (omega (arith, size_of wide_angles)))

  module _ (b : Bytes d) where
    turned-flat : (f : Family) (w : ℕ) → 0 < w → number_bytes f ≡ w → value_bytes f ≡ w → ((n : ℕ) → (n * sample_bytes f) % 4 ≡ 0)
        → fitting (lengths_u f) (length d + 32) ≡ true → unwords w false (all_words w o d) ≡ spaced (unsampled f false (all_samples f o d))
    turned-flat f w some number value none h =
        let n = length d / sample_bytes f in
        let back : length d + 32 - 32 ≡ length d = omega arith in
        let size = rw back at (plain-whole f (length d + 32) h) in
        let long : length d ≡ n * sample_bytes f = omega (arith, size, none n) in
        ap (λ (l : List ℕ). unwords w false (all_words w o l)) (sym (take-length d))
        ∙ flat-all f w some number value o d b n (length d) refl long (omega arith)
        ∙ sym (spaced-whole _ (ap (λ (i : ℕ). i % 4) (size_of f) ∙ none n))

    pub turned-wide : fitting (lengths_u wide) (length d + 32) ≡ true
        → unwords 4 false (all_words 4 o d) ≡ spaced (unsampled wide false (all_samples wide o d))
    turned-wide = turned-flat wide 4 (lit< tt) refl refl (λ n. omega arith)

    pub turned-narrow : fitting (lengths_u narrow) (length d + 32) ≡ true
        → unwords 2 false (all_words 2 o d) ≡ spaced (unsampled narrow false (all_samples narrow o d))
    turned-narrow = turned-flat narrow 2 (lit< tt) refl refl (λ n. omega arith)

    -- those of 6 leave one of two bytes where their number is odd
    module _ (h : fitting (lengths_u narrow_angles) (length d + 32) ≡ true) where
      space : length (unsampled narrow_angles false (all_samples narrow_angles o d)) % 4 ≡ length d % 6
      space = ap (λ (n : ℕ). n % 4) (size_of narrow_angles) ∙ omega (arith, by-six (length d) h)

      -- e: where they end
      module _ (e : ℕ) (at : e ≡ length d - length d % 6) where
        triples : unwords 2 false (all_words 2 o (take e d)) ≡ unsampled narrow_angles false (all_samples narrow_angles o d)
        triples = flat-all narrow_angles 2 (lit< tt) refl refl o d b (length d / 6) e refl (omega arith) (omega arith)

        pub turned-even : length d ≤ e
            → unwords 2 false (all_words 2 o (take e d)) ≡ spaced (unsampled narrow_angles false (all_samples narrow_angles o d))
        turned-even l = triples ∙ sym (spaced-whole _ (space ∙ omega arith))

        pub turned-odd : e < length d → (out : List ℕ) (to q : ℕ) → q ≡ to + e
            → sets (sets out to (unwords 2 false (all_words 2 o (take e d)))) q (bytes_of false 2 0)
            ≡ sets out to (spaced (unsampled narrow_angles false (all_samples narrow_angles o d)))
        turned-odd l out to q z =
            let bs = unsampled narrow_angles false (all_samples narrow_angles o d) in
            ap (λ (x : List ℕ). sets (sets out to x) q (bytes_of false 2 0)) triples
            ∙ stored-behind bs (bytes_of false 2 0) out to q (omega (arith, size_of narrow_angles))
            ∙ ap (sets out to) (sym (spaced-two bs (space ∙ space-two (length d) h (omega arith))))

-- ---- by a ping's type: its family is f, and y by another name
module _ {f y : Family} (e : f ≡ y) where
  pub fits_as : (m : ℕ) → fitting (lengths_u f) m ≡ true → fitting (lengths_u y) m ≡ true
  fits_as m h = subst (λ (x : Family). fitting (lengths_u x) m ≡ true) e h

  pub turned_as : (o : Bool) (d out left : List ℕ) (to : ℕ) → left ≡ sets out to (spaced (unsampled y false (all_samples y o d)))
      → left ≡ sets out to (spaced (unsampled f false (all_samples f o d)))
  turned_as o d out left to h = h ∙ ap (λ (x : Family). sets out to (spaced (unsampled x false (all_samples x o d)))) (sym e)

-- an uncompressed ping that is of none of the other three types
pub last-family : (k : ℕ) (f : Family) → shape_of k ≡ uncompressed f → (k ≡ 10000 → ⊥) → (k ≡ 10001 → ⊥) → (k ≡ 10030 → ⊥)
    → f ≡ narrow_angles
last-family k f e u a n = by f (subst (Shaped k) e (shaped k))
  where
    by : (y : Family) → Shaped k (uncompressed y) → y ≡ narrow_angles
    by wide h = absurd (u h.0)
    by narrow h = absurd (n h.0)
    by encoded h = absurd (false≢true h.1)
    by wide_angles h = absurd (a h.0)
    by narrow_angles h = refl
