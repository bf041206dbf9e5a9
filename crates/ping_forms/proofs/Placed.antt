-- The normal form of a sound tuple at a place, by its length, its type code and its places in the file. Assumes nothing.
use mathlib.Core.Path.{◌≡◌, refl, sym, ap, ap₂, subst, ◌∙◌}
use mathlib.Core.Bool.{Bool, true, false, not, true≢false, false≢true}
use mathlib.Core.List.{List, []}
use Prim.Native.Nat.{ℕ, ◌+◌, ◌-◌, ◌*◌, ◌%◌, ◌^◌, ◌≤◌}
use native.Mathlib.Omega.{arith}
use borrow.Author.Tests.{le-leb, not-false}
use lib.ListN.{length, take, drop, length-drop}
use lib.Seq.{drop-drop, length-take-le}
use Rattle.order.specs.Order.{num_of, Bytes}
use Rattle.order.proofs.Laws.{bytes_drop}
use Rattle.layout.specs.Families.{Family, has_u, has_c, value_bytes, sample_bytes, radix_of, is_bad}
use Rattle.layout.specs.Types.{Shape, indexed, row, uncompressed, compressed, unlisted, classes, in_class, index, shape_of}
use Rattle.layout.specs.Types.{Length, fitting, length_from, lengths_u}
use Rattle.layout.specs.inner.Codes.{has_words}
use Rattle.rules.proofs.Bools.{or_left}
use Rattle.layout.proofs.Tables.{index_shape, lengths-from}
use Rattle.turning.proofs.Contents.{within-take}
use Rattle.frame.specs.Frames.{Tup, length_of, size_at, kind_at, tup_at, Framed}
use Rattle.frame.proofs.Frames.{length-frame, framed, allowed-most}
use Rattle.frame.proofs.Places.{Whole, body-place}
use Rattle.samples.specs.Words.{all_words, all_samples, Below}
use Rattle.samples.specs.Runs.{ping_length}
use Rattle.samples.specs.Values.{samples_in, words_for, held_words}
use Rattle.samples.proofs.Written.{Each}
use Rattle.content.specs.Pings.{part_in, count_in, words_in, content_u, content_c}
use Rattle.content.specs.Items.{item_of}
use Rattle.content.specs.Forms.{packs, form_bytes}
use Rattle.content.proofs.Fine.{upward-least}
use Rattle.content.proofs.Families.{plain_size, plain-least, some_sample_bytes}
use Rattle.content.proofs.Places.{Shaped, shaped, listed_c, length-place, part-place}
use Rattle.content.proofs.Pings.{words-below_c, words-some_c, short_c, twice_c}
use Rattle.content.proofs.Packing.{packs-by}
use Rattle.intake.proofs.Judges.{whole, sound-fits}
use Rattle.intake.specs.inner.Sound.{SoundHere}
use Rattle.ping_forms.specs.inner.Parts.{part_at, count_at, held_at, stays}
use Rattle.ping_forms.proofs.Formed.{form-index, form-raw, parts-row, parts_u, count_c, goods_c, parts_c_u, parts_c}
use Rattle.ping_forms.proofs.Formed.{type-index, type_row, type-raw, type-same}
use Rattle.ping_forms.specs.inner.Measured.{form_type}

-- a ping that isn't to stay compressed has an uncompressed kind
unpacked : (y : Family) (o : Bool) (d : List ℕ) → packs (content_c y o d) ≡ false → has_u y ≡ true
unfolding packs content_c
unpacked y o d h = not-false _ (or_left (not (has_u y)) _ h)

-- ---- a type code by the code's tests
pub within-index : (k : ℕ) → in_class index k ≡ false → (65406 ≤ k) × (k ≤ 65515) → ⊥
unfolding in_class classes
within-index k e h = false≢true (sym e ∙ rw (le-leb 65406 k h.0, le-leb k 65515 h.1))

module _ {o : Bool} {f : List ℕ} {at n k : ℕ} (s : SoundHere o f at n k) where
  abbrev t : Tup
  t = tup_at o (drop at f)

  pub there : Whole o f at n
  there = whole s.here

  pub most : (16 ≤ n) × (n ≤ 262144) × (at + n ≤ length f)
  most = (there.long, allowed-most n there.allowed, there.fits)

  fits_by : {q : Shape} → shape_of k ≡ q → fitting (length_from q) n ≡ true
  fits_by e = ap (λ (l : Length). fitting l n) (sym (lengths-from k ∙ ap length_from e)) ∙ sound-fits s

  pub shape_of_lem : shape_of (kind_at o (drop at f)) ≡ shape_of k
  shape_of_lem = ap shape_of s.here.kind

  pub size_of : length_of (tup_at o (drop at f)) ≡ n
  size_of = length-place o f at n there

  pub framed-here : Bytes f → Framed t
  framed-here b = framed o (drop at f) (bytes_drop at f b) s.here.framed

  -- none, for the index class
  pub none-index : in_class index k ≡ true → form_bytes o (tup_at o (drop at f)) ≡ []
  none-index e = form-index o t (shape_of_lem ∙ index_shape k e)

  pub measured-index : in_class index k ≡ true → (0 ≡ length (form_bytes o (tup_at o (drop at f)))) × (0 ≤ 2 * n)
  measured-index e = (ap length (sym (none-index e)), omega arith)

  -- as many as the tuple has, for all but compressed pings
  pub measured-whole : Bytes f → in_class index k ≡ false → has_words (shape_of k) ≡ false
      → (n ≡ length (form_bytes o (tup_at o (drop at f)))) × (n ≤ 2 * n)
  measured-whole b e c = (sym (by (shape_of k) refl (shaped k) c), omega arith)
    where
      by : (q : Shape) → shape_of k ≡ q → Shaped k q → has_words q ≡ false → length (form_bytes o t) ≡ n
      by indexed z h d = absurd (within-index k e h)
      by (row fs x) z h d = (parts-row o t s.own fs x (shape_of_lem ∙ z)).long ∙ size_of
      by (uncompressed y) z h d = (parts_u o t s.own y (shape_of_lem ∙ z) (framed-here b)).long ∙ size_of
      by (compressed y) z h d = absurd (true≢false d)
      by unlisted z h d = ap length (form-raw o t (shape_of_lem ∙ z)) ∙ length-frame false t ∙ size_of

  -- and of its type
  pub type-within : in_class index k ≡ true → k ≡ form_type k (item_of o (tup_at o (drop at f)))
  type-within e = type-index o t k (shape_of_lem ∙ index_shape k e)

  pub type-whole : Bytes f → in_class index k ≡ false → has_words (shape_of k) ≡ false → k ≡ form_type k (item_of o (tup_at o (drop at f)))
  type-whole b e c = by (shape_of k) refl (shaped k) c
    where
      by : (q : Shape) → shape_of k ≡ q → Shaped k q → has_words q ≡ false → k ≡ form_type k (item_of o t)
      by indexed z h d = absurd (within-index k e h)
      by (row fs x) z h d = sym s.here.kind ∙ type_row o t k fs x (shape_of_lem ∙ z)
      by (uncompressed y) z h d = h.0 ∙ type-same o t s.own y (shape_of_lem ∙ z) (framed-here b) k
      by (compressed y) z h d = absurd (true≢false d)
      by unlisted z h d = sym s.here.kind ∙ type-raw o t k (shape_of_lem ∙ z)

  -- what stands between a header of a bytes and the attribute
  pub part-there : (a : ℕ) → a + 14 ≤ n → part_in a (tup_at o (drop at f)).body ≡ part_at f at n (6 + a)
  part-there a h =
      let z : n - 14 - a ≡ at + (n - 8) - (at + (6 + a)) = omega arith in
      part-place o f at n there a h ∙ ap (λ (i : ℕ). take i (drop (at + (6 + a)) f)) z

  pub part_length_lem : (p : ℕ) → p + 8 ≤ n → length (part_at f at n p) ≡ n - (p + 8)
  part_length_lem p h =
      length-take-le (at + (n - 8) - (at + p)) (drop (at + p) f) (simp length-drop (omega (arith, there.fits))) ∙ omega arith

  -- ---- an uncompressed ping
  module _ (y : Family) (e : shape_of k ≡ uncompressed y) where
    pub fits-plain : fitting (lengths_u y) n ≡ true
    fits-plain = fits_by e

    pub long-plain : 36 ≤ n
    long-plain = omega (arith, plain-least y n fits-plain, some_sample_bytes y)

    pub samples-there : (content_u y o (tup_at o (drop at f)).body).samples ≡ all_samples y o (part_at f at n 24)
    unfolding content_u
    samples-there = ap (all_samples y o) (part-there 18 (omega (arith, long-plain)))

  -- ---- a compressed ping
  module _ (y : Family) (e : shape_of k ≡ compressed y) where
    pub long-words : 40 ≤ n
    long-words = upward-least 40 n _ (fits_by e)

    listed : has_c y ≡ true
    listed = listed_c k y e

    body-long : 30 ≤ length t.body
    body-long = omega (arith, size_of, long-words)

    -- its number of samples, by its place
    count-there : count_in o (tup_at o (drop at f)).body ≡ count_at o f at
    unfolding count_in
    count-there =
        let m = size_at o (drop at f) in
        let z : at + 6 + 18 ≡ at + 24 = omega arith in
        ap (λ (d : List ℕ). num_of o (take 4 (drop 18 d))) (body-place o f at)
        ∙ ap (num_of o) (within-take m 18 4 (drop (at + 6) f) (omega (arith, there.size, long-words)))
        ∙ ap (λ (d : List ℕ). num_of o (take 4 d)) (drop-drop 18 (at + 6) f ∙ ap (λ (i : ℕ). drop i f) z)

    -- and its words
    pub words-here : words_in y o (tup_at o (drop at f)).body ≡ held_at y o f at n
    unfolding words_in
    words-here =
        ap₂ (λ (i : ℕ) (l : List ℕ). held_words y i (all_words (value_bytes y) o l)) count-there (part-there 22 (omega (arith, long-words)))

    pub content-here : ((content_c y o (tup_at o (drop at f)).body).samples ≡ samples_in y (held_at y o f at n))
        × ((content_c y o (tup_at o (drop at f)).body).length ≡ ping_length (radix_of y) (held_at y o f at n))
    unfolding content_c
    content-here = (ap (samples_in y) words-here, ap (ping_length (radix_of y)) words-here)

    -- it counts its samples
    pub count_of_lem : count_at o f at ≡ length (samples_in y (held_at y o f at n))
    count_of_lem = sym count-there ∙ count_c o t s.own y (shape_of_lem ∙ e) ∙ ap length content-here.0

    -- every word is within its limits, and there is one
    pub words-good : Bytes f → Below (256 ^ value_bytes y) (held_at y o f at n) × Each (λ (w : ℕ). is_bad y w ≡ false) (held_at y o f at n)
    words-good b = (
      subst (Below (256 ^ value_bytes y)) words-here
          (words-below_c o t (framed-here b) (omega (arith, body-long)) y listed body-long),
      subst (Each (λ (w : ℕ). is_bad y w ≡ false)) words-here (goods_c o t s.own y (shape_of_lem ∙ e)),
    )

    some-here : Bytes f → 1 ≤ length (words_in y o t.body)
    some-here b = words-some_c o t (framed-here b) (omega (arith, body-long)) y listed body-long

    -- whether it stays compressed, by its words
    pub packs-here : Bytes f → has_u y ≡ true → packs (content_c y o (tup_at o (drop at f)).body) ≡ stays y (held_at y o f at n)
    packs-here b both = packs-by y both listed o t.body (some-here b) ∙ ap (stays y) words-here

    -- ---- its form: the words us, its fewest; or its samples
    module _ (b : Bytes f) where
      pub measured-packed : packs (content_c y o (tup_at o (drop at f)).body) ≡ true → (us : List ℕ)
          → words_for y (samples_in y (held_at y o f at n)) (ping_length (radix_of y) (held_at y o f at n)) ≡ us → (m : ℕ)
          → m ≡ 36 + (value_bytes y * length us + (value_bytes y * length us) % 4)
          → (m ≡ length (form_bytes o (tup_at o (drop at f)))) × (m ≤ n)
      measured-packed h us u m z =
          let c = content_c y o t.body in
          let words : words_for y c.samples c.length ≡ us = (λ i. words_for y (content-here.0 i) (content-here.1 i)) ∙ u in
          let size : m ≡ 36 + (value_bytes y * length (words_for y c.samples c.length)
          + (value_bytes y * length (words_for y c.samples c.length)) % 4) =
          z ∙ ap (λ (l : List ℕ). 36 + (value_bytes y * length l + (value_bytes y * length l) % 4)) (sym words) in (
            sym (parts_c o t s.own y (shape_of_lem ∙ e) m size h).long,
            omega (arith, short_c o t (framed-here b) (omega (arith, body-long)) y listed body-long, size_of),
          )

      pub measured-sampled : has_u y ≡ true → packs (content_c y o (tup_at o (drop at f)).body) ≡ false → (m : ℕ)
          → m ≡ plain_size (sample_bytes y) (count_at o f at) → (m ≡ length (form_bytes o (tup_at o (drop at f)))) × (m ≤ 2 * n)
      measured-sampled both h m z =
          let size = z ∙ ap (plain_size (sample_bytes y)) (count_of_lem ∙ ap length (sym content-here.0)) in (
            sym (parts_c_u o t s.own y (shape_of_lem ∙ e) m size h).long,
            omega (arith, size, twice_c o t (framed-here b) (omega (arith, body-long)) y listed body-long both, size_of),
          )

  -- so a form is at most twice as long as its tuple
  pub at-most-twice : Bytes f → length (form_bytes o (tup_at o (drop at f))) ≤ 2 * n
  at-most-twice b = by_index (in_class index k) refl
    where
      measured : {m : ℕ} → (m ≡ length (form_bytes o (tup_at o (drop at f)))) × (m ≤ 2 * n)
          → length (form_bytes o (tup_at o (drop at f))) ≤ 2 * n
      measured h = omega (arith, h.0, h.1)

      by-words : (y : Family) (e : shape_of k ≡ compressed y) (p : Bool) → packs (content_c y o t.body) ≡ p
          → length (form_bytes o (tup_at o (drop at f))) ≤ 2 * n
      by-words y e true h = let m = measured-packed y e b h _ refl _ refl in omega (arith, m.0, m.1)
      by-words y e false h = measured (measured-sampled y e b (unpacked y o t.body h) h _ refl)

      by_shape : in_class index k ≡ false → (q : Shape) → shape_of k ≡ q → length (form_bytes o (tup_at o (drop at f))) ≤ 2 * n
      by_shape i indexed z = measured (measured-whole b i (ap has_words z))
      by_shape i (row fs x) z = measured (measured-whole b i (ap has_words z))
      by_shape i (uncompressed y) z = measured (measured-whole b i (ap has_words z))
      by_shape i (compressed y) z = by-words y z (packs (content_c y o t.body)) refl
      by_shape i unlisted z = measured (measured-whole b i (ap has_words z))

      by_index : (d : Bool) → in_class index k ≡ d → length (form_bytes o (tup_at o (drop at f))) ≤ 2 * n
      by_index true i = measured (measured-index i)
      by_index false i = by_shape i (shape_of k) refl
