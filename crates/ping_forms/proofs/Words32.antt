-- The normal form of a C-32 ping at a place, by its words. Assumes nothing.
use mathlib.Core.Path.{◌≡◌, refl, sym, ap, ◌∙◌}
use mathlib.Core.Bool.{Bool, true, false, ◌||◌, or-false}
use mathlib.Core.List.{List}
use Prim.Native.Nat.{ℕ, ◌+◌, ◌-◌, ◌*◌, ◌%◌, ◌^◌, ◌≤◌, ◌<◌}
use native.Mathlib.Omega.{arith}
use borrow.Author.Tests.{le-ltb}
use lib.Dec.{lit<}
use lib.ListN.{length, take, drop}
use lib.Seq.{sets}
use Rattle.order.specs.Order.{num_of, bytes_of, Bytes}
use Rattle.layout.specs.Families.{wide}
use Rattle.layout.specs.Types.{compressed, shape_of, ping_row}
use Rattle.turning.specs.Rows.{turned}
use Rattle.frame.specs.Frames.{tup_at}
use Rattle.frame.specs.inner.Framing.{opening_bytes, close_bytes}
use Rattle.frame.proofs.Frames.{allowed-most, allowed_4}
use Rattle.samples.specs.Words.{Sample, all_words, unsampled, spaced}
use Rattle.samples.specs.Runs.{radix, decode, samples_from, ends_from, ping_length}
use Rattle.samples.specs.Values.{meant, samples_in, words_for, has_space, held_words}
use Rattle.samples.specs.inner.Packing.{packed, same, PackedAt}
use Rattle.samples.proofs.Words.{length-unsampled, spaced-whole}
use Rattle.samples.proofs.Turning.{length-all}
use Rattle.samples.proofs.Lengths.{samples-few}
use Rattle.samples.proofs.Written.{samples-same}
use Rattle.samples.proofs.Respelled.{packed-wide}
use Rattle.content.specs.Pings.{content_c}
use Rattle.content.specs.Forms.{packs, form_bytes}
use Rattle.content.proofs.Families.{shape_c}
use Rattle.intake.specs.inner.Sound.{SoundHere}
use Rattle.ping_forms.specs.inner.Parts.{part_at, count_at, held_at, stays}
use Rattle.ping_forms.proofs.Formed.{type_c_lem, type_c_u}
use Rattle.ping_forms.specs.inner.Measured.{form_type}
use Rattle.content.specs.Items.{item_of}
use Rattle.ping_forms.proofs.Placed.{there, part_length_lem, long-words, count_of_lem, packs-here, measured-packed, measured-sampled}
use Rattle.ping_forms.proofs.Placed.{shape_of_lem}
use Rattle.ping_forms.proofs.Written.{sampled-written, packed-written}

module _ {o : Bool} {f : List ℕ} {at n : ℕ} (s : SoundHere o f at n 10010) where
  shape : shape_of 10010 ≡ compressed wide
  shape = shape_c wide refl

  pub long : 40 ≤ n
  long = long-words s wide shape

  abbrev words : List ℕ
  words = all_words 4 o (part_at f at n 28)

  -- words of four bytes have no space behind them, and are their own values
  held : held_at wide o f at n ≡ words
  unfolding held_words has_space
  held = refl

  says : samples_in wide (held_at wide o f at n) ≡ decode radix words
  says = samples-same wide (λ w. unfold meant in refl) (held_at wide o f at n) ∙ ap (decode radix) held

  -- the part that they fill
  pub words-part : (4 ≤ length (part_at f at n 28)) × (length (part_at f at n 28) % 4 ≡ 0) × (length (part_at f at n 28) ≤ 262108)
  words-part =
      let size = part_length_lem s 28 (omega (arith, long)) in
      let four = allowed_4 n (there s).allowed in
      (omega (arith, long), omega (arith, long), omega (arith, allowed-most n (there s).allowed))

  pub counted : count_at o f at ≡ length (decode radix words)
  counted = count_of_lem s wide shape ∙ ap length says

  module _ (b : Bytes f) where
    -- they never number past four bytes: so it stays compressed where the last is a run
    packs-end : packs (content_c wide o (tup_at o (drop at f)).body) ≡ ends_from radix false words
    packs-end =
        let few = samples-few radix (lit< tt) words 0 in
        let many = length-all 4 o (part_at f at n 28) in
        let size = words-part.2 in
        packs-here s wide shape b refl
        ∙ ap (stays wide) held
        ∙ ap (λ (x : Bool). ends_from radix false words || x) (le-ltb (256 ^ 4) (samples_from radix 0 words) (omega arith))
        ∙ or-false (ends_from radix false words)

    fewest-packed : words_for wide (samples_in wide (held_at wide o f at n)) (ping_length radix (held_at wide o f at n))
        ≡ packed radix same words
    fewest-packed = packed-wide (held_at wide o f at n) ∙ ap (packed radix same) held

    -- ---- as many bytes as there are packed words, where the last one is a run; else as its number of samples c says
    pub length-packed : ends_from radix false words ≡ true → (m : ℕ) → m ≡ length (packed radix same words)
        → (28 + 4 * m + 8 ≡ length (form_bytes o (tup_at o (drop at f)))) × (28 + 4 * m + 8 ≤ 2 * n)
    length-packed h m e =
        let r = measured-packed s wide shape b (packs-end ∙ h) (packed radix same words) fewest-packed (28 + 4 * m + 8)
        (omega (arith, e)) in
        (r.0, omega (arith, r.1))

    pub length-sampled : ends_from radix false words ≡ false → (c : ℕ) → c ≡ count_at o f at
        → (24 + 8 * c + 8 ≡ length (form_bytes o (tup_at o (drop at f)))) × (24 + 8 * c + 8 ≤ 2 * n)
    length-sampled h c e = measured-sampled s wide shape b refl (packs-end ∙ h) (24 + 8 * c + 8) (omega (arith, e))

    -- and its form's type
    pub type-packed : ends_from radix false words ≡ true → 10010 ≡ form_type 10010 (item_of o (tup_at o (drop at f)))
    type-packed h = type_c_lem o (tup_at o (drop at f)) 10010 wide (shape_of_lem s ∙ shape) (packs-end ∙ h)

    pub type-sampled : ends_from radix false words ≡ false → 10000 ≡ form_type 10010 (item_of o (tup_at o (drop at f)))
    type-sampled h = type_c_u o (tup_at o (drop at f)) 10010 wide (shape_of_lem s ∙ shape) (packs-end ∙ h)

    -- ---- what is stored
    module _ (out left : List ℕ) (to : ℕ) where
      pub sampled-stored : ends_from radix false words ≡ false → (j : ℕ) → j ≡ 24 + 8 * count_at o f at + 8
          → left
          ≡ sets
          (sets (sets out to (opening_bytes false j 10000 (turned o ping_row (drop (at + 6) f)))) (to + 24)
          (unsampled wide false (decode radix words)))
          (to + (j - 8))
          (close_bytes false j (num_of o (take 4 (drop (at + (n - 8)) f))))
          → left ≡ sets out to (form_bytes o (tup_at o (drop at f)))
      sampled-stored h j z w =
          let bytes = unsampled wide false (decode radix words) in
          let whole : spaced bytes ≡ bytes = spaced-whole bytes (omega (arith, length-unsampled wide false (decode radix words))) in
          sampled-written s out left to b wide shape (packs-end ∙ h) j (omega (arith, z))
          (w ∙ ap (λ (m : List ℕ). sets (sets (sets out to (opening_bytes false j 10000 (turned o ping_row (drop (at + 6) f)))) (to + 24) m)
          (to + (j - 8)) (close_bytes false j (num_of o (take 4 (drop (at + (n - 8)) f)))))
          (sym (ap (λ (x : List Sample). spaced (unsampled wide false x)) says ∙ whole)))

      pub packed-stored : ends_from radix false words ≡ true → (j c q : ℕ) (l : List ℕ)
          → q ≡ to + 28 + 4 * length (packed radix same words)
          → j ≡ q - to + 8
          → c ≡ count_at o f at
          → PackedAt 4 out (to + 28) (packed radix same words) l q
          → left
          ≡ sets
          (sets (sets l q (close_bytes false j (num_of o (take 4 (drop (at + (n - 8)) f))))) to
          (opening_bytes false j 10010 (turned o ping_row (drop (at + 6) f))))
          (to + 24) (bytes_of false 4 c)
          → left ≡ sets out to (form_bytes o (tup_at o (drop at f)))
      packed-stored h j c q l place z count there-packed w =
          let us = packed radix same words in
          let none : (4 * length us) % 4 ≡ 0 = omega arith in
          packed-written s out left to b wide shape (packs-end ∙ h) us fewest-packed j c q l place (omega arith) count there-packed
          (rw none w)
