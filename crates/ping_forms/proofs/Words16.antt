-- The normal form of a C-16 or a CE-16 ping at a place, by its words. Assumes nothing.
use mathlib.Core.Path.{◌≡◌, refl, sym, ap, ◌∙◌}
use mathlib.Core.Bool.{Bool, true, false, true≢false}
use mathlib.Core.List.{List, [], ◌∷◌, ◌++◌}
use Prim.Native.Nat.{ℕ, ◌+◌, ◌-◌, ◌*◌, ◌%◌, ◌≤◌, ◌<◌}
use native.Mathlib.Omega.{arith}
use borrow.Author.Tests.{ltb-false, eqb-true, eqb-false}
use lib.Dec.{eqb, ltb, lit<}
use lib.ListN.{length, take, drop, replicate, length-drop}
use lib.Seq.{sets, length-take-le}
use Rattle.order.specs.Order.{num_of, bytes_of, Bytes}
use Rattle.rules.proofs.Bools.{or_left, or_right}
use Rattle.layout.specs.Families.{narrow, encoded, type_c, radix_of, value_bytes}
use Rattle.layout.specs.Types.{compressed, listings, shape_of, ping_row}
use Rattle.layout.specs.inner.Codes.{has_words}
use Rattle.layout.proofs.Tables.{NoneOf}
use Rattle.layout.proofs.Families.{no_words}
use Rattle.turning.specs.Rows.{turned}
use Rattle.frame.specs.Frames.{tup_at}
use Rattle.frame.specs.inner.Framing.{opening_bytes, close_bytes}
use Rattle.frame.proofs.Frames.{allowed-most, allowed_4}
use Rattle.samples.specs.Words.{Sample, all_words, unsampled, spaced}
use Rattle.samples.specs.Runs.{decode, samples_from, ends_from, ping_length, behind}
use Rattle.samples.specs.Values.{meant, samples_in, words_for, has_space, held_words}
use Rattle.samples.specs.inner.Narrow.{words_by, respelled}
use Rattle.samples.specs.inner.Packing.{packed, PackedAt}
use Rattle.samples.proofs.Words.{length-unsampled, spaced-whole}
use Rattle.samples.proofs.Runs.{by_bool, ends-behind}
use Rattle.samples.proofs.Written.{samples-same}
use Rattle.samples.proofs.Respelled.{packed-narrow}
use Rattle.content.specs.Pings.{content_c}
use Rattle.content.specs.Forms.{packs, form_bytes}
use Rattle.content.proofs.Families.{shape_c}
use Rattle.content.proofs.Packing.{packs_always}
use Rattle.intake.specs.inner.Sound.{SoundHere}
use Rattle.ping_forms.specs.inner.Parts.{part_at, count_at, held_at, WordsEnd, stays, stays_by}
use Rattle.ping_forms.proofs.Formed.{type_c_lem, type_c_u}
use Rattle.ping_forms.specs.inner.Measured.{form_type}
use Rattle.content.specs.Items.{item_of}
use Rattle.ping_forms.proofs.Placed.{there, part_length_lem, long-words, count_of_lem, words-good, packs-here, measured-packed, shape_of_lem}
use Rattle.ping_forms.proofs.Placed.{measured-sampled}
use Rattle.ping_forms.proofs.Written.{sampled-written, packed-written}

-- both kinds are compressed ones, of words of two bytes
pub shape-by : (b : Bool) → shape_of (type_c (words_by b)) ≡ compressed (words_by b)
shape-by true = shape_c encoded refl
shape-by false = shape_c narrow refl

module _ (b : Bool) {o : Bool} {f : List ℕ} {at n : ℕ} (s : SoundHere o f at n (type_c (words_by b))) where
  abbrev held : List ℕ
  held = held_at (words_by b) o f at n

  pub long : 40 ≤ n
  long = long-words s (words_by b) (shape-by b)

  -- the part that words and a space fill
  pub words-part : (4 ≤ length (part_at f at n 28)) × (length (part_at f at n 28) % 4 ≡ 0) × (length (part_at f at n 28) ≤ 262108)
  words-part =
      let size = part_length_lem s 28 (omega (arith, long)) in
      let four = allowed_4 n (there s).allowed in
      (omega (arith, long), omega (arith, long), omega (arith, allowed-most n (there s).allowed))

  -- the part that words alone fill
  module _ {end : ℕ} (w : WordsEnd (words_by b) o f at n end) where
    abbrev part : List ℕ
    part = take (at + end - (at + 28)) (drop (at + 28) f)

    pub held-part : (2 ≤ length part) × (length part % 2 ≡ 0) × (length part ≤ 262108)
    held-part =
        let size : length part ≡ end - 28 =
        length-take-le (at + end - (at + 28)) (drop (at + 28) f) (simp length-drop (omega (arith, (there s).fits, w.most)))
        ∙ omega (arith, w.least) in
        let even = w.even in
        (omega (arith, w.least), omega (arith, w.least), omega (arith, w.most, allowed-most n (there s).allowed))

-- the words that are held, by either kind's name
pub held_by_lem : (b o : Bool) (count : ℕ) (part : List ℕ)
    → held_words narrow count (all_words 2 o part) ≡ held_words (words_by b) count (all_words (value_bytes (words_by b)) o part)
unfolding held_words has_space
held_by_lem true o count part = refl
held_by_lem false o count part = refl

-- ---- by its kind: whether it stays compressed, and its fewest words
packs-stays : (b : Bool) {o : Bool} {f : List ℕ} {at n : ℕ} → SoundHere o f at n (type_c (words_by b)) → Bytes f
    → packs (content_c (words_by b) o (tup_at o (drop at f)).body) ≡ stays_by b (held_at (words_by b) o f at n)
packs-stays true {o} {f} {at} s bytes = packs_always encoded refl o (tup_at o (drop at f)).body
packs-stays false s bytes = packs-here s narrow (shape-by false) bytes refl

fewest-packed : (b : Bool) {o : Bool} {f : List ℕ} {at n : ℕ} → SoundHere o f at n (type_c (words_by b)) → Bytes f
    → let held = held_at (words_by b) o f at n in
    words_for (words_by b) (samples_in (words_by b) held) (ping_length (radix_of (words_by b)) held) ≡ packed 256 respelled held
fewest-packed true s bytes = let g = words-good s encoded (shape-by true) bytes in packed-narrow true _ g.0 g.1
fewest-packed false s bytes = let g = words-good s narrow (shape-by false) bytes in packed-narrow false _ g.0 g.1

-- as many bytes as there are packed words, with a space where one is needed
pub length-packed : (b : Bool) {o : Bool} {f : List ℕ} {at n : ℕ} → SoundHere o f at n (type_c (words_by b)) → Bytes f
    → let held = held_at (words_by b) o f at n in
    stays_by b held ≡ true → (m : ℕ) → m ≡ length (packed 256 respelled held)
    → (28 + (2 * m + (2 * m) % 4) + 8 ≡ length (form_bytes o (tup_at o (drop at f)))) × (28 + (2 * m + (2 * m) % 4) + 8 ≤ n)
length-packed true s bytes h m e =
    measured-packed s encoded (shape-by true) bytes (packs-stays true s bytes ∙ h) _ (fewest-packed true s bytes)
    (28 + (2 * m + (2 * m) % 4) + 8) (rw (← e) (omega arith))
length-packed false s bytes h m e =
    measured-packed s narrow (shape-by false) bytes (packs-stays false s bytes ∙ h) _ (fewest-packed false s bytes)
    (28 + (2 * m + (2 * m) % 4) + 8) (rw (← e) (omega arith))

-- what is stored: its words us, up to q, then a space, attribute and backlink behind them, then what is before them
module _ (o : Bool) (f : List ℕ) (at n : ℕ) (bytes : Bytes f) (out left : List ℕ) (to j c q : ℕ) (l : List ℕ) where
  abbrev Stored : Bool → List ℕ → Type 0
  Stored b us =
      left
      ≡ sets
      (sets (sets l q (replicate ((2 * length us) % 4) 0 ++ close_bytes false j (num_of o (take 4 (drop (at + (n - 8)) f))))) to
      (opening_bytes false j (type_c (words_by b)) (turned o ping_row (drop (at + 6) f))))
      (to + 24) (bytes_of false 4 c)

  pub packed-stored : (b : Bool) → SoundHere o f at n (type_c (words_by b))
      → let held = held_at (words_by b) o f at n in
      let us = packed 256 respelled held in
      stays_by b held ≡ true → q ≡ to + 28 + 2 * length us → j ≡ 36 + (2 * length us + (2 * length us) % 4) → c ≡ count_at o f at
      → PackedAt 2 out (to + 28) us l q → Stored b us → left ≡ sets out to (form_bytes o (tup_at o (drop at f)))
  packed-stored true s h place z count there-packed w =
      packed-written s out left to bytes encoded (shape-by true) (packs-stays true s bytes ∙ h) _
      (fewest-packed true s bytes) j c q l place z
      count there-packed w
  packed-stored false s h place z count there-packed w =
      packed-written s out left to bytes narrow (shape-by false) (packs-stays false s bytes ∙ h) _
      (fewest-packed false s bytes) j c q l place z
      count there-packed w

-- ---- a C-16 ping that U-16 can say
module _ {o : Bool} {f : List ℕ} {at n : ℕ} (s : SoundHere o f at n 10040) where
  abbrev words : List ℕ
  words = held_at narrow o f at n

  says : samples_in narrow words ≡ decode 256 words
  says = samples-same narrow (λ w. unfold meant in refl) words

  pub counted : count_at o f at ≡ length (decode 256 words)
  counted = count_of_lem s narrow (shape-by false) ∙ ap length says

  -- no number is past two bytes
  pub numbered : stays narrow words ≡ false → behind 0 (decode 256 words) ≤ 65536
  numbered h =
      let ends = or_left (ends_from 256 false words) (ltb 65536 (samples_from 256 0 words)) h in
      let few = ltb-false 65536 (samples_from 256 0 words) (or_right (ends_from 256 false words) (ltb 65536 (samples_from 256 0 words)) h) in
      omega (arith, ends-behind 256 (lit< tt) words ends)

  module _ (bytes : Bytes f) (h : stays narrow words ≡ false) where
    pub length-sampled : (c : ℕ) → c ≡ count_at o f at
        → (24 + 4 * c + 8 ≡ length (form_bytes o (tup_at o (drop at f)))) × (24 + 4 * c + 8 ≤ 2 * n)
    length-sampled c e =
        measured-sampled s narrow (shape-by false) bytes refl (packs-stays false s bytes ∙ h) (24 + 4 * c + 8) (omega (arith, e))

    -- three stores: header, samples of the words, and the end
    pub sampled-stored : (out : List ℕ) {opened filled left ws : List ℕ} (to j : ℕ) → j ≡ 24 + 4 * count_at o f at + 8
        → opened ≡ sets out to (opening_bytes false j 10030 (turned o ping_row (drop (at + 6) f)))
        → filled ≡ sets opened (to + 24) (unsampled narrow false (decode 256 ws)) → ws ≡ words
        → left ≡ sets filled (to + (j - 8)) (close_bytes false j (num_of o (take 4 (drop (at + (n - 8)) f))))
        → left ≡ sets out to (form_bytes o (tup_at o (drop at f)))
    sampled-stored out {opened = opened} to j z first second same third =
        let bs = unsampled narrow false (decode 256 words) in
        let opening = opening_bytes false j 10030 (turned o ping_row (drop (at + 6) f)) in
        let close = close_bytes false j (num_of o (take 4 (drop (at + (n - 8)) f))) in
        let whole : spaced bs ≡ bs = spaced-whole bs (omega (arith, length-unsampled narrow false (decode 256 words))) in
        let middle = second ∙ ap (λ (ws : List ℕ). sets opened (to + 24) (unsampled narrow false (decode 256 ws))) same in
        sampled-written s out _ to bytes narrow (shape-by false) (packs-stays false s bytes ∙ h) j (omega (arith, z))
        (third
        ∙ ap (λ (m : List ℕ). sets m (to + (j - 8)) close) (middle ∙ ap (λ (m : List ℕ). sets m (to + 24) bs) first)
        ∙ ap (λ (m : List ℕ). sets (sets (sets out to opening) (to + 24) m) (to + (j - 8)) close)
        (sym (ap (λ (x : List Sample). spaced (unsampled narrow false x)) says ∙ whole)))

-- the same of either kind, where it doesn't stay compressed: it is a C-16 ping then
pub unencoded : (b : Bool) (ws : List ℕ) → stays_by b ws ≡ false → b ≡ false
unencoded true ws e = absurd (true≢false e)
unencoded false ws e = refl

pub length-counted : (b : Bool) {o : Bool} {f : List ℕ} {at n : ℕ} → SoundHere o f at n (type_c (words_by b)) → Bytes f
    → stays_by b (held_at (words_by b) o f at n) ≡ false → (c : ℕ) → c ≡ count_at o f at
    → (24 + 4 * c + 8 ≡ length (form_bytes o (tup_at o (drop at f)))) × (24 + 4 * c + 8 ≤ 2 * n)
length-counted true s bytes h c e = absurd (true≢false h)
length-counted false s bytes h c e = length-sampled s bytes h c e

-- the form's type: its own, or U-16
pub type-packed : (b : Bool) {o : Bool} {f : List ℕ} {at n : ℕ} → SoundHere o f at n (type_c (words_by b)) → Bytes f
    → stays_by b (held_at (words_by b) o f at n) ≡ true
    → type_c (words_by b) ≡ form_type (type_c (words_by b)) (item_of o (tup_at o (drop at f)))
type-packed true {o} {f} {at} s bytes h =
    type_c_lem o (tup_at o (drop at f)) 10050 encoded (shape_of_lem s ∙ shape-by true) (packs-stays true s bytes ∙ h)
type-packed false {o} {f} {at} s bytes h =
    type_c_lem o (tup_at o (drop at f)) 10040 narrow (shape_of_lem s ∙ shape-by false) (packs-stays false s bytes ∙ h)

pub type-counted : (b : Bool) {o : Bool} {f : List ℕ} {at n : ℕ} → SoundHere o f at n (type_c (words_by b)) → Bytes f
    → stays_by b (held_at (words_by b) o f at n) ≡ false → 10030 ≡ form_type (type_c (words_by b)) (item_of o (tup_at o (drop at f)))
type-counted true s bytes h = absurd (true≢false h)
type-counted false {o} {f} {at} s bytes h =
    type_c_u o (tup_at o (drop at f)) 10040 narrow (shape_of_lem s ∙ shape-by false) (packs-stays false s bytes ∙ h)

-- a type of words that is neither C-32's nor C-16's is CE-16's
pub encoded-left : (k : ℕ) → has_words (shape_of k) ≡ true → NoneOf (10040 ∷ 10010 ∷ []) k → k ≡ 10050
unfolding listings
encoded-left k h n =
    by_bool (eqb k 10050) (eqb-true k 10050) (λ e. absurd (true≢false (sym h ∙ no_words k (n, eqb-false k 10050 e))))
