-- What a ping's part says, by the shape of its type, as the readers of each kind have it. Assumes nothing.
use mathlib.Core.Path.{◌≡◌, refl, sym, ap, ap₂, subst, ◌∙◌}
use mathlib.Core.Bool.{Bool, true, false, true≢false}
use mathlib.Core.List.{List, [], ◌∷◌}
use mathlib.Core.Option.{none}
use Prim.Native.Nat.{ℕ, ◌-◌, ◌/◌, ◌%◌, ◌≤◌}
use native.Mathlib.Omega.{arith}
use lib.IntN.{ℤ}
use lib.ListN.{length, take, drop, length-drop}
use lib.Seq.{sets, length-take-le}
use Rattle.order.specs.Order.{num_of}
use Rattle.layout.specs.Families.{Family, wide, narrow, type_u, type_c, has_u, has_c, sample_bytes}
use Rattle.layout.specs.Types.{Shape, indexed, row, uncompressed, compressed, unlisted, listings, shape_of, has_samples, is_ping}
use Rattle.layout.specs.inner.Codes.{has_words}
use Rattle.layout.proofs.Tables.{NoneOf}
use Rattle.samples.specs.Words.{Sample, all_words, all_samples}
use Rattle.samples.specs.Lists.{handed_bytes, numbers_of, values_of, alongship_of, athwartship_of}
use Rattle.samples.specs.Runs.{radix, decode, samples_from, ends_from, ping_length}
use Rattle.samples.specs.Values.{meant, revalued, samples_in, has_space, held_words}
use Rattle.samples.specs.inner.Lists.{Room}
use Rattle.samples.specs.inner.Narrow.{words_by, AngleRoom}
use Rattle.samples.proofs.Words.{samples-many}
use Rattle.samples.proofs.Held.{held_all}
use Rattle.samples.proofs.Lengths.{length-by}
use Rattle.content.proofs.Families.{shape_u, shape_c}
use Rattle.tuples.proofs.Codes.{Listed, codes_of, no_code}
use Rattle.std.specs.Prelude.{Some, None}
use Rattle.pings.specs.Headers.{told_length}
use Rattle.pings.specs.inner.Handing.{part_words, part_samples, part_length, part_width, SoundPart}

-- ---- kinds
-- an arm of a match on the type: its shape
pub arm_u : (f : Family) → has_u f ≡ true → {k : ℕ} → k ≡ type_u f → shape_of k ≡ uncompressed f
arm_u f h e = ap shape_of e ∙ shape_u f h

pub arm_c : (f : Family) → has_c f ≡ true → {k : ℕ} → k ≡ type_c f → shape_of k ≡ compressed f
arm_c f h e = ap shape_of e ∙ shape_c f h

-- every listed ping's type has samples
pub pings : Listed has_samples
unfolding listings
pings = record { computed = refl; indexes = refl; others = refl }

-- a listed ping of no uncompressed type is compressed
abbrev pub is_plain : Shape → Bool
is_plain indexed = false
is_plain (row fs x) = false
is_plain (uncompressed f) = true
is_plain (compressed f) = false
is_plain unlisted = false

plains : Listed is_plain
unfolding listings
plains = record { computed = refl; indexes = refl; others = refl }

compressed-by : (q : Shape) → has_samples q ≡ true → is_plain q ≡ false → (f : Family) × (q ≡ compressed f)
compressed-by indexed a b = absurd (true≢false (sym a))
compressed-by (row fs x) a b = absurd (true≢false (sym a))
compressed-by (uncompressed f) a b = absurd (true≢false b)
compressed-by (compressed f) a b = (f, refl)
compressed-by unlisted a b = absurd (true≢false (sym a))

pub compressed-left : (k : ℕ) → is_ping k ≡ true → NoneOf (codes_of is_plain) k → (f : Family) × (shape_of k ≡ compressed f)
unfolding is_ping
compressed-left k a n = compressed-by (shape_of k) a (no_code plains k n)

-- ---- lengths: a ping without words has none
pub no_length : (q : Shape) (o : Bool) (part : List ℕ) → has_words q ≡ false → part_length q o part ≡ none
no_length indexed o part e = refl
no_length (row fs x) o part e = refl
no_length (uncompressed f) o part e = refl
no_length (compressed f) o part e = absurd (true≢false e)
no_length unlisted o part e = refl

-- by its words it has one where the last is a run
module _ (R : ℕ) {ws held : List ℕ} (e : ws ≡ held) where
  pub told-run : {n : ℕ} → n ≡ samples_from R 0 ws → ends_from R false ws ≡ true → Some n ≡ told_length (ping_length R held)
  told-run c r = ap Some c ∙ sym (ap told_length (ap (ping_length R) (sym e) ∙ length-by R ws true r))

  pub told-value : ends_from R false ws ≡ false → None ≡ told_length (ping_length R held)
  told-value r = sym (ap told_length (ap (ping_length R) (sym e) ∙ length-by R ws false r))

-- ---- words: C-32's have no space behind them, and C-16's and CE-16's are held alike
pub wide-words : (o : Bool) (part : List ℕ) → part_words wide o part ≡ all_words 4 o (take (length part - 4) (drop 4 part))
unfolding has_space
wide-words o part = held_all wide (num_of o (take 4 part)) (all_words 4 o (take (length part - 4) (drop 4 part))) refl

pub held-alike : (b : Bool) (count : ℕ) (ws : List ℕ) → held_words (words_by b) count ws ≡ held_words narrow count ws
unfolding held_words has_space
held-alike true count ws = refl
held-alike false count ws = refl

pub words-alike : (b o : Bool) (part : List ℕ) → part_words (words_by b) o part ≡ part_words narrow o part
words-alike true o part = held-alike true (num_of o (take 4 part)) (all_words 2 o (take (length part - 4) (drop 4 part)))
words-alike false o part = refl

-- ---- where they stand
-- up to a place behind the number of samples
pub upto : (part : List ℕ) (end : ℕ) → end ≤ length part → length (take (end - 4) (drop 4 part)) ≡ end - 4
upto part end h = length-take-le (end - 4) (drop 4 part) (simp length-drop (omega arith))

-- few enough for a sample's number to stay below 2^32
pub upto-few : (part : List ℕ) (end : ℕ) → end ≤ length part → length part ≤ 262112 → length (take (end - 4) (drop 4 part)) ≤ 262108
upto-few part end h m = omega (arith, upto part end h)

module _ {k : ℕ} {o : Bool} {part : List ℕ} (s : SoundPart k o part) (f : Family) (e : shape_of k ≡ compressed f) where
  -- what finding their end asks
  pub words-asked : (8 ≤ length part) × (length part % 4 ≡ 0) × (length part ≤ 262112)
  words-asked = ((s.words f e).long, s.whole, s.few)

-- ---- samples: what a reader reads is what the part says, with values of w bytes
pub record Says (k : ℕ) (o : Bool) (part : List ℕ) (w : ℕ) (s : List Sample) : Type 0 where
  pub samples : part_samples (shape_of k) o part ≡ s
  pub width : part_width (shape_of k) ≡ w

-- C-32 words stand for their values as they are
same-values : (s : List Sample) → revalued (meant wide) s ≡ s
unfolding meant
same-values [] = refl
same-values (x ∷ s) = ap (λ (r : List Sample). x ∷ r) (same-values s)

module _ (k : ℕ) (o : Bool) (part : List ℕ) where
  pub says_plain : (f : Family) → shape_of k ≡ uncompressed f → Says k o part (handed_bytes f) (all_samples f o part)
  says_plain f e = record { samples = ap (λ (q : Shape). part_samples q o part) e; width = ap part_width e }

  pub says-wide : shape_of k ≡ compressed wide
      → Says k o part 4 (decode radix (all_words 4 o (take (length part - 4) (drop 4 part))))
  unfolding samples_in
  says-wide e =
      record {
        samples = ap (λ (q : Shape). part_samples q o part) e ∙ same-values _ ∙ ap (decode radix) (wide-words o part);
        width = ap part_width e;
      }

  pub says-narrow : (b : Bool) (ws : List ℕ) → shape_of k ≡ compressed (words_by b) → ws ≡ part_words narrow o part
      → Says k o part (handed_bytes (words_by b)) (samples_in (words_by b) ws)
  says-narrow b ws e h =
      record {
        samples = ap (λ (q : Shape). part_samples q o part) e ∙ ap (samples_in (words_by b)) (words-alike b o part ∙ sym h);
        width = ap part_width e;
      }

  -- how many: as many as its bytes hold, or as it counts
  pub plain-count : (f : Family) → shape_of k ≡ uncompressed f → length part / sample_bytes f ≡ length (part_samples (shape_of k) o part)
  plain-count f e = sym (ap (λ (q : Shape). length (part_samples q o part)) e ∙ samples-many f o part)

  pub words_count : SoundPart k o part → (f : Family) → shape_of k ≡ compressed f
      → num_of o (take 4 part) ≡ length (part_samples (shape_of k) o part)
  words_count s f e = (s.words f e).counted ∙ sym (ap (λ (q : Shape). length (part_samples q o part)) e)

-- so it asks for the same room, and leaves the same entries
module _ {k : ℕ} {o : Bool} {part : List ℕ} {w : ℕ} {s : List Sample} (a : Says k o part w s) where
  pub says-room : {ns : List ℕ} {vs : List ℤ} → Room (part_samples (shape_of k) o part) ns vs → Room s ns vs
  says-room {ns} {vs} r = subst (λ (l : List Sample). Room l ns vs) a.samples r

  pub says-left : (ns₀ : List ℕ) (vs₀ : List ℤ) {ns : List ℕ} {vs : List ℤ} → ns ≡ sets ns₀ 0 (numbers_of s) → vs ≡ sets vs₀ 0 (values_of w s)
      → (ns ≡ sets ns₀ 0 (numbers_of (part_samples (shape_of k) o part)))
      × (vs ≡ sets vs₀ 0 (values_of (part_width (shape_of k)) (part_samples (shape_of k) o part)))
  says-left ns₀ vs₀ n v = (
    n ∙ ap (λ (l : List Sample). sets ns₀ 0 (numbers_of l)) (sym a.samples),
    v ∙ ap₂ (λ (i : ℕ) (l : List Sample). sets vs₀ 0 (values_of i l)) (sym a.width) (sym a.samples),
  )

  pub says_angle_room : {ns : List ℕ} {xs ys : List ℤ} → AngleRoom (part_samples (shape_of k) o part) ns xs ys → AngleRoom s ns xs ys
  says_angle_room {ns} {xs} {ys} r = subst (λ (l : List Sample). AngleRoom l ns xs ys) a.samples r

  pub says-angles : (ns₀ : List ℕ) (xs₀ ys₀ : List ℤ) {ns : List ℕ} {xs ys : List ℤ} → ns ≡ sets ns₀ 0 (numbers_of s)
      → xs ≡ sets xs₀ 0 (alongship_of s) → ys ≡ sets ys₀ 0 (athwartship_of s)
      → (ns ≡ sets ns₀ 0 (numbers_of (part_samples (shape_of k) o part)))
      × ((xs ≡ sets xs₀ 0 (alongship_of (part_samples (shape_of k) o part)))
      × (ys ≡ sets ys₀ 0 (athwartship_of (part_samples (shape_of k) o part))))
  says-angles ns₀ xs₀ ys₀ n x y = (
    n ∙ ap (λ (l : List Sample). sets ns₀ 0 (numbers_of l)) (sym a.samples),
    (
      x ∙ ap (λ (l : List Sample). sets xs₀ 0 (alongship_of l)) (sym a.samples),
      y ∙ ap (λ (l : List Sample). sets ys₀ 0 (athwartship_of l)) (sym a.samples),
    ),
  )
