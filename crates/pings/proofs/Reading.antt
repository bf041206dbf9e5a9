-- What the readers of samples and of angles answer, by the reader's answer; and the part of a sound ping in the file, which says its
-- samples, its length and how its values are handed over. Assumes nothing.
use mathlib.Core.Path.{◌≡◌, refl, sym, ap, ap₂, ◌∙◌}
use mathlib.Core.Bool.{Bool, true}
use mathlib.Core.Logic.{inl, inr}
use mathlib.Core.List.{List}
use mathlib.Core.Option.{Option, none}
use Prim.Native.Nat.{ℕ, ◌+◌, ◌-◌, ◌≤◌}
use native.Mathlib.Omega.{arith}
use borrow.Author.Tests.{eqb-true, ltb-false, not-false}
use lib.Dec.{eqb}
use lib.IntN.{ℤ}
use lib.ListN.{length, take, drop, length-drop}
use lib.Seq.{length-take-le, take-take, drop-drop}
use Rattle.rules.specs.Rules.{AllPass}
use Rattle.order.specs.Order.{num_of}
use Rattle.layout.specs.Families.{Family, value_bytes, radix_of}
use Rattle.layout.specs.Types.{Shape, indexed, row, uncompressed, compressed, unlisted, shape_of, is_ping}
use Rattle.layout.proofs.Families.{OfFamily, ping-shape}
use Rattle.layout.specs.Answer.{Answer}
use Rattle.layout.specs.Answer.{Refused}
use Rattle.layout.specs.Verdict.{Fine}
use Rattle.layout.specs.Answers.{both, tells, accepting}
use Rattle.layout.proofs.Verdicts.{both_left, both_right, passes}
use Rattle.frame.specs.Frames.{Tup}
use Rattle.frame.specs.Files.{is_msb}
use Rattle.frame.proofs.Frames.{allowed_4}
use Rattle.turning.proofs.Contents.{within-take}
use Rattle.samples.specs.Words.{Sample, all_words, all_samples}
use Rattle.samples.specs.Lists.{handed_bytes}
use Rattle.samples.specs.Runs.{ping_length, values, decode}
use Rattle.samples.specs.Values.{samples_in, meant, held_words}
use Rattle.samples.specs.Judging.{sample_rules, word_rules, judged_samples, judged_words}
use Rattle.samples.proofs.Values.{length-decode}
use Rattle.samples.proofs.Written.{length-map, some-radix}
use Rattle.content.specs.Pings.{content_u, content_c}
use Rattle.content.specs.Items.{Item, item_by, item_of}
use Rattle.content.proofs.Places.{field_at, words_there, samples_u, samples_c}
use Rattle.intake.specs.inner.Tallies.{Here, Fits, inner_verdict, head_verdict}
use Rattle.intake.proofs.Judges.{head-fits, own-parts, long_u, long_c, inner-samples, inner-words}
use Rattle.tuples.specs.Readers.{is_valued, is_angled, tuple_there, read_answer, read_item}
use Rattle.tuples.specs.inner.Opening.{Readable}
use Rattle.tuples.proofs.Reading.{stands, here, most}
use Rattle.pings.specs.Readers.{samples_by, samples_at, family_by, sample_answer, SamplesRead, angle_answer, AnglesRead}
use Rattle.pings.specs.Fields.{ping_by}
use Rattle.pings.specs.inner.Handing.{part_words, part_samples, part_length, part_width, SoundWords, SoundPart, Handed, HandedAngles}

-- ---- the reader of samples, by the reader's answer
module _ {f : List ℕ} {p : ℕ} (ns : List ℕ) (vs : List ℤ) where
  pub refused : (c q : ℕ) → Refused c q ≡ read_answer is_valued f p → SamplesRead f p ns vs (Refused c q) ns vs
  unfolding sample_answer
  refused c q e = record { answer = rw (← e) (tells refl); numbers_left = rw (← e); values_left = rw (← e) }

  pub read : accepting 1 0 ≡ read_answer is_valued f p → {w : ℕ} {s : List Sample} → handed_bytes (family_by (read_item f p)) ≡ w
      → samples_at f p ≡ s → {r : Answer} {ms : List ℕ} {us : List ℤ} → Handed w s ns vs r ms us → SamplesRead f p ns vs r ms us
  unfolding sample_answer
  read e ew es h =
      record {
        answer = rw (← e, es) (tells h.answer);
        numbers_left = rw (← e, es) h.numbers_left;
        values_left = rw (← e, es, ew) h.values_left;
      }

-- ---- the reader of angles
module _ {f : List ℕ} {p : ℕ} (ns : List ℕ) (xs ys : List ℤ) where
  pub refused-angles : (c q : ℕ) → Refused c q ≡ read_answer is_angled f p → AnglesRead f p ns xs ys (Refused c q) ns xs ys
  unfolding angle_answer
  refused-angles c q e =
      record { answer = rw (← e) (tells refl); numbers_left = rw (← e); alongship_left = rw (← e); athwartship_left = rw (← e) }

  pub read-angles : accepting 1 0 ≡ read_answer is_angled f p → {s : List Sample} → samples_at f p ≡ s
      → {r : Answer} {ms : List ℕ} {us ws : List ℤ} → HandedAngles s ns xs ys r ms us ws → AnglesRead f p ns xs ys r ms us ws
  unfolding angle_answer
  read-angles e es h =
      record {
        answer = rw (← e, es) (tells h.answer);
        numbers_left = rw (← e, es) h.numbers_left;
        alongship_left = rw (← e, es) h.alongship_left;
        athwartship_left = rw (← e, es) h.athwartship_left;
      }

-- ---- a sound ping, by its part of the file
-- how its values are handed over, and its length, by its shape
width-by : (q : Shape) (o : Bool) (t : Tup) → handed_bytes (family_by (item_by q o t)) ≡ part_width q
unfolding content_u content_c
width-by indexed o t = refl
width-by (row fs x) o t = refl
width-by (uncompressed f) o t = refl
width-by (compressed f) o t = refl
width-by unlisted o t = refl

-- as many samples as values
count-samples : (f : Family) (ws : List ℕ) → length (samples_in f ws) ≡ values (radix_of f) ws
unfolding samples_in
count-samples f ws = length-map (meant f) (decode (radix_of f) ws) ∙ length-decode (radix_of f) (some-radix f) ws 0

module _ {asked : ℕ → Bool} {f : List ℕ} {p n k : ℕ} {o : Bool} (s : Readable asked f p o n k) (listed : is_ping k ≡ true) where
  abbrev part : List ℕ
  part = take (p + n - 8 - (p + 24)) (drop (p + 24) f)

  h : Here (is_msb f) f p n k
  h = here s.found

  parts : both (head_verdict (is_msb f) (eqb k 65535) (tuple_there f p)) (inner_verdict (is_msb f) (tuple_there f p)) ≡ Fine
  parts = own-parts h ∙ s.own

  fits : Fits n k
  fits = head-fits h (eqb k 65535) refl (both_left _ _ parts)

  inner : inner_verdict (is_msb f) (tuple_there f p) ≡ Fine
  inner = both_right (head_verdict (is_msb f) (eqb k 65535) (tuple_there f p)) _ parts

  -- it is long enough for a sample, and stands in the file
  pub whole-there : (36 ≤ n) × (n ≤ 262144) × (p + n ≤ length f)
  whole-there = (by (ping-shape k listed), most s.found, (stands s.found).whole.fits)
    where
      by : OfFamily (shape_of k) → 36 ≤ n
      by (g, inl e) = long_u h fits g e
      by (g, inr e) = omega (arith, long_c h fits g e)

  part-long : length (take (p + n - 8 - (p + 24)) (drop (p + 24) f)) ≡ n - 32
  part-long =
      let r = whole-there in
      length-take-le (p + n - 8 - (p + 24)) (drop (p + 24) f) (simp length-drop (omega (arith, r.0, r.2))) ∙ omega (arith, r.0)

  -- what says its shape says it of the tuple there
  there-kind : {q : Shape} → shape_of k ≡ q → shape_of (tuple_there f p).kind ≡ q
  there-kind e = ap shape_of h.kind ∙ e

  -- ---- uncompressed
  module _ (g : Family) (e : shape_of k ≡ uncompressed g) where
    plain-part : take (n - 32) (drop (p + 24) f) ≡ take (p + n - 8 - (p + 24)) (drop (p + 24) f)
    plain-part =
        let z : n - 32 ≡ p + n - 8 - (p + 24) = omega (arith, whole-there.0) in ap (λ (i : ℕ). take i (drop (p + 24) f)) z

    plain-samples : samples_at f p ≡ all_samples g (is_msb f) part
    plain-samples =
        let q = samples_u (is_msb f) f p n (stands s.found).whole g (there-kind e) whole-there.0 in
        ap samples_by q.1 ∙ q.2 ∙ ap (all_samples g (is_msb f)) plain-part

    plain-length : (ping_by (read_item f p)).length ≡ none
    plain-length =
        let q = samples_u (is_msb f) f p n (stands s.found).whole g (there-kind e) whole-there.0 in
        ap (λ (x : Option Item). (ping_by x).length) q.1 ∙ q.3

    plain-few : length (samples_at f p) ≤ 32764
    unfolding judged_samples
    plain-few =
        let r = passes (sample_rules g (all_samples g (is_msb f) part)) (sym (inner-samples h fits g e) ∙ inner) in
        rw plain-samples (ltb-false _ _ r.0)

  -- ---- compressed
  module _ (g : Family) (e : shape_of k ≡ compressed g) where
    long : 40 ≤ n
    long = long_c h fits g e

    part_count : num_of o (take 4 (take (p + n - 8 - (p + 24)) (drop (p + 24) f))) ≡ field_at o f p 4 24
    part_count = ap (num_of o) (take-take 4 (p + n - 8 - (p + 24)) (drop (p + 24) f) (omega (arith, long)))

    word_bytes : take (length part - 4) (drop 4 (take (p + n - 8 - (p + 24)) (drop (p + 24) f))) ≡ take (n - 36) (drop (p + 28) f)
    word_bytes =
        let m = p + n - 8 - (p + 24) in
        let i : length part - 4 ≡ n - 36 = omega (arith, part-long, long) in
        let j : p + 24 + 4 ≡ p + 28 = omega arith in
        ap (λ (x : ℕ). take x (drop 4 (take m (drop (p + 24) f)))) i
        ∙ within-take m 4 (n - 36) (drop (p + 24) f) (omega (arith, long))
        ∙ ap (take (n - 36)) (drop-drop 4 (p + 24) f ∙ ap (λ (x : ℕ). drop x f) j)

    words-part : part_words g o part ≡ words_there (is_msb f) f p n (stands s.found).whole g
    words-part =
        ap₂ (λ (c : ℕ) (l : List ℕ). held_words g c (all_words (value_bytes g) o l)) part_count word_bytes
        ∙ ap (λ (b : Bool). held_words g (field_at b f p 4 24) (all_words (value_bytes g) b (take (n - 36) (drop (p + 28) f)))) s.msb

    words-samples : samples_at f p ≡ samples_in g (part_words g o part)
    words-samples =
        let q = samples_c (is_msb f) f p n (stands s.found).whole g (there-kind e) long in
        ap samples_by q.1 ∙ q.2 ∙ sym (ap (samples_in g) words-part)

    words-length : (ping_by (read_item f p)).length ≡ ping_length (radix_of g) (part_words g o part)
    words-length =
        let q = samples_c (is_msb f) f p n (stands s.found).whole g (there-kind e) long in
        ap (λ (x : Option Item). (ping_by x).length) q.1 ∙ q.3 ∙ sym (ap (ping_length (radix_of g)) words-part)

    -- its words keep the rules
    kept : AllPass (word_rules g (field_at (is_msb f) f p 4 24) (words_there (is_msb f) f p n (stands s.found).whole g))
    unfolding judged_words
    kept =
        let z : p + n - 8 - (p + 28) ≡ n - 36 = omega (arith, long) in
        passes (word_rules g (field_at (is_msb f) f p 4 24) (words_there (is_msb f) f p n (stands s.found).whole g))
        (sym
        (inner-words h fits g e
        ∙ ap (λ (i : ℕ). judged_words g (is_msb f) (field_at (is_msb f) f p 4 24) (take i (drop (p + 28) f))) z)
        ∙ inner)

    words-few : length (samples_at f p) ≤ 32764
    words-few =
        let ws = words_there (is_msb f) f p n (stands s.found).whole g in
        rw (words-samples, words-part, count-samples g ws) (ltb-false _ _ kept.0)

    words-sound : SoundWords g o part
    words-sound =
        record {
          long = omega (arith, part-long, long);
          counted =
              part_count
              ∙ ap (λ (b : Bool). field_at b f p 4 24) s.msb
              ∙ eqb-true _ _ (not-false _ kept.1.1.0)
              ∙ sym (ap (λ (ws : List ℕ). length (samples_in g ws)) words-part ∙ count-samples g _);
        }

  -- ---- of either kind
  pub samples-there : samples_at f p ≡ part_samples (shape_of k) o (take (p + n - 8 - (p + 24)) (drop (p + 24) f))
  samples-there = by (ping-shape k listed)
    where
      by : OfFamily (shape_of k) → samples_at f p ≡ part_samples (shape_of k) o part
      by (g, inl e) = rw e (plain-samples g e ∙ ap (λ (b : Bool). all_samples g b part) (sym s.msb))
      by (g, inr e) = rw e (words-samples g e)

  pub length-there : (ping_by (read_item f p)).length ≡ part_length (shape_of k) o (take (p + n - 8 - (p + 24)) (drop (p + 24) f))
  length-there = by (ping-shape k listed)
    where
      by : OfFamily (shape_of k) → (ping_by (read_item f p)).length ≡ part_length (shape_of k) o part
      by (g, inl e) = rw e (plain-length g e)
      by (g, inr e) = rw e (words-length g e)

  pub width-there : handed_bytes (family_by (read_item f p)) ≡ part_width (shape_of k)
  unfolding item_of
  width-there = width-by (shape_of (tuple_there f p).kind) (is_msb f) (tuple_there f p) ∙ ap (λ (j : ℕ). part_width (shape_of j)) h.kind

  pub part_sound : SoundPart k o (take (p + n - 8 - (p + 24)) (drop (p + 24) f))
  part_sound =
      let r = whole-there in
      record {
        listed = listed;
        whole = omega (arith, part-long, r.0, allowed_4 n (stands s.found).whole.allowed);
        few = omega (arith, part-long, r.1);
        words = words-sound;
      }

  -- a listed ping holds at most 32,764 samples
  pub few-samples : length (samples_at f p) ≤ 32764
  few-samples = by (ping-shape k listed)
    where
      by : OfFamily (shape_of k) → length (samples_at f p) ≤ 32764
      by (g, inl e) = plain-few g e
      by (g, inr e) = words-few g e
