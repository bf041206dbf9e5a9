-- A ping's samples one at a time: what a loop over them wants. What is left at its first place is all that the ping says, each step takes
-- what stands at a place off what is left, and where less than that is left, nothing is. Assumes nothing.
use mathlib.Core.Path.{◌≡◌, refl, sym, ap, subst, ◌∙◌}
use mathlib.Core.Bool.{Bool, true, false}
use mathlib.Core.List.{List, [], ◌∷◌}
use Prim.Native.Nat.{ℕ, ◌+◌, ◌-◌, ◌*◌, ◌/◌, ◌%◌, ◌≤◌, ◌<◌}
use native.Mathlib.Omega.{arith}
use lib.Dec.{eqb}
use lib.IntN.{ℤ}
use lib.ListN.{length, take, drop, length-drop, length-map}
use lib.Seq.{take-length, length-take-le}
use borrow.Author.Tests.{eqb-true, eqb-false}
use Rattle.order.specs.Order.{signed_of}
use Rattle.layout.specs.Families.{Family, wide, narrow, encoded, wide_angles, narrow_angles, value_bytes, value_count, number_bytes, sample_bytes}
use Rattle.layout.specs.Families.{radix_of}
use Rattle.layout.specs.Types.{Shape, indexed, row, uncompressed, compressed, unlisted, listings, shape_of}
use Rattle.std.specs.Prelude.{Some, None}
use Rattle.layout.proofs.Tables.{NoneOf}
use Rattle.samples.specs.Words.{Sample, words, all_words, samples, all_samples}
use Rattle.samples.specs.Lists.{handed_bytes}
use Rattle.samples.specs.Runs.{is_run, run_length, decode_from}
use Rattle.samples.specs.Values.{meant, revalued, samples_in}
use Rattle.samples.specs.inner.Narrow.{words_by}
use Rattle.samples.proofs.Words.{word_at, words_from, from_cons, from_end_lem, rest_of, rest_end, value-at}
use Rattle.samples.proofs.Judging.{next_sample}
use Rattle.samples.proofs.Written.{some-radix, some-width}
use Rattle.samples.proofs.Runs.{by_bool, decode-run, decode-value, run_short}
use Rattle.tuples.specs.Readers.{is_valued}
use Rattle.tuples.proofs.Codes.{valued, last_code}
use Rattle.pings.specs.inner.Handing.{part_words, part_samples, part_width}
use Rattle.pings.proofs.Parts.{arm_c, wide-words, words-alike}
use Rattle.sampling.specs.declared.Span.{Span}
use Rattle.sampling.specs.declared.Stepped.{Stepped}
use Rattle.sampling.specs.inner.Walking.{Handed, handed_by, width_of, left_in, handed_left, SpanOf}
use Rattle.sampling.specs.inner.Walking.{stepped, words_left, WordPassed, SteppedTo}

-- ---- what is left at a place, as the readers of samples have it
pub words_left_lem : (k : ℕ) (o : Bool) (held : List ℕ) (at : ℕ) → all_words k o (drop at held) ≡ words_from k o held at
unfolding all_words words_from
words_left_lem k o held at = ap (λ (n : ℕ). words k o (n / k) (drop at held)) (length-drop at held)

samples-left : (f : Family) (o : Bool) (held : List ℕ) (at : ℕ) → all_samples f o (drop at held) ≡ rest_of f o held at
unfolding all_samples rest_of
samples-left f o held at = ap (λ (n : ℕ). samples f o (n / sample_bytes f) (drop at held)) (length-drop at held)

-- ---- a loop's first place and its last
pub left-all : (q : Shape) (o : Bool) (n : ℕ) (held : List ℕ) → handed_left q o n (drop 0 held) ≡ handed_left q o n held
left-all q o n held = refl

pub left_end : (q : Shape) (o : Bool) (n : ℕ) (held : List ℕ) (at : ℕ) → length held < at + width_of q → handed_left q o n (drop at held) ≡ []
unfolding left_in decode_from
left_end indexed o n held at h = refl
left_end (row fs x) o n held at h = refl
left_end (uncompressed f) o n held at h =
    ap (handed_by (handed_bytes f)) (samples-left f o held at ∙ rest_end f o held at h)
left_end (compressed f) o n held at h =
    ap (words_left f n) (words_left_lem (value_bytes f) o held at ∙ from_end_lem (value_bytes f) o held at (some-width f) h)
left_end unlisted o n held at h = refl

-- ---- where samples stand in a ping's part
-- a ping with values that is of none of these types is of the last
pub codes-left : (k : ℕ) → is_valued k ≡ true → NoneOf (10040 ∷ 10030 ∷ 10010 ∷ 10000 ∷ []) k → shape_of k ≡ compressed encoded
unfolding listings
codes-left k a h = arm_c encoded refl (last_code valued k 10050 (10040 ∷ 10030 ∷ 10010 ∷ 10000 ∷ []) refl h a)

-- and of none of these, it has words of two bytes
pub narrow-left : (k : ℕ) → is_valued k ≡ true → NoneOf (10030 ∷ 10010 ∷ 10000 ∷ []) k → (b : Bool) × (shape_of k ≡ compressed (words_by b))
unfolding listings
narrow-left k a h =
    by_bool (eqb k 10040)
    (λ t. (false, arm_c narrow refl (eqb-true k 10040 t)))
    (λ t. (true, codes-left k a (h, eqb-false k 10040 t)))

-- what is read there lies within
pub room : {p q : Shape} → p ≡ q → (at : ℕ) {n : ℕ} → at + width_of p ≤ n → at + width_of q ≤ n
room e at {n} h = subst (λ (x : Shape). at + width_of x ≤ n) e h

module _ {k : ℕ} (o : Bool) (part : List ℕ) where
  pub span-plain : (f : Family) → shape_of k ≡ uncompressed f → SpanOf k o part (record { from = 0; end = length part })
  unfolding left_in
  span-plain f e =
      let all : length part - 0 ≡ length part = omega arith in
      record {
        order = omega arith;
        within = omega arith;
        holds = rw e (ap (all_samples f o) (ap (λ (n : ℕ). take n part) all ∙ take-length part));
      }

  span-words : (f : Family) → shape_of k ≡ compressed f → (end : ℕ) → 4 ≤ end → end ≤ length part
      → all_words (value_bytes f) o (take (end - 4) (drop 4 part)) ≡ part_words f o part → SpanOf k o part (record { from = 4; end = end })
  unfolding left_in samples_in
  span-words f e end a b h = record { order = a; within = b; holds = rw e (ap (samples_in f) h) }

  -- C-32 words fill what is behind the number of samples, and those of two bytes end where `words_end` says
  pub span-wide : shape_of k ≡ compressed wide → 8 ≤ length part → SpanOf k o part (record { from = 4; end = length part })
  span-wide e h = span-words wide e (length part) (omega arith) (omega arith) (sym (wide-words o part))

  pub span-narrow : (b : Bool) → shape_of k ≡ compressed (words_by b) → (end : ℕ) → (6 ≤ end) × (end ≤ length part) × (end % 2 ≡ 0)
      → all_words 2 o (take (end - 4) (drop 4 part)) ≡ part_words narrow o part → SpanOf k o part (record { from = 4; end = end })
  span-narrow true e end h ws = span-words encoded e end (omega arith) h.1 (ws ∙ sym (words-alike true o part))
  span-narrow false e end h ws = span-words narrow e end (omega arith) h.1 ws

-- they are no more than the part, and all that they hold is what it says
module _ {k : ℕ} {o : Bool} {part : List ℕ} {r : Span} (s : SpanOf k o part r) where
  pub span-long : length (take (r.end - r.from) (drop r.from part)) ≡ r.end - r.from
  span-long = length-take-le (r.end - r.from) (drop r.from part) (simp length-drop (omega (arith, s.within)))

  pub span-handed : handed_left (shape_of k) o 0 (take (r.end - r.from) (drop r.from part))
      ≡ handed_by (part_width (shape_of k)) (part_samples (shape_of k) o part)
  span-handed = ap (handed_by (part_width (shape_of k))) s.holds

  pub span-many : length (handed_left (shape_of k) o 0 (take (r.end - r.from) (drop r.from part)))
      ≡ length (part_samples (shape_of k) o part)
  span-many = ap length span-handed ∙ simp length-map

-- ---- a word passed: a run, or a value. The family's radix is R
radix-near : (f : Family) → radix_of f ≤ 16384 * value_bytes f
radix-near wide = omega arith
radix-near narrow = omega arith
radix-near encoded = omega arith
radix-near wide_angles = omega arith
radix-near narrow_angles = omega arith

module _ (f : Family) {R : ℕ} (e : radix_of f ≡ R) (word number : ℕ) where
  said : List Sample → List Handed
  said s = handed_by (handed_bytes f) (revalued (meant f) s)

  pub run-passed : is_run R word ≡ true → {n : ℕ} → n ≡ run_length R word
      → WordPassed f word number (record { sample = None; next = number + n })
  unfolding said
  run-passed t {n} l =
      let run = ap (λ (q : ℕ). is_run q word) e ∙ t in
      let long = l ∙ ap (λ (q : ℕ). run_length q word) (sym e) in
      record {
        left = λ ws. ap said (decode-run (radix_of f) (some-radix f) number word ws run)
            ∙ ap (λ (m : ℕ). words_left f (number + m) ws) (sym long);
        near = omega (arith, long, run_short (radix_of f) (some-radix f) word);
      }

  pub value-passed : is_run R word ≡ false → {v : ℤ} → v ≡ signed_of (handed_bytes f) (meant f word)
      → WordPassed f word number (record { sample = Some (number, v); next = number + 1 })
  unfolding said
  value-passed t {v} h =
      let value = ap (λ (q : ℕ). is_run q word) e ∙ t in
      record {
        left = λ ws. ap said (decode-value (radix_of f) (some-radix f) number word ws value)
            ∙ ap (λ (z : ℤ). (number, z) ∷ words_left f (number + 1) ws) (sym h);
        near = omega (arith, some-radix f);
      }

pub radix-by : (b : Bool) → radix_of (words_by b) ≡ 256
radix-by true = refl
radix-by false = refl

-- ---- one step
module _ {k : ℕ} (f : Family) (o : Bool) (held : List ℕ) (at number : ℕ) where
  -- past a sample with a number of its own
  pub plain-stepped : shape_of k ≡ uncompressed f → value_count f ≡ 1 → at + sample_bytes f ≤ length held
      → {x : ℕ} → x ≡ word_at (number_bytes f) o held at
      → {v : ℤ} → v ≡ signed_of (handed_bytes f) (word_at (value_bytes f) o held (at + number_bytes f))
      → SteppedTo k o held at number (record { sample = Some (x, v); next = number })
  unfolding left_in
  plain-stepped e one h {x} xe {v} ve =
      let w = sample_bytes f in
      let hand = handed_by (handed_bytes f) in
      record {
        left = rw e
            (ap hand (samples-left f o held at ∙ next_sample f o held at x (omega arith) xe)
            ∙ ap (λ (z : ℤ). (x, z) ∷ hand (rest_of f o held (at + w))) (sym (ve ∙ ap (signed_of (handed_bytes f)) (value-at f one o held at)))
            ∙ ap (λ (l : List Sample). (x, v) ∷ hand l) (sym (samples-left f o held (at + w))));
        near = omega arith;
      }

  -- past a word
  pub word-stepped : shape_of k ≡ compressed f → at + value_bytes f ≤ length held → {word : ℕ} → word ≡ word_at (value_bytes f) o held at
      → {r : Stepped} → WordPassed f word number r → SteppedTo k o held at number r
  unfolding left_in
  word-stepped e h {word} we {r} p =
      let w = value_bytes f in
      let behind = words_from w o held (at + w) in
      let there = words_left_lem w o held at ∙ from_cons w o held at (some-width f) h ∙ ap (λ (x : ℕ). x ∷ behind) (sym we) in
      record {
        left = rw e
            (ap (words_left f number) there
            ∙ p.left behind
            ∙ ap (λ (ws : List ℕ). stepped r (words_left f r.next ws)) (sym (words_left_lem w o held (at + w))));
        near = rw e (omega (arith, p.near, radix-near f));
      }
