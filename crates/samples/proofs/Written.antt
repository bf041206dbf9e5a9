-- What the fewest words of a family say: what they were made from; that they pass the rules; and that no fewer words say the same.
-- Assumes nothing.
use mathlib.Core.Path.{◌≡◌, refl, sym, ap, ap₂, ◌∙◌}
use mathlib.Core.Bool.{true, false, not, ◌&&◌, ◌||◌, or-false}
use mathlib.Core.List.{List, [], ◌∷◌, ◌++◌, append_assoc, append-nil}
use mathlib.Core.Option.{Option, some, none}
use Prim.Native.Nat.{ℕ, zero, suc, ◌+◌, ◌-◌, ◌*◌, ◌/◌, ◌%◌, ◌^◌, ◌≤◌, ◌<◌}
use native.Mathlib.Nat.{mod-lt}
use native.Mathlib.Omega.{arith}
use lib.Dec.{eqb, leb, ltb, lit<}
use lib.ListN.{length, replicate}
use borrow.Author.Tests.{lt-ltb, le-ltb, ltb-false, eq-eqb, lt-leb, ltb-true, eqb-true, not-false}
use Rattle.rules.proofs.Bools.{and_false, or_left, or_right}
use Rattle.layout.specs.Verdict.{Fine}
use Rattle.layout.specs.Answers.{judged}
use Rattle.layout.specs.Families.{Family, wide, narrow, encoded, wide_angles, narrow_angles, value_bytes, radix_of, is_bad}
use Rattle.layout.proofs.Verdicts.{passed}
use Rattle.samples.specs.Words.{Sample}
use Rattle.samples.specs.Runs.{is_run, run_length, decode_from, decode, ping_length, values, first_bad, last_run, gap, encode_from, behind}
use Rattle.samples.specs.Runs.{quiet, fewest}
use Rattle.samples.specs.Values.{meant, word_for, revalued, samples_in, words_for, wordless}
use Rattle.samples.specs.Judging.{most, first_wordless, word_rules}
use Rattle.samples.specs.Words.{Below}
use Rattle.samples.proofs.Runs.{Fit, by_bool, gap-some, encode-length, decode-run, decode-value, decode-fit, lasting, Lasting}
use Rattle.samples.proofs.Runs.{there_back, length_back, length_can, fewest-words, fewest-some}
use Rattle.samples.proofs.Rising.{Rising, fit-rising}
use Rattle.samples.proofs.Values.{values-run, values-value, bad-here, bad-later, bad-most, length-decode}
use Rattle.samples.proofs.Meaning.{Worded, meant-worded}

-- ---- a property of every word, and of every sample's value
abbrev pub Each : (ℕ → Type 0) → List ℕ → Type 0
Each P [] = Unit {0}
Each P (w ∷ ws) = P w × Each P ws

abbrev pub EachValue : (ℕ → Type 0) → List Sample → Type 0
EachValue P [] = Unit {0}
EachValue P (x ∷ s) = P x.1 × EachValue P s

-- what every run has and every value, each of the fewest words has
module _ (R : ℕ) (some : 0 < R) (P : ℕ → Type 0) (runs : (r : ℕ) → r < R → P ((R - 1) * R + r)) where
  each-full : (q : ℕ) (ws : List ℕ) → Each P ws → Each P (replicate q ((R - 1) * R + (R - 1)) ++ ws)
  each-full zero ws e = e
  each-full (suc q) ws e = (runs (R - 1) (omega arith), each-full q ws e)

  each_last : (r : ℕ) (ws : List ℕ) → r < R → Each P ws → Each P (last_run R r ++ ws)
  unfolding last_run
  each_last zero ws h e = e
  each_last (suc r) ws h e = (runs r (omega arith), e)

  each-gap : (g : ℕ) (ws : List ℕ) → Each P ws → Each P (gap R g ++ ws)
  unfolding gap
  each-gap g ws e = rw append_assoc (each-full (g / R) (last_run R (g % R) ++ ws) (each_last (g % R) ws (mod-lt g some) e))

  each-encode : (s : List Sample) (n t : ℕ) → EachValue P s → Each P (encode_from R n s t)
  unfolding encode_from
  each-encode [] n t v = rw append-nil at (each-gap t [] tt)
  each-encode (x ∷ s) n t v = each-gap (x.0 - n) (x.1 ∷ encode_from R (x.0 + 1) s t) (v.0, each-encode s (x.0 + 1) t v.1)

-- ---- what a family's tables give
pub some-radix : (f : Family) → 0 < radix_of f
some-radix wide = lit< tt
some-radix narrow = lit< tt
some-radix encoded = lit< tt
some-radix wide_angles = lit< tt
some-radix narrow_angles = lit< tt

pub some-width : (f : Family) → 0 < value_bytes f
some-width wide = lit< tt
some-width narrow = lit< tt
some-width encoded = lit< tt
some-width wide_angles = lit< tt
some-width narrow_angles = lit< tt

-- a run's word fits, and is not is_bad the limits
run_fits : (f : Family) (r : ℕ) → r < radix_of f → (radix_of f - 1) * radix_of f + r < 256 ^ value_bytes f
run_fits wide r h = omega arith
run_fits narrow r h = omega arith
run_fits encoded r h = omega arith
run_fits wide_angles r h = omega arith
run_fits narrow_angles r h = omega arith

past-last : (a w l : ℕ) → l < w → leb a w && leb w l ≡ false
past-last a w l h = and_false (leb a w) (lt-leb w l h)

run_inside : (f : Family) (r : ℕ) → r < radix_of f → is_bad f ((radix_of f - 1) * radix_of f + r) ≡ false
unfolding is_bad
run_inside wide r h = past-last 0x7fff0000 (65535 * 65536 + r) 0x8000ffff (omega arith)
run_inside narrow r h = past-last 0x7f00 (255 * 256 + r) 0x8100 (omega arith)
run_inside encoded r h = past-last 0x7f00 (255 * 256 + r) 0x7fff (omega arith)
run_inside wide_angles r h = past-last 0x7f00 (255 * 256 + r) 0x7fff (omega arith)
run_inside narrow_angles r h = past-last 0x7f00 (255 * 256 + r) 0x7fff (omega arith)

-- ---- samples that have words
abbrev pub AllWorded : Family → List Sample → Type 0
AllWorded f s = EachValue (Worded f) s

good_none : (f : Family) (ws : List ℕ) → Each (λ (w : ℕ). is_bad f w ≡ false) ws → first_bad f ws ≡ length ws
good_none f [] g = unfold first_bad in refl
good_none f (w ∷ ws) g = bad-later f w ws g.0 ∙ omega (arith, good_none f ws g.1)

none-good : (f : Family) (ws : List ℕ) → first_bad f ws ≡ length ws → Each (λ (w : ℕ). is_bad f w ≡ false) ws
none-good f [] e = tt
none-good f (w ∷ ws) e =
    by_bool (is_bad f w)
    (λ t. absurd (omega (arith, bad-here f w ws t)))
    (λ t. (t, none-good f ws (omega (arith, bad-later f w ws t))))

-- the rule on words, passed
pub goods : (f : Family) (ws : List ℕ) → ltb (first_bad f ws) (length ws) ≡ false → Each (λ (w : ℕ). is_bad f w ≡ false) ws
goods f ws e = none-good f ws (omega (arith, bad-most f ws, ltb-false (first_bad f ws) (length ws) e))

below_each : (b : ℕ) (ws : List ℕ) → Each (λ (w : ℕ). w < b) ws → Below b ws
below_each b [] e = tt
below_each b (w ∷ ws) e = (e.0, below_each b ws e.1)

-- numbers alone decide how far samples reach and how many words they take
pub behind-map : (g : ℕ → ℕ) (s : List Sample) (n : ℕ) → behind n (revalued g s) ≡ behind n s
unfolding behind
behind-map g [] n = refl
behind-map g (x ∷ s) n = behind-map g s (x.0 + 1)

pub quiet-map : (g : ℕ → ℕ) (s : List Sample) (l : Option ℕ) → quiet (revalued g s) l ≡ quiet s l
quiet-map g s none = refl
quiet-map g s (some n) = ap (λ (m : ℕ). n - m) (behind-map g s 0)

pub length-map : (g : ℕ → ℕ) (s : List Sample) → length (revalued g s) ≡ length s
length-map g [] = refl
length-map g (x ∷ s) = ap suc (length-map g s)

module _ (R : ℕ) (pos : 0 < R) (g : ℕ → ℕ) where
  pub encode-map : (s : List Sample) (n t : ℕ) → length (encode_from R n (revalued g s) t) ≡ length (encode_from R n s t)
  encode-map [] n t = refl
  encode-map (x ∷ s) n t =
      encode-length R pos n (x.0, g x.1) (revalued g s) t
      ∙ ap (λ (k : ℕ). length (gap R (x.0 - n)) + suc k) (encode-map s (x.0 + 1) t)
      ∙ sym (encode-length R pos n x s t)

  pub fewest-map : (s : List Sample) (l : Option ℕ) → length (fewest R (revalued g s) l) ≡ length (fewest R s l)
  unfolding fewest
  fewest-map s l = ap (λ (t : ℕ). length (encode_from R 0 (revalued g s) t)) (quiet-map g s l) ∙ encode-map s 0 (quiet s l)

pub rising-map : (g : ℕ → ℕ) (s : List Sample) (n : ℕ) → Rising n s → Rising n (revalued g s)
rising-map g [] n r = tt
rising-map g (x ∷ s) n r = (r.0, rising-map g s (x.0 + 1) r.1)

none-some : {A : Type 0} {n : ℕ} → none ≡ some n → A
none-some {n = n} e = absurd (let z : ◌≡◌ {A = ℕ} 0 1 = cc in omega arith)

-- ---- a family's fewest words
module _ (f : Family) where
  fit-worded : (s : List Sample) (n : ℕ) → Rising n s → AllWorded f s → Fit (radix_of f) n (revalued (word_for f) s)
  fit-worded [] n r w = tt
  fit-worded (x ∷ s) n r w = (r.0, w.0.value, fit-worded s (x.0 + 1) r.1 w.1)

  meant-back : (s : List Sample) → AllWorded f s → revalued (meant f) (revalued (word_for f) s) ≡ s
  meant-back [] w = refl
  meant-back (x ∷ s) w = λ i. (x.0, w.0.says i) ∷ meant-back s w.1 i

  fits_each : (s : List Sample) → AllWorded f s → EachValue (λ (w : ℕ). w < 256 ^ value_bytes f) (revalued (word_for f) s)
  fits_each [] w = tt
  fits_each (x ∷ s) w = (w.0.fits, fits_each s w.1)

  inside-each : (s : List Sample) → AllWorded f s → EachValue (λ (w : ℕ). is_bad f w ≡ false) (revalued (word_for f) s)
  inside-each [] w = tt
  inside-each (x ∷ s) w = (w.0.inside, inside-each s w.1)

  module _ (s : List Sample) (l : Option ℕ) (r : Rising 0 s) (w : AllWorded f s) where
    fit : Fit (radix_of f) 0 (revalued (word_for f) s)
    fit = fit-worded s 0 r w

    -- they say the samples
    pub samples-there : samples_in f (words_for f s l) ≡ s
    unfolding samples_in words_for
    samples-there = ap (revalued (meant f)) (there_back (radix_of f) (some-radix f) (revalued (word_for f) s) l fit) ∙ meant-back s w

    -- and the length
    pub length-there : Lasting s l → ping_length (radix_of f) (words_for f s l) ≡ l
    unfolding words_for
    length-there h =
        length_back (radix_of f) (some-radix f) (revalued (word_for f) s) l fit
        (h ∙ sym (ap₂ lasting (behind-map (word_for f) s 0) (quiet-map (word_for f) s l)))

    pub below-words : Below (256 ^ value_bytes f) (words_for f s l)
    unfolding words_for fewest
    below-words =
        below_each (256 ^ value_bytes f) (encode_from (radix_of f) 0 (revalued (word_for f) s) (quiet (revalued (word_for f) s) l))
        (each-encode (radix_of f) (some-radix f) (λ (v : ℕ). v < 256 ^ value_bytes f) (run_fits f) (revalued (word_for f) s) 0
        (quiet (revalued (word_for f) s) l) (fits_each s w))

    pub values-words : values (radix_of f) (words_for f s l) ≡ length s
    unfolding words_for
    values-words =
        sym (length-decode (radix_of f) (some-radix f) (fewest (radix_of f) (revalued (word_for f) s) l) 0)
        ∙ ap length (there_back (radix_of f) (some-radix f) (revalued (word_for f) s) l fit)
        ∙ length-map (word_for f) s

    none-is_bad : first_bad f (words_for f s l) ≡ length (words_for f s l)
    unfolding words_for fewest
    none-is_bad =
        good_none f (encode_from (radix_of f) 0 (revalued (word_for f) s) (quiet (revalued (word_for f) s) l))
        (each-encode (radix_of f) (some-radix f) (λ (v : ℕ). is_bad f v ≡ false) (run_inside f) (revalued (word_for f) s) 0
        (quiet (revalued (word_for f) s) l) (inside-each s w))

    -- and pass the rules
    pub words-pass : length s ≤ most → judged (word_rules f (length s) (words_for f s l)) ≡ Fine
    words-pass h =
        let ws = words_for f s l in
        passed (word_rules f (length s) ws) (
          le-ltb most (values (radix_of f) ws) (omega (arith, values-words)),
          (
            le-ltb (first_bad f ws) (length ws) (omega (arith, none-is_bad)),
            (ap not (eq-eqb (length s) (values (radix_of f) ws) (sym values-words)), tt),
          ),
        )

  -- what words say: it rises, each value has a word, the length can be had, and it takes no more words
  module _ (ws : List ℕ) where
    pub says-rising : Rising 0 (samples_in f ws)
    unfolding samples_in
    says-rising = rising-map (meant f) (decode (radix_of f) ws) 0
        (fit-rising (radix_of f) (decode (radix_of f) ws) 0 (decode-fit (radix_of f) (some-radix f) ws 0))

    pub says-lasting : Lasting (samples_in f ws) (ping_length (radix_of f) ws)
    unfolding samples_in
    says-lasting =
        let s = decode (radix_of f) ws in
        let l = ping_length (radix_of f) ws in
        length_can (radix_of f) (some-radix f) ws ∙ sym (ap₂ lasting (behind-map (meant f) s 0) (quiet-map (meant f) s l))

    pub says-many : length (samples_in f ws) ≡ values (radix_of f) ws
    unfolding samples_in
    says-many = length-map (meant f) (decode (radix_of f) ws) ∙ length-decode (radix_of f) (some-radix f) ws 0

    pub says-fewest : length (words_for f (samples_in f ws) (ping_length (radix_of f) ws)) ≤ length ws
    unfolding samples_in words_for
    says-fewest =
        let R = radix_of f in
        let l = ping_length R ws in
        omega (
          arith,
          fewest-map R (some-radix f) (word_for f) (revalued (meant f) (decode R ws)) l,
          fewest-map R (some-radix f) (meant f)
              (decode R ws) l,
          fewest-words R (some-radix f) ws,
        )

    pub says_some : 1 ≤ length ws → 1 ≤ length (words_for f (samples_in f ws) (ping_length (radix_of f) ws))
    unfolding samples_in words_for
    says_some h =
        let R = radix_of f in
        let l = ping_length R ws in
        omega (
          arith,
          fewest-map R (some-radix f) (word_for f) (revalued (meant f) (decode R ws)) l,
          fewest-map R (some-radix f) (meant f)
              (decode R ws) l,
          fewest-some R (some-radix f) ws h,
        )

  says-from : (ws : List ℕ) (n : ℕ) → Below (256 ^ value_bytes f) ws → Each (λ (w : ℕ). is_bad f w ≡ false) ws
      → AllWorded f (revalued (meant f) (decode_from (radix_of f) n ws))
  says-from [] n b g = unfold decode_from in tt
  says-from (w ∷ ws) n b g =
      let R = radix_of f in
      by_bool (is_run R w)
      (λ e. rw (decode-run R (some-radix f) n w ws e) (says-from ws (n + run_length R w) b.1 g.1))
      (λ e. rw (decode-value R (some-radix f) n w ws e) (meant-worded f w b.0 e g.0, says-from ws (n + 1) b.1 g.1))

  pub says-worded : (ws : List ℕ) → Below (256 ^ value_bytes f) ws → Each (λ (w : ℕ). is_bad f w ≡ false) ws → AllWorded f (samples_in f ws)
  unfolding samples_in
  says-worded ws b g = says-from ws 0 b g

-- samples, or a length, take a word at least
pub words-some : (f : Family) (s : List Sample) (l : Option ℕ) → Lasting s l → (length s ≡ 0 → l ≡ none → ⊥) → 1 ≤ length (words_for f s l)
unfolding words_for fewest encode_from
words-some f [] none h n = absurd (n refl refl)
words-some f [] (some m) h n = gap-some (radix_of f) (some-radix f) (m - behind 0 []) (longer (m - behind 0 []) refl)
  where
    longer : (t : ℕ) → m - behind 0 [] ≡ t → 1 ≤ m - behind 0 []
    longer zero e = absurd (none-some (sym (h ∙ ap (lasting (behind 0 [])) e)))
    longer (suc t) e = omega arith
words-some f (x ∷ s) l h n =
    let g = word_for f in
    omega (arith, encode-length (radix_of f) (some-radix f) 0 (x.0, g x.1) (revalued g s) (quiet (revalued g (x ∷ s)) l))

-- words that are their own values say the samples as they stand
pub samples-same : (f : Family) → ((w : ℕ) → meant f w ≡ w) → (ws : List ℕ) → samples_in f ws ≡ decode (radix_of f) ws
unfolding samples_in
samples-same f e ws = each (decode (radix_of f) ws)
  where
    each : (s : List Sample) → revalued (meant f) s ≡ s
    each [] = refl
    each (x ∷ s) = λ i. (x.0, e x.1 i) ∷ each s i

-- no words that say these samples and this length are fewer
pub no_fewer : (f : Family) (ws : List ℕ) (s : List Sample) (l : Option ℕ) → samples_in f ws ≡ s → ping_length (radix_of f) ws ≡ l
    → length (words_for f s l) ≤ length ws
no_fewer f ws s l es el = rw (← es, ← el) (says-fewest f ws)

pub values-few : (R : ℕ) (ws : List ℕ) → values R ws ≤ length ws
values-few R [] = unfold values in omega arith
values-few R (w ∷ ws) =
    let r = values-few R ws in
    by_bool (is_run R w) (λ e. omega (arith, values-run R w ws e)) (λ e. omega (arith, values-value R w ws e))

-- ---- the writers' test: each value has a word
test_worded : (f : Family) (v : ℕ) → wordless f v ≡ false → Worded f v
unfolding wordless
test_worded f v e =
    let w = word_for f v in
    let a = not (ltb w (256 ^ value_bytes f)) in
    let b = is_run (radix_of f) w in
    let c = is_bad f w in
    let d = not (eqb (meant f w) v) in
    let abc = or_left (a || b || c) d e in
    let ab = or_left (a || b) c abc in
    record {
      fits = ltb-true w (256 ^ value_bytes f) (not-false _ (or_left a b ab));
      value = or_right a b ab;
      inside = or_right (a || b) c abc;
      says = eqb-true (meant f w) v (not-false _ (or_right (a || b || c) d e));
    }

-- a value that is its own word, and short enough
pub wordless-same : (f : Family) (v : ℕ) → word_for f v ≡ v → meant f v ≡ v → v < 256 ^ value_bytes f
    → wordless f v ≡ (is_run (radix_of f) v || is_bad f v)
unfolding wordless
wordless-same f v e m h =
    rw (e, m, lt-ltb v (256 ^ value_bytes f) h, eq-eqb v v refl) (or-false (is_run (radix_of f) v || is_bad f v))

module _ (f : Family) (x : Sample) (s : List Sample) where
  pub wordless-here : wordless f x.1 ≡ true → first_wordless f (x ∷ s) ≡ 0
  unfolding first_wordless
  wordless-here e = rw (e, first_wordless)

  pub wordless-later : wordless f x.1 ≡ false → first_wordless f (x ∷ s) ≡ first_wordless f s + 1
  unfolding first_wordless
  wordless-later e = rw (e, first_wordless)

pub wordless-most : (f : Family) (s : List Sample) → first_wordless f s ≤ length s
wordless-most f [] = unfold first_wordless in omega arith
wordless-most f (x ∷ s) =
    by_bool (wordless f x.1)
    (λ t. omega (arith, wordless-here f x s t))
    (λ t. omega (arith, wordless-later f x s t, wordless-most f s))

pub all-worded : (f : Family) (s : List Sample) → first_wordless f s ≡ length s → AllWorded f s
all-worded f [] e = tt
all-worded f (x ∷ s) e =
    by_bool (wordless f x.1)
    (λ t. absurd (omega (arith, wordless-here f x s t)))
    (λ t. (test_worded f x.1 t, all-worded f s (omega (arith, wordless-later f x s t))))
