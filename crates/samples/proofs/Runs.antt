-- Laws of runs and values, over the radix R. Assumes nothing.
use mathlib.Core.Path.{◌≡◌, refl, sym, ap, ap₂, ◌∙◌}
use mathlib.Core.Logic.{◌↔◌}
use mathlib.Core.Bool.{Bool, true, false, true≢false}
use mathlib.Core.List.{List, [], ◌∷◌, ◌++◌, append_assoc, append-nil}
use mathlib.Core.Option.{Option, some, none}
use Prim.Native.Nat.{ℕ, zero, suc, ◌+◌, ◌-◌, ◌*◌, ◌/◌, ◌%◌, ◌≤◌, ◌<◌}
use native.Mathlib.Nat.{div-add-mod', mod-lt, add_assoc, add-zero, zero-add, add-sub_cancel_left, le_of_mul-le-mul_right}
use native.Mathlib.Nat.{lt_of_mul-lt-mul_right}
use native.Mathlib.Numerals.{add-one}
use native.Mathlib.Omega.{arith}
use lib.Arith.{digits_div, digits_mod}
use lib.Dec.{ltb}
use lib.ListN.{length, replicate, length-append, length-replicate}
use borrow.Author.Tests.{eq-eqb, lt-ltb, ltb-false}
use Rattle.samples.specs.Words.{Sample}
use Rattle.samples.specs.Runs.{is_run, run_length, decode_from, decode, samples_from, ends_from, ping_length, last_run, gap, encode_from}
use Rattle.samples.specs.Runs.{behind, quiet, fewest}
use Rattle.samples.specs.Judging.{too_short}

-- the quiet samples behind the last value, g of them being there already
unfoldable pub tail_from : ℕ → ℕ → List ℕ → ℕ
tail_from R g [] = g
tail_from R g (w ∷ ws) =
    elim (is_run R w) [
      | true ↦ tail_from R (g + run_length R w) ws
      | false ↦ tail_from R 0 ws
    ]

-- samples that the words can hold: numbers from n on rise strictly, no value is a run's pattern
abbrev pub Fit : ℕ → ℕ → List Sample → Type 0
Fit R n [] = Unit {0}
Fit R n (x ∷ s) = (n ≤ x.0) × (is_run R x.1 ≡ false) × Fit R (x.0 + 1) s

-- ---- laws
-- a test, by its two outcomes
pub by_bool : {C : Type 0} (b : Bool) → (b ≡ true → C) → (b ≡ false → C) → C
by_bool true f g = f refl
by_bool false f g = g refl

module _ (R : ℕ) (pos : 0 < R) where
  -- the two clauses of decode, by what the word is
  pub decode-run : (n w : ℕ) (ws : List ℕ) → is_run R w ≡ true → decode_from R n (w ∷ ws) ≡ decode_from R (n + run_length R w) ws
  unfolding decode_from
  decode-run n w ws e = rw (e, decode_from)

  pub decode-value : (n w : ℕ) (ws : List ℕ) → is_run R w ≡ false → decode_from R n (w ∷ ws) ≡ (n, w) ∷ decode_from R (n + 1) ws
  unfolding decode_from
  decode-value n w ws e = rw (e, decode_from)

  pub tail-run : (g w : ℕ) (ws : List ℕ) → is_run R w ≡ true → tail_from R g (w ∷ ws) ≡ tail_from R (g + run_length R w) ws
  unfolding tail_from
  tail-run g w ws e = rw (e, tail_from)

  pub tail-value : (g w : ℕ) (ws : List ℕ) → is_run R w ≡ false → tail_from R g (w ∷ ws) ≡ tail_from R 0 ws
  unfolding tail_from
  tail-value g w ws e = rw (e, tail_from)

  run_is : (r : ℕ) → r < R → is_run R ((R - 1) * R + r) ≡ true
  unfolding is_run
  run_is r h = rw (digits_div (R - 1)) (eq-eqb (R - 1) (R - 1) refl)

  run_long : (r : ℕ) → r < R → run_length R ((R - 1) * R + r) ≡ r + 1
  unfolding run_length
  run_long r h = rw (digits_mod (R - 1) {m = R} {r = r} h)

  -- whatever passes over a run by adding its length passes over a gap by adding the gap
  module _ {A : Type 0} (F : ℕ → List ℕ → A)
      (step : (n w : ℕ) (ws : List ℕ) → is_run R w ≡ true → F n (w ∷ ws) ≡ F (n + run_length R w) ws) where
    past_one : (n r : ℕ) (ws : List ℕ) → r < R → F n (((R - 1) * R + r) ∷ ws) ≡ F (n + (r + 1)) ws
    past_one n r ws h = step n ((R - 1) * R + r) ws (run_is r h) ∙ ap (λ (k : ℕ). F (n + k) ws) (run_long r h)

    past-full : (q n : ℕ) (ws : List ℕ) → F n (replicate q ((R - 1) * R + (R - 1)) ++ ws) ≡ F (n + q * R) ws
    past-full zero n ws = ap (λ (k : ℕ). F k ws) (omega arith)
    past-full (suc q) n ws =
        past_one n (R - 1) (replicate q ((R - 1) * R + (R - 1)) ++ ws) (omega arith)
        ∙ past-full q (n + (R - 1 + 1)) ws
        ∙ ap (λ (k : ℕ). F k ws) (omega arith)

    past-last : (r n : ℕ) (ws : List ℕ) → r < R → F n (last_run R r ++ ws) ≡ F (n + r) ws
    unfolding last_run
    past-last zero n ws h = ap (λ (k : ℕ). F k ws) (omega arith)
    past-last (suc r) n ws h = past_one n r ws (omega arith) ∙ ap (λ (k : ℕ). F (n + k) ws) (add-one r)

    past-gap : (g n : ℕ) (ws : List ℕ) → F n (gap R g ++ ws) ≡ F (n + g) ws
    unfolding gap
    past-gap g n ws =
        rw append_assoc
        (past-full (g / R) n (last_run R (g % R) ++ ws)
        ∙ past-last (g % R) (n + g / R * R) ws (mod-lt g pos)
        ∙ ap (λ (k : ℕ). F k ws) (omega (arith, div-add-mod' g R)))

    past-gap-only : (g n : ℕ) → F n (gap R g) ≡ F (n + g) []
    past-gap-only g n = ap (F n) (sym (append-nil (gap R g))) ∙ past-gap g n []

  -- what the fewest words say is what they were made from: the samples
  pub decode-encode : (s : List Sample) (n t : ℕ) → Fit R n s → decode_from R n (encode_from R n s t) ≡ s
  unfolding encode_from decode_from
  decode-encode [] n t f = past-gap-only (decode_from R) decode-run t n
  decode-encode (x ∷ s) n t f =
      let rest = x.1 ∷ encode_from R (x.0 + 1) s t in
      past-gap (decode_from R) decode-run (x.0 - n) n rest
      ∙ ap (λ (k : ℕ). decode_from R k rest) (omega arith)
      ∙ decode-value x.0 x.1 (encode_from R (x.0 + 1) s t) f.1
      ∙ ap (λ (l : List Sample). x ∷ l) (decode-encode s (x.0 + 1) t f.2)

  -- and the quiet samples behind them
  pub tail-encode : (s : List Sample) (n t : ℕ) → Fit R n s → tail_from R 0 (encode_from R n s t) ≡ t
  unfolding encode_from tail_from
  tail-encode [] n t f = past-gap-only (tail_from R) tail-run t 0 ∙ omega arith
  tail-encode (x ∷ s) n t f =
      past-gap (tail_from R) tail-run (x.0 - n) 0 (x.1 ∷ encode_from R (x.0 + 1) s t)
      ∙ tail-value (0 + (x.0 - n)) x.1 (encode_from R (x.0 + 1) s t) f.1
      ∙ tail-encode s (x.0 + 1) t f.2

  -- what words say rises and holds no run's pattern
  fit-less : (s : List Sample) (m n : ℕ) → n ≤ m → Fit R m s → Fit R n s
  fit-less [] m n h f = f
  fit-less (x ∷ s) m n h f = (omega arith, f.1, f.2)

  pub decode-fit : (ws : List ℕ) (n : ℕ) → Fit R n (decode_from R n ws)
  unfolding decode_from
  decode-fit [] n = tt
  decode-fit (w ∷ ws) n =
      by_bool (is_run R w)
      (λ e. rw (decode-run n w ws e)
      (fit-less (decode_from R (n + run_length R w) ws) (n + run_length R w) n (omega arith) (decode-fit ws (n + run_length R w))))
      (λ e. rw (decode-value n w ws e) (omega arith, e, decode-fit ws (n + 1)))

  -- ---- the fewest words
  gap-words : (g : ℕ) → length (gap R g) ≡ g / R + length (last_run R (g % R))
  unfolding gap
  gap-words g = simp (length-append, length-replicate)

  -- a gap's words cover it, and no smaller number of runs does
  last-covers : (q r g : ℕ) → q * R + r ≡ g → r < R → g ≤ (q + length (last_run R r)) * R
  unfolding last_run
  last-covers q zero g e h = omega arith
  last-covers q (suc r) g e h = omega arith

  last-least : (q r g c : ℕ) → q * R + r ≡ g → g ≤ c * R → q + length (last_run R r) ≤ c
  unfolding last_run
  last-least q zero g c e h = let k : q ≤ c = le_of_mul-le-mul_right {k = R} (omega arith) pos in omega arith
  last-least q (suc r) g c e h = let k : q < c = lt_of_mul-lt-mul_right R (omega arith) in omega arith

  pub gap-covers : (g : ℕ) → g ≤ length (gap R g) * R
  gap-covers g = rw (gap-words g) (last-covers (g / R) (g % R) g (div-add-mod' g R) (mod-lt g pos))

  pub gap-least : (g c : ℕ) → g ≤ c * R → length (gap R g) ≤ c
  gap-least g c h = rw (gap-words g) (last-least (g / R) (g % R) g c (div-add-mod' g R) h)

  pub run_short : (w : ℕ) → run_length R w ≤ R
  unfolding run_length
  run_short w = omega (arith, mod-lt w pos)

  -- one more run adds at most one word to a gap
  gap_more : (g w : ℕ) → length (gap R (g + run_length R w)) ≤ length (gap R g) + 1
  gap_more g w = gap-least (g + run_length R w) (length (gap R g) + 1) (omega (arith, gap-covers g, run_short w))

  pub gap-none : length (gap R 0) ≡ 0
  gap-none = omega (arith, gap-least 0 0 (omega arith))

  pub encode-length : (n : ℕ) (x : Sample) (s : List Sample) (t : ℕ)
      → length (encode_from R n (x ∷ s) t) ≡ length (gap R (x.0 - n)) + suc (length (encode_from R (x.0 + 1) s t))
  unfolding encode_from
  encode-length n x s t = length-append (gap R (x.0 - n)) (x.1 ∷ encode_from R (x.0 + 1) s t)

  -- words that stand behind g quiet samples since n: encoding what they say takes no more words than they and a gap of g
  fewest-from : (ws : List ℕ) (n g : ℕ) → length (encode_from R n (decode_from R (n + g) ws) (tail_from R g ws)) ≤ length (gap R g) + length ws
  fewest-from [] n g = unfold encode_from decode_from tail_from in omega arith
  fewest-from (w ∷ ws) n g =
      by_bool (is_run R w)
      (λ e. rw (decode-run (n + g) w ws e, tail-run g w ws e, add_assoc n g (run_length R w))
      (omega (arith, fewest-from ws n (g + run_length R w), gap_more g w)))
      (λ e.
      rw (decode-value (n + g) w ws e, tail-value g w ws e)
      (rw (encode-length n (n + g, w), add-sub_cancel_left n g) (omega (arith, gap-none, rw add-zero at (fewest-from ws (n + g + 1) 0)))))

  -- ---- how many samples there are in all: up to the last value, and the quiet ones behind it
  pub samples-run : (n w : ℕ) (ws : List ℕ) → is_run R w ≡ true → samples_from R n (w ∷ ws) ≡ samples_from R (n + run_length R w) ws
  unfolding samples_from
  samples-run n w ws e = rw (e, samples_from)

  pub samples-value : (n w : ℕ) (ws : List ℕ) → is_run R w ≡ false → samples_from R n (w ∷ ws) ≡ samples_from R (n + 1) ws
  unfolding samples_from
  samples-value n w ws e = rw (e, samples_from)

  samples-in-all : (ws : List ℕ) (n g : ℕ) → samples_from R (n + g) ws ≡ behind n (decode_from R (n + g) ws) + tail_from R g ws
  unfolding behind
  samples-in-all [] n g = unfold samples_from decode_from tail_from in refl
  samples-in-all (w ∷ ws) n g =
      by_bool (is_run R w)
      (λ e. rw (samples-run (n + g) w ws e, decode-run (n + g) w ws e, tail-run g w ws e, add_assoc n g (run_length R w))
      (samples-in-all ws n (g + run_length R w)))
      (λ e.
      rw (samples-value (n + g) w ws e, decode-value (n + g) w ws e, tail-value g w ws e)
      (rw add-zero at (samples-in-all ws (n + g + 1) 0)))

  -- the last word is a run exactly where quiet samples are behind the last value
  ends-quiet : (ws : List ℕ) (g : ℕ) → ends_from R (ltb 0 g) ws ≡ ltb 0 (tail_from R g ws)
  unfolding ends_from
  ends-quiet [] g = unfold tail_from in refl
  ends-quiet (w ∷ ws) g =
      by_bool (is_run R w)
      (λ e.
      let more : 0 < g + run_length R w = unfold run_length in omega arith in
      rw (e, tail-run g w ws e)
      (ap (λ (b : Bool). ends_from R b ws) (sym (lt-ltb 0 (g + run_length R w) more)) ∙ ends-quiet ws (g + run_length R w)))
      (λ e. rw (e, tail-value g w ws e) (ends-quiet ws 0))

  -- a gap takes a word at least, and so does what words say
  pub gap-some : (g : ℕ) → 1 ≤ g → 1 ≤ length (gap R g)
  gap-some g h = by_length (length (gap R g)) refl
    where
      by_length : (n : ℕ) → length (gap R g) ≡ n → 1 ≤ length (gap R g)
      by_length zero e = let none : g ≤ 0 * R = rw e at (gap-covers g) in absurd (omega arith)
      by_length (suc n) e = omega arith

  some-from : (ws : List ℕ) (n g : ℕ) → 1 ≤ g + length ws → 1 ≤ length (encode_from R n (decode_from R (n + g) ws) (tail_from R g ws))
  some-from [] n g h = unfold encode_from decode_from tail_from in gap-some g (omega arith)
  some-from (w ∷ ws) n g h =
      by_bool (is_run R w)
      (λ e. rw (decode-run (n + g) w ws e, tail-run g w ws e, add_assoc n g (run_length R w))
      (some-from ws n (g + run_length R w) (unfold run_length in omega arith)))
      (λ e. rw (decode-value (n + g) w ws e, tail-value g w ws e)
      (omega (arith, encode-length n (n + g, w) (decode_from R (n + g + 1) ws) (tail_from R 0 ws))))

-- ---- the length of a ping of which m samples end in the last value and t quiet ones follow
abbrev pub lasting : ℕ → ℕ → Option ℕ
lasting m zero = none
lasting m (suc t) = some (m + suc t)

by-ends : (b : Bool) (n m t : ℕ) → b ≡ ltb 0 t → n ≡ m + t → elim b as (λ _. Option ℕ) [ true ↦ some n | false ↦ none ] ≡ lasting m t
by-ends true n m zero e h = absurd (true≢false e)
by-ends false n m zero e h = refl
by-ends true n m (suc t) e h = ap some h
by-ends false n m (suc t) e h = absurd (true≢false (sym (lt-ltb 0 (suc t) (omega arith)) ∙ sym e))

quiet-lasting : (s : List Sample) (t : ℕ) → quiet s (lasting (behind 0 s) t) ≡ t
quiet-lasting s zero = refl
quiet-lasting s (suc t) = omega arith

-- a length that these samples can have: none, or more than end in the last value
abbrev pub Lasting : List Sample → Option ℕ → Type 0
Lasting s l = l ≡ lasting (behind 0 s) (quiet s l)

lasts : (m n : ℕ) → m < n → some n ≡ lasting m (n - m)
lasts m n h = by-rest (n - m) refl
  where
    by-rest : (t : ℕ) → n - m ≡ t → some n ≡ lasting m (n - m)
    by-rest zero e = absurd (omega arith)
    by-rest (suc t) e = rw e (ap some (omega arith))

-- the writers' test on a length
pub long-enough : (s : List Sample) (l : Option ℕ) → too_short s l ≡ false → Lasting s l
long-enough s none e = refl
long-enough s (some n) e = lasts (behind 0 s) n (omega (arith, ltb-false n (behind 0 s + 1) e))

-- ---- a whole ping: samples from 0
module _ (R : ℕ) (pos : 0 < R) where
  length-lasting : (ws : List ℕ) → ping_length R ws ≡ lasting (behind 0 (decode R ws)) (tail_from R 0 ws)
  unfolding ping_length
  length-lasting ws =
      by-ends (ends_from R false ws) (samples_from R 0 ws) (behind 0 (decode R ws)) (tail_from R 0 ws) (ends-quiet R pos ws 0)
      (rw (zero-add 0) at (samples-in-all R pos ws 0 0))

  -- its quiet samples are those behind the last value
  pub quiet-tail : (ws : List ℕ) → quiet (decode R ws) (ping_length R ws) ≡ tail_from R 0 ws
  quiet-tail ws = rw (length-lasting ws) (quiet-lasting (decode R ws) (tail_from R 0 ws))

  -- where the last word is a value, none is quiet behind it: all samples end in it
  pub ends-behind : (ws : List ℕ) → ends_from R false ws ≡ false → samples_from R 0 ws ≡ behind 0 (decode R ws)
  ends-behind ws e =
      let quiet = ltb-false 0 (tail_from R 0 ws) (sym (ends-quiet R pos ws 0) ∙ e) in
      omega (arith, rw (zero-add 0) at (samples-in-all R pos ws 0 0))

  -- what any words say can be said again
  pub length_can : (ws : List ℕ) → Lasting (decode R ws) (ping_length R ws)
  length_can ws = rw (length-lasting ws, quiet-lasting (decode R ws) (tail_from R 0 ws))

  -- the fewest words say what they were made from
  module _ (s : List Sample) (l : Option ℕ) (f : Fit R 0 s) where
    pub there_back : decode R (fewest R s l) ≡ s
    unfolding fewest
    there_back = decode-encode R pos s 0 (quiet s l) f

    pub length_back : Lasting s l → ping_length R (fewest R s l) ≡ l
    unfolding fewest
    length_back h =
        length-lasting (encode_from R 0 s (quiet s l))
        ∙ (λ i. lasting (behind 0 (decode-encode R pos s 0 (quiet s l) f i)) (tail-encode R pos s 0 (quiet s l) f i))
        ∙ sym h

  -- no words that say the same are fewer
  pub fewest-words : (ws : List ℕ) → length (fewest R (decode R ws) (ping_length R ws)) ≤ length ws
  unfolding fewest
  fewest-words ws = rw (quiet-tail ws) (omega (arith, gap-none R pos, rw (zero-add 0) at (fewest-from R pos ws 0 0)))

  pub fewest-some : (ws : List ℕ) → 1 ≤ length ws → 1 ≤ length (fewest R (decode R ws) (ping_length R ws))
  unfolding fewest
  fewest-some ws h = rw (quiet-tail ws) (rw (zero-add 0) at (some-from R pos ws 0 0 (omega arith)))

  -- words say the same exactly where their fewest words are the same
  pub same : (us ws : List ℕ)
      → ((decode R us ≡ decode R ws) × (ping_length R us ≡ ping_length R ws))
      ↔ (fewest R (decode R us) (ping_length R us) ≡ fewest R (decode R ws) (ping_length R ws))
  same us ws =
      let fu = decode-fit R pos us 0 in
      let fw = decode-fit R pos ws 0 in (
        λ e. ap₂ (fewest R) e.0 e.1,
        λ e. (
          sym (there_back (decode R us) (ping_length R us) fu) ∙ ap (decode R) e ∙ there_back (decode R ws) (ping_length R ws) fw,
          sym (length_back (decode R us) (ping_length R us) fu (length_can us))
              ∙ ap (ping_length R) e
              ∙ length_back (decode R ws) (ping_length R ws) fw (length_can ws),
        ),
      )
