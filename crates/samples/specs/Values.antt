-- What the words of each family stand for, and which words a ping holds. Assumes nothing.
use Rattle.std.specs.Prelude.{ℕ, zero, suc, ◌+◌, ◌-◌, ◌*◌, ◌/◌, ◌%◌, ◌^◌, Bool, true, false, not, ◌&&◌, ◌||◌, List, [], ◌∷◌, map, eqb, ltb, ℤ, pos, negsuc}
use Rattle.std.proofs.Math.Option.{Option}
use Rattle.order.specs.Order.{pattern_of}
use Rattle.layout.specs.Families.{Family, wide, narrow, encoded, wide_angles, narrow_angles, value_bytes, radix_of, is_bad}
use Rattle.samples.specs.Words.{Sample}
use Rattle.samples.specs.Runs.{is_run, decode, values, fewest}

-- ---- CE-16: a sign, three bits of exponent, twelve of mantissa
-- with an exponent there is a virtual thirteenth bit, which is 1
abbrev pub scaled : ℕ → ℕ → ℕ
scaled zero mantissa = mantissa
scaled (suc e) mantissa = (4096 + mantissa) * 2 ^ e

unfoldable pub magnitude : ℕ → ℕ
magnitude m = scaled (m / 4096) (m % 4096)

abbrev pub negated : ℕ → ℤ
negated zero = pos 0
negated (suc n) = negsuc n

-- the count of a word; 8000 is a second spelling of 0
unfoldable pub count_of : ℕ → ℤ
count_of w = elim (ltb w 32768) [ true ↦ pos (magnitude w) | false ↦ negated (magnitude (w - 32768)) ]

-- the word of a count, handed over as the pattern of a signed number of four bytes: it is halved until thirteen bits hold it, at most
-- six times
unfoldable pub shortened : ℕ → ℕ → ℕ
shortened zero c = c
shortened (suc k) c = elim (ltb c 8192) [ true ↦ c | false ↦ 4096 + shortened k (c / 2) ]

unfoldable pub code_of : ℕ → ℕ
code_of v = elim (ltb v 2147483648) [ true ↦ shortened 6 v | false ↦ 32768 + shortened 6 (4294967296 - v) ]

-- ---- words and values: only CE-16 words are encoded
unfoldable pub meant : Family → ℕ → ℕ
meant wide w = w
meant narrow w = w
meant encoded w = pattern_of 4 (count_of w)
meant wide_angles w = w
meant narrow_angles w = w

unfoldable pub word_for : Family → ℕ → ℕ
word_for wide v = v
word_for narrow v = v
word_for encoded v = code_of v
word_for wide_angles v = v
word_for narrow_angles v = v

-- samples with other values in the place of theirs
abbrev pub revalued : (ℕ → ℕ) → List Sample → List Sample
revalued g s = map (λ (x : Sample). (x.0, g x.1)) s

-- the samples that words say, and the fewest words that say samples and a length
unfoldable pub samples_in : Family → List ℕ → List Sample
samples_in f ws = revalued (meant f) (decode (radix_of f) ws)

unfoldable pub words_for : Family → List Sample → Option ℕ → List ℕ
words_for f s l = fewest (radix_of f) (revalued (word_for f) s) l

-- a value without a word: the word for it is too long, a run's pattern or outside the limits, or stands for another value
unfoldable pub wordless : Family → ℕ → Bool
wordless f v =
    let w = word_for f v in
    not (ltb w (256 ^ value_bytes f)) || is_run (radix_of f) w || is_bad f w || not (eqb (meant f w) v)

-- ---- the words that are held
-- all but the last
unfoldable pub front : List ℕ → List ℕ
front [] = []
front (w ∷ []) = []
front (w ∷ v ∷ ws) = w ∷ front (v ∷ ws)

-- words of two bytes may have a space behind them: it is one where the number of samples is that of the value words before it and not
-- that of all
unfoldable pub has_space : Family → ℕ → List ℕ → Bool
has_space f count ws =
    let R = radix_of f in
    eqb (value_bytes f) 2 && (not (eqb count (values R ws)) && eqb count (values R (front ws)))

unfoldable pub held_words : Family → ℕ → List ℕ → List ℕ
held_words f count ws = elim (has_space f count ws) [ true ↦ front ws | false ↦ ws ]
