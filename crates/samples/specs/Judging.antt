-- The rules on a ping's samples. Assumes nothing.
use Rattle.std.specs.Prelude.{ℕ, ◌+◌, ◌*◌, Bool, true, false, not, List, [], ◌∷◌, eqb, leb, ltb, length}
use Rattle.std.proofs.Math.Option.{Option, some, none}
use Rattle.rules.specs.Rules.{Rule, ◌⇒◌}
use Rattle.layout.specs.Verdict.{Verdict}
use Rattle.layout.specs.Answers.{judged, Breach, ◌byte◌}
use Rattle.layout.specs.Families.{Family, value_bytes, sample_bytes, radix_of}
use Rattle.samples.specs.Words.{Sample, all_words, all_samples}
use Rattle.samples.specs.Runs.{values, first_bad, behind}
use Rattle.samples.specs.Values.{wordless, held_words}

-- a ping holds at most 32,764 values
abbrev pub most : ℕ
most = 32764

-- the place in the list of the first number below n or not above the one before it; the list's length where all rise
unfoldable pub first_drop : ℕ → List Sample → ℕ
first_drop n [] = 0
first_drop n (x ∷ s) = elim (leb n x.0) [ true ↦ first_drop (x.0 + 1) s + 1 | false ↦ 0 ]

-- the place in the list of the first value that has no word; the list's length where all have one
unfoldable pub first_wordless : Family → List Sample → ℕ
first_wordless f [] = 0
first_wordless f (x ∷ s) = elim (wordless f x.1) [ true ↦ 0 | false ↦ first_wordless f s + 1 ]

-- a length under the last sample number plus 2, or under 1 for a ping without samples
abbrev pub too_short : List Sample → Option ℕ → Bool
too_short s none = false
too_short s (some n) = ltb n (behind 0 s + 1)

-- some number is not above the one before it
abbrev pub dropping : List Sample → Bool
dropping s = ltb (first_drop 0 s) (length s)

-- some word is outside the limits
abbrev pub any_bad : Family → List ℕ → Bool
any_bad f ws = ltb (first_bad f ws) (length ws)

-- ---- where samples stand in a ping, counted from its first byte: an uncompressed ping's behind the header; there a compressed ping's
-- number of samples, and its words behind that
abbrev pub first_sample : ℕ
first_sample = 24

abbrev pub count_at : ℕ
count_at = 24

abbrev pub words_at : ℕ
words_at = 28

-- uncompressed: at most 32,764 values, 11 at the tuple; numbers strictly rise, 23 at the first that is not above the one before it
abbrev pub sample_rules : Family → List Sample → List (Rule Breach)
sample_rules f s =
    (ltb most (length s) ⇒ 11 byte 0)
    ∷ (dropping s ⇒ 23 byte (first_sample + sample_bytes f * first_drop 0 s))
    ∷ []

-- compressed: at most 32,764 values, 11 at the tuple; each within its limits, 24 at the first word that is not; the number of samples
-- equals the number of value words, 25 at that field
abbrev pub word_rules : Family → ℕ → List ℕ → List (Rule Breach)
word_rules f count ws =
    (ltb most (values (radix_of f) ws) ⇒ 11 byte 0)
    ∷ (any_bad f ws ⇒ 24 byte (words_at + value_bytes f * first_bad f ws))
    ∷ (not (eqb count (values (radix_of f) ws)) ⇒ 25 byte count_at)
    ∷ []

-- ---- the verdict on the part of a file that a ping's samples fill
unfoldable pub judged_samples : Family → Bool → List ℕ → Verdict
judged_samples f o part = judged (sample_rules f (all_samples f o part))

unfoldable pub judged_words : Family → Bool → ℕ → List ℕ → Verdict
judged_words f o count part = judged (word_rules f count (held_words f count (all_words (value_bytes f) o part)))
