-- Samples as the loops over them have them: numbers or values alone, values as words, and room for both. Assumes nothing.
use Rattle.std.specs.Prelude.{ℕ, ◌≤◌, List, map, ℤ, length}
use Rattle.order.specs.Order.{pattern_of}
use Rattle.layout.specs.Families.{Family}
use Rattle.samples.specs.Words.{Sample}
use Rattle.samples.specs.Lists.{handed_bytes, paired}
use Rattle.samples.specs.Values.{word_for, revalued}

-- samples of which the numbers alone count, and of which the values alone do: the other of each is 0
abbrev pub numbered : List ℕ → List Sample
numbered ns = map (λ (n : ℕ). (n, 0)) ns

abbrev pub valued : ℕ → List ℤ → List Sample
valued w vs = map (λ (v : ℤ). (0, pattern_of w v)) vs

-- samples as their values' words
abbrev pub worded : Family → List ℕ → List ℤ → List Sample
worded f ns vs = revalued (word_for f) (paired (handed_bytes f) ns vs)

-- both slices hold as many
pub record Room (s : List Sample) (numbers : List ℕ) (values : List ℤ) : Type 0 where
  pub for_numbers : length s ≤ length numbers
  pub for_values : length s ≤ length values
