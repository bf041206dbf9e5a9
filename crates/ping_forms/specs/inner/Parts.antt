-- A ping's samples and words by their place, and whether it stays compressed. Assumes nothing.
use Rattle.std.specs.Prelude.{◌≡◌, ℕ, ◌+◌, ◌-◌, ◌%◌, ◌^◌, ◌≤◌, Bool, false, ◌||◌, List, ltb, take, drop}
use Rattle.order.specs.Order.{num_of}
use Rattle.layout.specs.Families.{Family, narrow, number_bytes, value_bytes, radix_of}
use Rattle.samples.specs.Words.{all_words}
use Rattle.samples.specs.Runs.{samples_from, ends_from}
use Rattle.samples.specs.Values.{held_words}

-- what stands p bytes behind the first byte of a tuple of n bytes, up to its attribute
abbrev pub part_at : List ℕ → ℕ → ℕ → ℕ → List ℕ
part_at f at n p = take (at + (n - 8) - (at + p)) (drop (at + p) f)

-- the number of samples that a compressed ping says, and the words that it holds
abbrev pub count_at : Bool → List ℕ → ℕ → ℕ
count_at o f at = num_of o (take 4 (drop (at + 24) f))

abbrev pub held_at : Family → Bool → List ℕ → ℕ → ℕ → List ℕ
held_at y o f at n = held_words y (count_at o f at) (all_words (value_bytes y) o (part_at f at n 28))

-- words that an uncompressed ping of the family can't say: the last is a run, or a sample is numbered past its width
abbrev pub stays : Family → List ℕ → Bool
stays y ws = ends_from (radix_of y) false ws || ltb (256 ^ number_bytes y) (samples_from (radix_of y) 0 ws)

-- of two bytes a word: where the words end, counted from the tuple's first byte
pub record WordsEnd (y : Family) (o : Bool) (f : List ℕ) (at n end : ℕ) : Type 0 where
  pub words : all_words 2 o (take (at + end - (at + 28)) (drop (at + 28) f)) ≡ held_at y o f at n
  pub least : 30 ≤ end
  pub most : end + 8 ≤ n
  pub even : end % 2 ≡ 0

-- encoded words always stay
abbrev pub stays_by : Bool → List ℕ → Bool
stays_by encoded ws = encoded || stays narrow ws
