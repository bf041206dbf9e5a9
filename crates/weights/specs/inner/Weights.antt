-- What the words and the samples of a file weigh: a ping's own rules can be told from the sum over its part of the file. Assumes nothing.
use Rattle.std.specs.Prelude.{◌≡◌, ℕ, zero, suc, ◌+◌, ◌*◌, ◌≤◌, Bool, not, List, leb, take, drop}
use mir.Val.{bool_byte}
use Rattle.order.specs.Order.{num_of}
use Rattle.layout.specs.Families.{Family, wide, narrow, encoded, narrow_angles, number_bytes, value_bytes, sample_bytes, radix_of, is_bad}
use Rattle.samples.specs.Runs.{is_run}
use Rattle.weights.specs.declared.Kind.{Kind}
use Rattle.weights.specs.declared.Kind.TheVariants.{C32, C16, CE16, Pairs, Shorts, Triples}

-- n things, s bytes apart, the first at the front of bytes
unfoldable pub weighed : (List ℕ → ℕ) → ℕ → ℕ → List ℕ → ℕ
weighed w s zero bs = 0
weighed w s (suc n) bs = w bs + weighed w s n (drop s bs)

-- more than the most values of a ping
abbrev pub heavy : ℕ
heavy = 32765

-- a word: 1 where it is a value; outside the limits it is heavy
unfoldable pub word_weight : Family → ℕ → ℕ
word_weight f w = bool_byte (not (is_run (radix_of f) w)) + heavy * bool_byte (is_bad f w)

unfoldable pub by_words : Family → Bool → List ℕ → ℕ
by_words f o bs = word_weight f (num_of o (take (value_bytes f) bs))

-- a sample: 1 where the number of the next isn't above its own
unfoldable pub by_drops : Family → Bool → List ℕ → ℕ
by_drops f o bs = bool_byte (leb (num_of o (take (number_bytes f) (drop (sample_bytes f) bs))) (num_of o (take (number_bytes f) bs)))

-- of n numbers, which R tells at their places, and one more, how many the next isn't above
unfoldable pub Dropped : (ℕ → ℕ → Type 0) → ℕ → ℕ → Type 0
Dropped R zero r = r ≡ 0
Dropped R (suc n) r = (x : ℕ) × (y : ℕ) × (s : ℕ) × R n x × R (n + 1) y × Dropped R n s × (r ≡ s + bool_byte (leb y x))

-- ---- by what is weighed
abbrev pub weight_by : Kind → Bool → List ℕ → ℕ
weight_by C32 = by_words wide
weight_by C16 = by_words narrow
weight_by CE16 = by_words encoded
weight_by Pairs = by_drops wide
weight_by Shorts = by_drops narrow
weight_by Triples = by_drops narrow_angles

-- how far apart they are, in bytes
abbrev pub step_by : Kind → ℕ
step_by C32 = 4
step_by C16 = 2
step_by CE16 = 2
step_by Pairs = 8
step_by Shorts = 4
step_by Triples = 6

-- how many more have to be there: a sample's next
abbrev pub ahead_by : Kind → ℕ
ahead_by C32 = 0
ahead_by C16 = 0
ahead_by CE16 = 0
ahead_by Pairs = 1
ahead_by Shorts = 1
ahead_by Triples = 1

-- how many are a block
abbrev pub block_by : Kind → ℕ
block_by C32 = 4096
block_by C16 = 8192
block_by CE16 = 8192
block_by Pairs = 2048
block_by Shorts = 4096
block_by Triples = 2730

-- a block's bytes, and how far beyond it is looked
abbrev pub span_by : Kind → ℕ
span_by C32 = 16384
span_by C16 = 16384
span_by CE16 = 16384
span_by Pairs = 16384
span_by Shorts = 16384
span_by Triples = 16380

abbrev pub beyond_by : Kind → ℕ
beyond_by C32 = 0
beyond_by C16 = 0
beyond_by CE16 = 0
beyond_by Pairs = 8
beyond_by Shorts = 4
beyond_by Triples = 6

-- n of them are there, from a place on
abbrev pub There : Kind → ℕ → ℕ → ℕ → Type 0
There k from n size = from + step_by k * (n + ahead_by k) ≤ size

-- the weight of n of them from a place on
abbrev pub weight_at : Kind → Bool → List ℕ → ℕ → ℕ → ℕ
weight_at k o f from n = weighed (weight_by k o) (step_by k) n (drop from f)
