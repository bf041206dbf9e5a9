-- A ping's samples one at a time: what is left of them at a place of the bytes that hold them. Assumes nothing.
use Rattle.std.specs.Prelude.{◌≡◌, ℕ, ◌+◌, ◌-◌, ◌*◌, ◌≤◌, Bool, Option, Some, None, List, [], ◌∷◌, map, ℤ, length, take, drop}
use Rattle.order.specs.Order.{signed_of}
use Rattle.layout.specs.Families.{Family, value_bytes, sample_bytes, radix_of}
use Rattle.layout.specs.Types.{Shape, indexed, row, uncompressed, compressed, unlisted, shape_of}
use Rattle.samples.specs.Words.{Sample, all_words, all_samples}
use Rattle.samples.specs.Lists.{handed_bytes}
use Rattle.samples.specs.Runs.{decode_from}
use Rattle.samples.specs.Values.{meant, revalued}
use Rattle.pings.specs.inner.Handing.{part_samples, part_width}
use Rattle.sampling.specs.declared.Span.{Span}
use Rattle.sampling.specs.declared.Stepped.{Stepped}

-- a sample as it is handed over: its number, and its value of w bytes with its sign
abbrev pub Handed : Type 0
Handed = ℕ × ℤ

abbrev pub handed_by : ℕ → List Sample → List Handed
handed_by w s = map (λ (x : Sample). (x.0, signed_of w x.1)) s

-- the bytes of one of them: a sample, or a word
abbrev pub width_of : Shape → ℕ
width_of indexed = 8
width_of (row fs x) = 8
width_of (uncompressed f) = sample_bytes f
width_of (compressed f) = value_bytes f
width_of unlisted = 8

-- the samples that bytes hold; a compressed ping's first word stands at sample n
unfoldable pub left_in : Shape → Bool → ℕ → List ℕ → List Sample
left_in indexed o n r = []
left_in (row fs x) o n r = []
left_in (uncompressed f) o n r = all_samples f o r
left_in (compressed f) o n r = revalued (meant f) (decode_from (radix_of f) n (all_words (value_bytes f) o r))
left_in unlisted o n r = []

-- as they are handed over
abbrev pub handed_left : Shape → Bool → ℕ → List ℕ → List Handed
handed_left q o n r = handed_by (part_width q) (left_in q o n r)

-- ---- where they stand in a ping's part: all that these bytes hold is what the part says
pub record SpanOf (k : ℕ) (o : Bool) (part : List ℕ) (r : Span) : Type 0 where
  pub order : r.from ≤ r.end
  pub within : r.end ≤ length part
  pub holds : left_in (shape_of k) o 0 (take (r.end - r.from) (drop r.from part)) ≡ part_samples (shape_of k) o part

-- ---- one step: a sample, or none for a run of samples below threshold; and what is left behind it
abbrev pub standing : {A : Type 0} → Option A → List A → List A
standing (Some x) left = x ∷ left
standing None left = left

abbrev pub stepped : Stepped → List Handed → List Handed
stepped r left = standing r.sample left

-- past a word at sample n, whichever words stand behind it
abbrev pub words_left : Family → ℕ → List ℕ → List Handed
words_left f n ws = handed_by (handed_bytes f) (revalued (meant f) (decode_from (radix_of f) n ws))

pub record WordPassed (f : Family) (word number : ℕ) (r : Stepped) : Type 0 where
  pub left : (ws : List ℕ) → words_left f number (word ∷ ws) ≡ stepped r (words_left f r.next ws)
  pub near : r.next ≤ number + radix_of f

-- past what stands at a place
pub record SteppedTo (k : ℕ) (o : Bool) (held : List ℕ) (at number : ℕ) (r : Stepped) : Type 0 where
  pub left : handed_left (shape_of k) o number (drop at held)
      ≡ stepped r (handed_left (shape_of k) o r.next (drop (at + width_of (shape_of k)) held))
  pub near : r.next ≤ number + 16384 * width_of (shape_of k)

-- ---- the same of values alone, whatever their numbers
abbrev pub values_handed : List Handed → List ℤ
values_handed s = map (λ (x : Handed). x.1) s

abbrev pub values_left : Shape → Bool → List ℕ → List ℤ
values_left q o r = values_handed (handed_left q o 0 r)

pub record WordValued (f : Family) (word : ℕ) (r : Option ℤ) : Type 0 where
  pub left : (ws : List ℕ) → values_handed (words_left f 0 (word ∷ ws)) ≡ standing r (values_handed (words_left f 0 ws))

pub record ValuedTo (k : ℕ) (o : Bool) (held : List ℕ) (at : ℕ) (r : Option ℤ) : Type 0 where
  pub left : values_left (shape_of k) o (drop at held) ≡ standing r (values_left (shape_of k) o (drop (at + width_of (shape_of k)) held))
