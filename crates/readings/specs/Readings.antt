-- The readings of a ping, one for each sample number of a window: what the calls answer and hand over. Assumes nothing.
use Rattle.std.specs.Prelude.{◌≡◌, ℕ, zero, suc, ◌+◌, true, false, not, List, [], ◌∷◌, map, eqb, ltb, Float, length, replicate}
use Rattle.std.proofs.Common.{sym, ◌∙◌}
use Rattle.std.proofs.Math.Option.{Option, some, none}
use Rattle.rules.specs.Rules.{Rule, ◌⇒◌, first_of}
use Rattle.order.specs.Order.{signed_of}
use Rattle.layout.specs.Answer.{Answer}
use Rattle.layout.specs.Answer.{Accepted, Refused}
use Rattle.layout.specs.Answers
use Rattle.layout.specs.Answers.{Tells, left_by}
use Rattle.layout.specs.Families.{Family}
use Rattle.samples.specs.Words.{Sample}
use Rattle.samples.specs.Lists.{handed_bytes}
use Rattle.intake.specs.Check.{writing}
use Rattle.quantities.specs.declared.Quantity.{Quantity}
use Rattle.quantities.specs.Quantities.{quantity_of}
use Rattle.linked.specs.Linked.{Linked, Sought, sought, refused, sought_at}
use Rattle.layout.specs.Views.{as_answer}
use Rattle.readings.specs.declared.Page.{Page}
use Rattle.readings.specs.declared.Reading.{Reading}
use Rattle.readings.specs.declared.Reading.TheVariants.{Silent}
use Rattle.readings.specs.declared.Shown.{Shown}
use Rattle.readings.specs.Reading.{reading_of, has_readings, case_in, double_in}

-- ---- of a sample number
-- the value of the sample that has it
unfoldable pub value_at : ℕ → List Sample → Option ℕ
value_at i [] = none
value_at i (x ∷ s) = elim (eqb x.0 i) [ true ↦ some x.1 | false ↦ value_at i s ]

-- numbers that the ping doesn't hold are silent
abbrev pub reading_by : Quantity → Family → Option ℕ → Reading
reading_by x f none = Silent
reading_by x f (some v) = reading_of x f (signed_of (handed_bytes f) v)

abbrev pub reading_at : Quantity → Family → List Sample → ℕ → Reading
reading_at x f s i = reading_by x f (value_at i s)

-- ---- of a window: so many numbers from the first on
unfoldable pub readings_from : Quantity → Family → List Sample → ℕ → ℕ → List Reading
readings_from x f s first zero = []
readings_from x f s first (suc n) = reading_at x f s first ∷ readings_from x f s (first + 1) n

abbrev pub readings_of : Linked → ℕ → ℕ → List Reading
readings_of l first n = readings_from (quantity_of l.channel) l.ping.family l.ping.samples first n

-- as many as both slices have entries
unfoldable pub shorter : ℕ → ℕ → ℕ
shorter a b = elim (ltb a b) [ true ↦ a | false ↦ b ]

-- ---- the refusals of asking for the ping's channel; then 30 at the ping; as the length the number of readings
abbrev pub reading_rules : Linked → List (Rule Answer)
reading_rules l = (not (has_readings (quantity_of l.channel) l.ping.family) ⇒ Refused 30 l.place) ∷ []

abbrev pub answer_sought : ℕ → Sought → Answer
answer_sought n (sought l c) = first_of (reading_rules l) (Accepted (writing c n))
answer_sought n (refused c p) = Refused c p

unfoldable pub readings_answer : List ℕ → ℕ → ℕ → Answer
readings_answer f p n = answer_sought n (sought_at f p)

-- what is handed over then
abbrev pub window_sought : ℕ → ℕ → Sought → List Reading
window_sought first n (sought l c) = readings_of l first n
window_sought first n (refused c p) = []

unfoldable pub window_at : List ℕ → ℕ → ℕ → ℕ → List Reading
window_at f p first n = window_sought first n (sought_at f p)

-- ---- the promise: cases and doubles in two lent slices; and that it settles the answer and both
pub record ReadingsTold (f : List ℕ) (p first : ℕ) (cs : List ℕ) (ds : List Float) (r : Answer) (cs' : List ℕ)
    (ds' : List Float) : Type 0 where
  pub answer : Tells Answers.numbers r (readings_answer f p (shorter (length cs) (length ds)))
  pub cases : cs'
      ≡ left_by (readings_answer f p (shorter (length cs) (length ds)))
      (map case_in (window_at f p first (shorter (length cs) (length ds)))) cs
  pub doubles : ds'
      ≡ left_by (readings_answer f p (shorter (length cs) (length ds)))
      (map double_in (window_at f p first (shorter (length cs) (length ds)))) ds

pub readings-settled : {f : List ℕ} {p first : ℕ} {cs : List ℕ} {ds : List Float} {r s : Answer} {x y : List ℕ} {u v : List Float}
    → ReadingsTold f p first cs ds r x u → ReadingsTold f p first cs ds s y v → (r ≡ s) × (x ≡ y) × (u ≡ v)
readings-settled a b = (a.answer.is ∙ sym b.answer.is, a.cases ∙ sym b.cases, a.doubles ∙ sym b.doubles)

-- ---- a page: 64 readings by value; of a refusal all are silent
abbrev pub page_size : ℕ
page_size = 64

-- a reading as it stands there
abbrev pub shown : Reading → Shown
shown x = record { reading = x }

abbrev pub page_by : Answer → List Reading → List Reading
page_by (Accepted n) rs = rs
page_by (Refused c p) rs = replicate page_size Silent

pub record PageTold (f : List ℕ) (p first : ℕ) (r : Page) : Type 0 where
  pub answer : Tells Answers.numbers (as_answer r.answer) (readings_answer f p page_size)
  pub readings : r.readings ≡ map shown (page_by (readings_answer f p page_size) (window_at f p first page_size))
