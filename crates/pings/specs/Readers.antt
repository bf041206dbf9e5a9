-- What the readers of samples and of angles answer, and what they leave in their slices. Assumes nothing.
use Rattle.std.specs.Prelude.{◌≡◌, ℕ, ◌||◌, List, [], ◌∷◌, ltb, ℤ, length}
use Rattle.std.proofs.Common.{sym, ◌∙◌}
use Rattle.std.proofs.Math.Option.{Option, some, none}
use Rattle.rules.specs.Rules.{◌⇒◌, first_of}
use Rattle.layout.specs.Answer.{Answer}
use Rattle.layout.specs.Answer.{Accepted, Refused}
use Rattle.layout.specs.Answers.{Tells, left_by, accepting}
use Rattle.layout.specs.Answers
use Rattle.layout.specs.Families.{Family, wide}
use Rattle.samples.specs.Words.{Sample}
use Rattle.samples.specs.Lists.{handed_bytes, numbers_of, values_of, alongship_of, athwartship_of}
use Rattle.content.specs.Items.{Item, plain, ping, raw}
use Rattle.tuples.specs.Readers.{is_valued, is_angled, read_answer, read_item}

-- ---- samples, and the family that they are of
abbrev pub samples_by : Option Item → List Sample
samples_by none = []
samples_by (some (plain k vs)) = []
samples_by (some (ping q)) = q.samples
samples_by (some (raw k d)) = []

abbrev pub samples_at : List ℕ → ℕ → List Sample
samples_at f p = samples_by (read_item f p)

abbrev pub family_by : Option Item → Family
family_by none = wide
family_by (some (plain k vs)) = wide
family_by (some (ping q)) = q.family
family_by (some (raw k d)) = wide

-- their values as they are handed over: of 16 bits extended, CE-16's the counts
abbrev pub values_at : List ℕ → ℕ → List ℤ
values_at f p = values_of (handed_bytes (family_by (read_item f p))) (samples_at f p)

-- n samples are handed over: 19 where a slice is short, of two for values and of three for angles
abbrev pub hand_answer : ℕ → ℕ → ℕ → Answer
hand_answer n numbers values = first_of ((ltb numbers n || ltb values n ⇒ Refused 19 0) ∷ []) (accepting 1 n)

abbrev pub hand_angles : ℕ → ℕ → ℕ → ℕ → Answer
hand_angles n numbers alongship athwartship =
    first_of ((ltb numbers n || (ltb alongship n || ltb athwartship n) ⇒ Refused 19 0) ∷ []) (accepting 1 n)

-- the ping's own refusals, then these
abbrev pub behind_read : Answer → Answer → Answer
behind_read a (Accepted k) = a
behind_read a (Refused c p) = Refused c p

-- ---- the reader of samples asks for a ping with values, the reader of angles for one with angles
unfoldable pub sample_answer : List ℕ → ℕ → ℕ → ℕ → Answer
sample_answer f p numbers values = behind_read (hand_answer (length (samples_at f p)) numbers values) (read_answer is_valued f p)

unfoldable pub angle_answer : List ℕ → ℕ → ℕ → ℕ → ℕ → Answer
angle_answer f p numbers alongship athwartship =
    behind_read (hand_angles (length (samples_at f p)) numbers alongship athwartship) (read_answer is_angled f p)

-- ---- the promises, and that they settle answer and memory
pub record SamplesRead (f : List ℕ) (p : ℕ) (numbers : List ℕ) (values : List ℤ) (r : Answer) (ns : List ℕ) (vs : List ℤ) : Type 0 where
  pub answer : Tells Answers.numbers r (sample_answer f p (length numbers) (length values))
  pub numbers_left : ns ≡ left_by (sample_answer f p (length numbers) (length values)) (numbers_of (samples_at f p)) numbers
  pub values_left : vs ≡ left_by (sample_answer f p (length numbers) (length values)) (values_at f p) values

pub samples-settled : {f : List ℕ} {p : ℕ} {numbers : List ℕ} {values : List ℤ} {r s : Answer} {ns ms : List ℕ} {vs us : List ℤ}
    → SamplesRead f p numbers values r ns vs → SamplesRead f p numbers values s ms us → (r ≡ s) × (ns ≡ ms) × (vs ≡ us)
samples-settled a b = (a.answer.is ∙ sym b.answer.is, a.numbers_left ∙ sym b.numbers_left, a.values_left ∙ sym b.values_left)

pub record AnglesRead (f : List ℕ) (p : ℕ) (numbers : List ℕ) (alongship athwartship : List ℤ) (r : Answer) (ns : List ℕ)
    (xs ys : List ℤ) : Type 0 where
  pub answer : Tells Answers.numbers r (angle_answer f p (length numbers) (length alongship) (length athwartship))
  pub numbers_left : ns
      ≡ left_by (angle_answer f p (length numbers) (length alongship) (length athwartship)) (numbers_of (samples_at f p)) numbers
  pub alongship_left : xs
      ≡ left_by (angle_answer f p (length numbers) (length alongship) (length athwartship)) (alongship_of (samples_at f p)) alongship
  pub athwartship_left : ys
      ≡ left_by (angle_answer f p (length numbers) (length alongship) (length athwartship)) (athwartship_of (samples_at f p)) athwartship

pub angles-settled : {f : List ℕ} {p : ℕ} {numbers : List ℕ} {alongship athwartship : List ℤ} {r s : Answer} {ns ms : List ℕ}
    {xs ys us ws : List ℤ} → AnglesRead f p numbers alongship athwartship r ns xs ys
    → AnglesRead f p numbers alongship athwartship s ms us ws → (r ≡ s) × (ns ≡ ms) × (xs ≡ us) × (ys ≡ ws)
angles-settled a b = (
  a.answer.is ∙ sym b.answer.is,
  a.numbers_left ∙ sym b.numbers_left,
  a.alongship_left ∙ sym b.alongship_left,
  a.athwartship_left ∙ sym b.athwartship_left,
)
