-- The echo energy of a ping, and of all pings of a file: what the calls answer and hand over. Assumes nothing.
use Rattle.std.specs.Prelude.{◌≡◌, ℕ, Bool, true, false, not, ◌||◌, List, [], ◌∷◌, map, ltb, ℤ, length}
use Rattle.std.proofs.Common.{sym, ◌∙◌}
use Rattle.rules.specs.Rules.{Rule, ◌⇒◌, first_of}
use Rattle.layout.specs.declared.Counts.{Counts}
use Rattle.layout.specs.Answer.{Answer}
use Rattle.layout.specs.Answer.{Accepted}
use Rattle.layout.specs.Answers
use Rattle.layout.specs.Answers.{Numbers, acceptance, refusal, Tells, left_by}
use Rattle.layout.specs.Families.{Family}
use Rattle.samples.specs.Words.{Sample}
use Rattle.samples.specs.Lists.{handed_bytes, values_of}
use Rattle.intake.specs.Check.{writing, check_file}
use Rattle.quantities.specs.declared.Quantity.{Quantity}
use Rattle.quantities.specs.declared.Quantity.TheVariants.{Volts, Sv, Ts, Other}
use Rattle.quantities.specs.Quantities.{quantity_of, has_angles}
use Rattle.linked.specs.Linked.{Linked, linked_of, Sought, sought, refused, sought_at}
use Rattle.energy.specs.Echo.{Echo}
use Rattle.energy.specs.Echo.{Sum, Refused}
use Rattle.linear.specs.Linear.{first_outside, total}

-- ---- of one ping
abbrev pub is_sv : Quantity → Bool
is_sv Volts = false
is_sv Sv = true
is_sv Ts = false
is_sv Other = false

-- its values as they are handed over: with their sign, CE-16's as counts
abbrev pub values_in : Family → List Sample → List ℤ
values_in f s = values_of (handed_bytes f) s

-- 28 at the ping for one with angles or of a channel that isn't Sv; then 29 for a value outside -150 to 0 dB, at its place in the list
abbrev pub echo_rules : ℕ → Quantity → Family → List ℤ → List (Rule Echo)
echo_rules p x f vs =
    (has_angles f || not (is_sv x) ⇒ Refused 28 p)
    ∷ (ltb (first_outside f vs) (length vs) ⇒ Refused 29 (first_outside f vs))
    ∷ []

-- of a ping at p, of a family and with these samples, whose channel's samples are x, in a file that counts n
unfoldable pub echo_by : ℕ → Quantity → Family → List Sample → Counts → Echo
echo_by p x f s n = first_of (echo_rules p x f (values_in f s)) (Sum (total f (values_in f s)) n)

abbrev pub echo_of : Linked → Counts → Echo
echo_of l n = echo_by l.place (quantity_of l.channel) l.ping.family l.ping.samples n

-- the refusals of asking for its channel first
abbrev pub echo_sought : Sought → Echo
echo_sought (sought l n) = echo_of l n
echo_sought (refused c p) = Refused c p

unfoldable pub energy_at : List ℕ → ℕ → Echo
energy_at f p = echo_sought (sought_at f p)

-- ---- in numbers: those of the file's acceptance; and the energy
abbrev pub energy_numbers : Echo → Numbers
energy_numbers (Sum e n) = acceptance n
energy_numbers (Refused c p) = refusal c p

abbrev pub energy_fields : Echo → List ℕ
energy_fields (Sum e n) = e ∷ []
energy_fields (Refused c p) = []

-- ---- the promise, and that it settles the answer
abbrev pub EnergyTold : List ℕ → ℕ → Echo → Type 0
EnergyTold f p r = Tells energy_numbers r (energy_at f p)

pub energy-settled : (f : List ℕ) (p : ℕ) {r t : Echo} → EnergyTold f p r → EnergyTold f p t → r ≡ t
energy-settled f p a b = a.is ∙ sym b.is

-- ---- of all listed pings of a file, in file order: their places; what asking for each alone says, its energy and code 0, or 0 and its
-- code
abbrev pub sum_in : Echo → ℕ
sum_in (Sum e n) = e
sum_in (Refused c p) = 0

abbrev pub code_in : Echo → ℕ
code_in r = (energy_numbers r).code

unfoldable pub places_of : List ℕ → List ℕ
places_of f = map (λ (l : Linked). l.place) (linked_of f)

unfoldable pub energies_of : List ℕ → List ℕ
energies_of f = map (λ (p : ℕ). sum_in (energy_at f p)) (places_of f)

unfoldable pub codes_of : List ℕ → List ℕ
codes_of f = map (λ (p : ℕ). code_in (energy_at f p)) (places_of f)

-- the check's refusals, then 19 at 0 where one of the slices is too short; as the length the number of pings
abbrev pub room_rules : ℕ → ℕ → ℕ → ℕ → List (Rule Answer)
room_rules n places energies codes = (ltb places n || (ltb energies n || ltb codes n) ⇒ Answer.Refused 19 0) ∷ []

abbrev pub behind_check : List ℕ → ℕ → ℕ → ℕ → Answer → Answer
behind_check f places energies codes (Accepted n) =
    let pings = length (linked_of f) in
    first_of (room_rules pings places energies codes) (Accepted (writing n pings))
behind_check f places energies codes (Answer.Refused c p) = Answer.Refused c p

unfoldable pub energies_answer : List ℕ → ℕ → ℕ → ℕ → Answer
energies_answer f places energies codes = behind_check f places energies codes (check_file f)

-- ---- the promise, and that it settles the answer and all three slices
pub record EnergiesTold (f ps es cs : List ℕ) (r : Answer) (ps' es' cs' : List ℕ) : Type 0 where
  pub answer : Tells Answers.numbers r (energies_answer f (length ps) (length es) (length cs))
  pub places : ps' ≡ left_by (energies_answer f (length ps) (length es) (length cs)) (places_of f) ps
  pub energies : es' ≡ left_by (energies_answer f (length ps) (length es) (length cs)) (energies_of f) es
  pub codes : cs' ≡ left_by (energies_answer f (length ps) (length es) (length cs)) (codes_of f) cs

pub energies-settled : {f ps es cs : List ℕ} {r s : Answer} {p e c p' e' c' : List ℕ} → EnergiesTold f ps es cs r p e c
    → EnergiesTold f ps es cs s p' e' c' → (r ≡ s) × (p ≡ p') × (e ≡ e') × (c ≡ c')
energies-settled x y = (
  x.answer.is ∙ sym y.answer.is,
  x.places ∙ sym y.places,
  x.energies ∙ sym y.energies,
  x.codes ∙ sym y.codes,
)
