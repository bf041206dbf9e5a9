-- Readings laid one by one over a window of silence; what handing them over leaves; and a page of them. Assumes nothing.
use Rattle.std.specs.Prelude.{◌≡◌, ℕ, ◌-◌, true, false, not, cond, List, [], ◌∷◌, map, eqb, leb, Float, ℤ, length, set}
use Rattle.rules.specs.Rules.{Rule, ◌⇒◌, first_of}
use Rattle.layout.specs.Answer.{Answer}
use Rattle.layout.specs.Answer.{Accepted, Refused}
use Rattle.layout.specs.declared.Counts.{Counts}
use Rattle.layout.specs.Answers.{left_by}
use Rattle.layout.specs.Types.{shape_of}
use Rattle.pings.specs.inner.Handing.{part_samples}
use Rattle.intake.specs.Check.{writing}
use Rattle.quantities.specs.inner.Codes.{family_of}
use Rattle.sampling.specs.inner.Walking.{Handed}
use Rattle.linked.specs.declared.Spot.{Spot}
use Rattle.linked.specs.inner.Here.{part_at}
use Rattle.readings.specs.declared.Reading.{Reading}
use Rattle.readings.specs.declared.Reading.TheVariants.{Silent, Volts, Sv, Ts}
use Rattle.readings.specs.declared.Shown.{Shown}
use Rattle.readings.specs.Reading.{has_readings, case_in, double_in}
use Rattle.readings.specs.Readings.{readings_from, shorter, shown}

-- a reading at its number; one before the window or behind it changes nothing
unfoldable pub put : {A : Type 0} → ℕ → List A → ℕ → A → List A
put first out i a = elim (leb first i) [ true ↦ set out (i - first) a | false ↦ out ]

-- one after the other, what g makes of each value
unfoldable pub laid : {A : Type 0} → (ℤ → A) → ℕ → List A → List Handed → List A
laid g first out [] = out
laid g first out (x ∷ s) = laid g first (put first out x.0 (g x.1)) s

-- ---- handed over, of a linked ping by its bytes: 30 at the ping where it has none
abbrev pub spot_rules : Spot → List (Rule Answer)
spot_rules x = (not (has_readings x.quantity (family_of x.code)) ⇒ Refused 30 x.at) ∷ []

abbrev pub spot_answer : Spot → Counts → ℕ → Answer
spot_answer x c n = first_of (spot_rules x) (Accepted (writing c n))

abbrev pub spot_window : List ℕ → Spot → ℕ → ℕ → List Reading
spot_window f x first n =
    readings_from x.quantity (family_of x.code) (part_samples (shape_of x.code) x.msb (part_at f x.at x.whole)) first n

pub record HandedOver (f : List ℕ) (x : Spot) (c : Counts) (first : ℕ) (cs : List ℕ) (ds : List Float) (r : Answer) (cs' : List ℕ)
    (ds' : List Float) : Type 0 where
  pub answer : r ≡ spot_answer x c (shorter (length cs) (length ds))
  pub cases : cs'
      ≡ left_by (spot_answer x c (shorter (length cs) (length ds))) (map case_in (spot_window f x first (shorter (length cs) (length ds)))) cs
  pub doubles : ds'
      ≡ left_by (spot_answer x c (shorter (length cs) (length ds))) (map double_in (spot_window f x first (shorter (length cs) (length ds)))) ds

-- ---- a reading by its numbers, and one for each pair of them
abbrev pub reading_in : ℕ → Float → Reading
reading_in c x = cond (eqb c 1) (Volts x) (cond (eqb c 2) (Sv x) (cond (eqb c 3) (Ts x) Silent))

abbrev pub shown_by : ℕ → Float → Shown
shown_by c x = shown (reading_in c x)

unfoldable pub shown_all : List ℕ → List Float → List Shown
shown_all [] ds = []
shown_all (c ∷ cs) [] = []
shown_all (c ∷ cs) (d ∷ ds) = shown_by c d ∷ shown_all cs ds
