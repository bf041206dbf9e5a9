-- Energies and readings hang on a file's content: those of accepted files of equal content are the same, ping by ping, in one byte order
-- or in both, however their pings are spelled; and so are those of a file and of its normal form. Assumes nothing.
use Rattle.std.specs.Prelude.{◌≡◌, List, map, ℕ}
use Rattle.layout.specs.declared.Counts.{Counts}
use Rattle.layout.specs.Answer.{Accepted}
use Rattle.intake.specs.Check.{check_file}
use Rattle.normal.specs.Contents.{content_of}
use Rattle.normal.specs.Demand.{Call}
use Rattle.linked.specs.Linked.{Linked, linked_of}
use Rattle.energy.specs.Energy.{energies_of, codes_of}
use Rattle.readings.specs.declared.Reading.{Reading}
use Rattle.readings.specs.Readings.{readings_of}

-- a window of each listed ping's readings, in file order
abbrev pub windows_of : List ℕ → ℕ → ℕ → List (List Reading)
windows_of f first n = map (λ (l : Linked). readings_of l first n) (linked_of f)

-- the same energies and the same codes, ping by ping
pub record SameEnergies (f g : List ℕ) : Type 0 where
  pub energies : energies_of f ≡ energies_of g
  pub codes : codes_of f ≡ codes_of g

pub record Echoes : Type 0 where
  -- of accepted files of equal content
  pub energies : (f g : List ℕ) {m n : Counts} → check_file f ≡ Accepted m → check_file g ≡ Accepted n → content_of f ≡ content_of g
      → SameEnergies f g
  pub readings : (f g : List ℕ) → content_of f ≡ content_of g → (first n : ℕ) → windows_of f first n ≡ windows_of g first n
  -- of a file and of its normal form
  pub normal-energies : {f w : List ℕ} → Call f w → SameEnergies w f
  pub normal-readings : {f w : List ℕ} → Call f w → (first n : ℕ) → windows_of w first n ≡ windows_of f first n
