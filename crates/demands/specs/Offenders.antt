-- Demand 1 in words, of a ping's samples: which number, word or count breaks their rules first, and where it stands. Assumes nothing.
use Rattle.std.specs.Prelude.{◌≡◌, Bool, true, ◌||◌, List, ◌++◌, ℕ, ◌+◌, ◌-◌, ◌*◌, ◌≤◌, ◌<◌, eqb, length, drop, get_or}
use Rattle.rules.specs.Rules.{Rule, AllPass}
use Rattle.layout.specs.Answers.{Breach}
use Rattle.layout.specs.Families.{Family, measures_of, value_bytes, sample_bytes, radix_of}
use Rattle.layout.specs.Types.{uncompressed, compressed, shape_of}
use Rattle.frame.specs.declared.Walk.{Walk}
use Rattle.frame.specs.Step.{Tuple}
use Rattle.frame.specs.Frames.{Tup, tup_at, frame_rules}
use Rattle.frame.specs.Files.{is_msb, file_rules}
use Rattle.frame.specs.Steps.{step_forward}
use Rattle.samples.specs.Words.{Sample}
use Rattle.samples.specs.Runs.{values}
use Rattle.content.specs.Pings.{words_in, count_in, content_u}
use Rattle.content.specs.Items.{head_rules}
use Rattle.intake.specs.Check.{Course, earlier_rules}
use Rattle.tuples.specs.Readers.{tuple_there}
use Rattle.demands.specs.Causes.{tuple_in, Comes}

-- the first place of which P holds
pub record FirstAt (P : ℕ → Type 0) (i : ℕ) : Type 0 where
  pub is : P i
  pub before : (j : ℕ) → j < i → P j → ⊥

-- ---- what breaks a rule
-- an uncompressed ping's number that is not above the one before it
abbrev pub number_in : List Sample → ℕ → ℕ
number_in s i = (get_or s i (0, 0)).0

pub record Falls (s : List Sample) (i : ℕ) : Type 0 where
  pub within : i < length s
  pub behind : 0 < i
  pub falls : number_in s i ≤ number_in s (i - 1)

-- a compressed ping's word outside its family's limits: of C-32 7FFF0000 to 8000FFFF, of C-16 7F00 to 8100, of CE-16 7F00 to 7FFF
pub record Outside (f : Family) (ws : List ℕ) (i : ℕ) : Type 0 where
  pub within : i < length ws
  pub least : (measures_of f).first ≤ get_or ws i 0
  pub most : get_or ws i 0 ≤ (measures_of f).last

-- ---- an uncompressed ping's samples; a compressed one's words, its value words as they are found, and as many as it says there are
abbrev pub samples_of : Family → Bool → Tup → List Sample
samples_of f o t = (content_u f o t.body).samples

abbrev pub words_of : Family → Bool → Tup → List ℕ
words_of f o t = words_in f o t.body

abbrev pub found : Family → Bool → Tup → ℕ
found f o t = values (radix_of f) (words_of f o t)

abbrev pub said : Bool → Tup → ℕ
said o t = count_in o t.body

-- ---- of which kind a tuple is
abbrev pub Uncompressed : Family → Tup → Type 0
Uncompressed f t = shape_of t.kind ≡ uncompressed f

abbrev pub Compressed : Family → Tup → Type 0
Compressed f t = shape_of t.kind ≡ compressed f

-- ---- the codes of samples, each with the byte of the first offender, counted from the tuple's first
pub data Offends (o : Bool) (t : Tup) : ℕ → ℕ → Type 0 where
  -- over 32,764 values, at the tuple: in samples, and in words
  too_many : {f : Family} → Uncompressed f t → 32764 < length (samples_of f o t) → Offends o t 11 0
  too_many-words : {f : Family} → Compressed f t → 32764 < found f o t → Offends o t 11 0
  -- a number that doesn't rise
  not-rising : {f : Family} {i : ℕ} → Uncompressed f t → length (samples_of f o t) ≤ 32764 → FirstAt (Falls (samples_of f o t)) i
      → Offends o t 23 (24 + sample_bytes f * i)
  -- a word outside the limits
  bad-word : {f : Family} {i : ℕ} → Compressed f t → found f o t ≤ 32764 → FirstAt (Outside f (words_of f o t)) i
      → Offends o t 24 (28 + value_bytes f * i)
  -- a number of samples that is wrong, every word being within the limits
  miscounted : {f : Family} → Compressed f t → found f o t ≤ 32764 → ((i : ℕ) → Outside f (words_of f o t) i → ⊥)
      → (said o t ≡ found f o t → ⊥) → Offends o t 25 24

-- the codes that are said of samples alone: these, and 10 before them, which no tuple offends by
abbrev pub of_samples : ℕ → Bool
of_samples c = eqb c 10 || (eqb c 11 || (eqb c 23 || (eqb c 24 || eqb c 25)))

-- ---- where they are given
-- the rules of the tuple where a course stands, before those of its samples
abbrev pub earlier_in : List ℕ → Course → List (Rule Breach)
earlier_in f w = earlier_rules (is_msb f) w (drop w.at f)

-- the check comes to a tuple that keeps these, and that offends
pub record Sampled (f : List ℕ) (c p : ℕ) : Type 0 where
  pub course : Course
  pub comes : Comes f course
  pub earlier : AllPass (earlier_in f course)
  pub offset : ℕ
  pub offends : Offends (is_msb f) (tuple_in f course) c offset
  pub place : course.at + offset ≡ p

-- one tuple behind a mark
pub record SampledAlone (f : List ℕ) (c p : ℕ) : Type 0 where
  pub file : AllPass (file_rules f)
  pub earlier : AllPass (frame_rules (is_msb f) (drop 4 f) ++ head_rules (is_msb f) (tup_at (is_msb f) (drop 4 f)))
  pub offset : ℕ
  pub offends : Offends (is_msb f) (tup_at (is_msb f) (drop 4 f)) c offset
  pub place : 4 + offset ≡ p

-- the tuple that a reader finds at a place, of a type asked for
pub record SampledThere (asked : ℕ → Bool) (f : List ℕ) (at c p : ℕ) : Type 0 where
  pub size : ℕ
  pub code : ℕ
  pub walk : Walk
  pub step : step_forward f at ≡ Tuple at size code walk
  pub asks : asked (tuple_there f at).kind ≡ true
  pub earlier : AllPass (head_rules (is_msb f) (tuple_there f at))
  pub offset : ℕ
  pub offends : Offends (is_msb f) (tuple_there f at) c offset
  pub place : at + offset ≡ p
