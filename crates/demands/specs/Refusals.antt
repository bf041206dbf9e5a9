-- Demand 1 in words, of every call that judges a whole file or one tuple: each refusal is given exactly where its rule is the first one
-- broken, and acceptance exactly where none is. Assumes nothing.
use Rattle.std.specs.Prelude.{◌≡◌, ◌↔◌, Bool, true, List, ℕ, ◌≤◌, length}
use Rattle.order.specs.Order.{Bytes}
use Rattle.rules.specs.Rules.{AllPass}
use Rattle.layout.specs.declared.Counts.{Counts}
use Rattle.layout.specs.Answer.{Answer}
use Rattle.layout.specs.Answer.{Accepted, Refused}
use Rattle.layout.specs.Answers.{◌byte◌, accepting}
use Rattle.frame.specs.Frames.{Tup}
use Rattle.frame.specs.Files.{limit, is_msb}
use Rattle.frame.specs.Tuples.{tuples_of}
use Rattle.content.specs.Items.{inner_rules}
use Rattle.intake.specs.Asked.{Asked}
use Rattle.intake.specs.Check.{Checked}
use Rattle.intake.specs.Asking.{AskedFor}
use Rattle.tuples.specs.Readers.{read_answer}
use Rattle.normal.specs.Normaliser.{normal_rules, normal_counts, Normalised}
use Rattle.normal.specs.Single.{single_form, single_rules, NormalisedTuple}
use Rattle.demands.specs.Causes.{Broken, Cause, Keeps}
use Rattle.demands.specs.Lineages.{Among, Listed, place_after}
use Rattle.demands.specs.Offenders.{Offends, of_samples, Sampled, SampledAlone, SampledThere}

-- ---- the normaliser, in either byte order: the check's rules; then, of a file that keeps these, 18, 20 and 19
pub data NormalCause (f : List ℕ) (room : ℕ) : ℕ → ℕ → Type 0 where
  by-check : {c p : ℕ} → Cause f c p → NormalCause f room c p
  by_form : {n : Counts} {c p : ℕ} → Keeps f n → Broken (normal_rules f room) (Refused c p) → NormalCause f room c p

-- no rule is broken, and what is counted then
pub data NormalKeeps (f : List ℕ) (room : ℕ) : Counts → Type 0 where
  by_all : {n : Counts} → Keeps f n → AllPass (normal_rules f room) → NormalKeeps f room (normal_counts f n)

-- ---- asking: the check's rules; then 9 where no listed ping of the file starts at the place
pub record PingAt (f : List ℕ) (p : ℕ) : Type 0 where
  pub ping : Among (tuples_of f)
  pub listed : Listed ping.it
  pub place : place_after (is_msb f) ping.before ≡ p

pub data AskCause (f : List ℕ) (p : ℕ) : ℕ → ℕ → Type 0 where
  by-check : {c q : ℕ} → Cause f c q → AskCause f p c q
  by_place : {n : Counts} → Keeps f n → (PingAt f p → ⊥) → AskCause f p 9 p

-- ---- of every outcome that a call's promise allows
pub record Demand1 : Type 0 where
  -- the check
  pub check : {f : List ℕ} {r : Answer} → Checked f r → {c p : ℕ} → (r ≡ Refused c p) ↔ Cause f c p
  pub check-takes : {f : List ℕ} {r : Answer} → Checked f r → {n : Counts} → (r ≡ Accepted n) ↔ Keeps f n
  -- the normaliser
  pub normal : {f out left : List ℕ} {r : Answer} → Normalised f out r left → {c p : ℕ} → (r ≡ Refused c p) ↔ NormalCause f (length out) c p
  pub normal-takes : {f out left : List ℕ} {r : Answer} → Normalised f out r left → {n : Counts}
      → (r ≡ Accepted n) ↔ NormalKeeps f (length out) n
  -- one tuple's normal form; its rules have no 20, and need none
  pub tuple : {f out left : List ℕ} {r : Answer} → NormalisedTuple f out r left → {c p : ℕ}
      → (r ≡ Refused c p) ↔ Broken (single_rules f (length out)) (Refused c p)
  pub tuple-takes : {f out left : List ℕ} {r : Answer} → NormalisedTuple f out r left → {n : Counts}
      → (r ≡ Accepted n) ↔ (AllPass (single_rules f (length out)) × (accepting 1 (length (single_form f)) ≡ Accepted n))
  pub tuple-small : (f : List ℕ) (room : ℕ) → Bytes f → AllPass (single_rules f room) → length (single_form f) ≤ limit
  -- asking
  pub asking : {f : List ℕ} {p : ℕ} {r : Asked} → Bytes f → AskedFor f p r → {c q : ℕ} → (r ≡ Asked.Refused c q) ↔ AskCause f p c q
  -- ---- of samples: each code exactly where its rule is the first one broken, at the first offender
  -- the rules of a tuple's samples, none of which gives 10
  pub samples : (o : Bool) (t : Tup) {c q : ℕ} → Broken (inner_rules o t) (c byte q) ↔ Offends o t c q
  pub no_ten : {o : Bool} {t : Tup} {q : ℕ} → Offends o t 10 q → ⊥
  -- the check, the normaliser and asking
  pub check-samples : {f : List ℕ} {r : Answer} → Checked f r → {c p : ℕ} → of_samples c ≡ true → (r ≡ Refused c p) ↔ Sampled f c p
  pub normal-samples : {f out left : List ℕ} {r : Answer} → Normalised f out r left → {c p : ℕ} → of_samples c ≡ true
      → (r ≡ Refused c p) ↔ Sampled f c p
  pub ask-samples : {f : List ℕ} (p : ℕ) {r : Asked} → Bytes f → AskedFor f p r → {c q : ℕ} → of_samples c ≡ true
      → (r ≡ Asked.Refused c q) ↔ Sampled f c q
  -- one tuple's normal form, and a reader of any types
  pub tuple-samples : {f out left : List ℕ} {r : Answer} → NormalisedTuple f out r left → {c p : ℕ} → of_samples c ≡ true
      → (r ≡ Refused c p) ↔ SampledAlone f c p
  pub read-samples : (asked : ℕ → Bool) (f : List ℕ) (at : ℕ) {c p : ℕ} → of_samples c ≡ true
      → (read_answer asked f at ≡ Refused c p) ↔ SampledThere asked f at c p
