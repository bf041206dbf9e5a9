-- Private tuples disturb nobody: what stays of the answers of a file where they are put in, or taken out. Assumes nothing.
use Rattle.std.specs.Prelude.{◌≡◌, ◌⊎◌, ℕ, ◌+◌, ◌≤◌, ◌<◌, Bool, true, ◌||◌, List, [], ◌∷◌, ◌++◌, map, length, take, drop}
use Rattle.order.specs.Order.{Bytes}
use Rattle.layout.specs.declared.Counts.{Counts}
use Rattle.layout.specs.Answer.{Accepted, Refused}
use Rattle.layout.specs.declared.SoftwareChannel.{SoftwareChannel}
use Rattle.frame.specs.Frames.{Tup, length_of, frames}
use Rattle.frame.specs.Files.{limit, mark, is_msb}
use Rattle.frame.specs.Tuples.{tuples_of, AllFramed}
use Rattle.frame.specs.Step.{Tuple}
use Rattle.frame.specs.Steps.{step_forward, step_backward}
use Rattle.intake.specs.Check.{check_file}
use Rattle.intake.specs.Asking.{ask_at}
use Rattle.tuples.specs.Readers.{read_answer, read_item}
use Rattle.pings.specs.Fields.{ping_fields}
use Rattle.pings.specs.Readers.{sample_answer, angle_answer}
use Rattle.rows.specs.Readers.{row_answer}
use Rattle.linked.specs.Linked.{linked_of}
use Rattle.energy.specs.Energy.{energy_at, places_of, energies_of, codes_of, energies_answer}
use Rattle.readings.specs.Readings.{readings_answer, window_at}
use Rattle.settings.specs.Settings.{settings_of, settings_answer}
use Rattle.corrections.specs.Corrections.{found_of, part_of}
use Rattle.salvage.specs.Outcome.{Outcome}
use Rattle.salvage.specs.Salvage.{Salvaged}
use Rattle.salvage.specs.Whole.{saved_all}
use Rattle.normal.specs.Contents.{content_of, normal_tuples}
use Rattle.normal.specs.Normaliser.{first_unlisted, normal_answer}
use Rattle.partners.specs.Private.{Part, own_of, all_of, put_in, AllPrivate, between, parts_of, Mixed, moved, PlacedAt}
use Rattle.partners.specs.Answers.{answer_moved, asked_moved, linked_moved, echo_moved, row_moved, found_moved, extra, Both}
use Rattle.partners.specs.Forms.{form_parts, first_put, NoneUnlisted}
use Rattle.partners.specs.Types.{has_type, is_listed}

-- ---- a tuple t of f, which stands there at p, in g
pub record There {f g : List ℕ} (m : Mixed f g) (p : ℕ) (t : Tup) : Type 0 where
  -- it stands at the new place, and the steps both ways find it
  pub stands : PlacedAt 4 (tuples_of g) (moved m p) t
  pub forward : step_forward g (moved m p) ≡ Tuple (moved m p) (length_of t) t.kind (record { at = moved m p + length_of t })
  pub backward : step_backward g (moved m p + length_of t) ≡ Tuple (moved m p) (length_of t) t.kind (record { at = moved m p })
  -- with the same bytes
  pub bytes : take (length_of t) (drop (moved m p) g) ≡ take (length_of t) (drop p f)
  -- a reader answers the same, whatever it asks for, and reads the same content, of which fields, samples and angles are made
  pub answer : (asked : ℕ → Bool) → read_answer asked g (moved m p) ≡ answer_moved (moved m) 0 (read_answer asked f p)
  pub content : read_item g (moved m p) ≡ read_item f p
  pub ping : ping_fields g (moved m p) ≡ ping_fields f p
  -- also with slices that are too short
  pub samples : (numbers values : ℕ) → sample_answer g (moved m p) numbers values ≡ answer_moved (moved m) 0 (sample_answer f p numbers values)
  pub angles : (numbers alongship athwartship : ℕ)
      → angle_answer g (moved m p) numbers alongship athwartship
      ≡ answer_moved (moved m) 0 (angle_answer f p numbers alongship athwartship)
  pub records : (k room : ℕ) → row_answer k g (moved m p) room ≡ answer_moved (moved m) 0 (row_answer k f p room)

-- ---- and a tuple t of g that stands at q: one of f's, at its new place
pub record Own {f g : List ℕ} (m : Mixed f g) (q : ℕ) (t : Tup) : Type 0 where
  pub place : ℕ
  pub moves : q ≡ moved m place
  pub stands : PlacedAt 4 (tuples_of f) place t

-- or one of those put in
pub data OneOf (t : Tup) : List Tup → Type 0 where
  first : {ts : List Tup} → OneOf t (t ∷ ts)
  later : {u : Tup} {ts : List Tup} → OneOf t ts → OneOf t (u ∷ ts)

-- ---- what a salvage leaves of g, given room: all of it
pub record KeptWhole (g : List ℕ) (tuples : ℕ) (r : Outcome) (left told : List ℕ) : Type 0 where
  pub outcome : r ≡ saved_all (length g) tuples
  pub output : take (length g) left ≡ g
  pub report : take 3 told ≡ 1 ∷ 4 ∷ length g ∷ []

pub record Partners : Type 1 where
  -- ---- which files are meant: an accepted file with private tuples put in at any boundaries behind its first tuple and before its last,
  pub put-in : (f : List ℕ) {n : Counts} → Bytes f → check_file f ≡ Accepted n → (first : Tup) (ps : List Part) (last : Tup)
      → tuples_of f ≡ own_of (between first ps last) → AllPrivate (put_in ps) → AllFramed (put_in ps)
      → Mixed f (mark (is_msb f) ++ frames (is_msb f) (all_of (between first ps last)))
  -- and an accepted file from which some of its own are taken out
  pub take_out : (g : List ℕ) {n : Counts} → Bytes g → check_file g ≡ Accepted n → (first : Tup) (ps : List Part) (last : Tup)
      → tuples_of g ≡ all_of (between first ps last) → AllPrivate (put_in ps)
      → Mixed (mark (is_msb g) ++ frames (is_msb g) (own_of (between first ps last))) g
  -- with none put in it is the file itself: so every accepted file has a first and a last tuple, and its places stay where they are
  pub unmixed : (f : List ℕ) {n : Counts} → Bytes f → check_file f ≡ Accepted n → (m : Mixed f f) × (put_in m.parts ≡ [])
  pub still : {f g : List ℕ} (m : Mixed f g) → put_in m.parts ≡ [] → (p : ℕ) → moved m p ≡ p
  -- ---- the check: where the one is accepted the other is, within the limit, with that many tuples more and as many identifiers compared
  pub accepted : {f g : List ℕ} (m : Mixed f g) {n : Counts} → check_file f ≡ Accepted n → length g ≤ limit → Both m
  pub taken : {f g : List ℕ} (m : Mixed f g) {n : Counts} → check_file g ≡ Accepted n → Both m
  -- ---- places: they keep their order; 0 stays, and the end is taken to the end
  pub rises : {f g : List ℕ} (m : Mixed f g) (p q : ℕ) → p < q → moved m p < moved m q
  pub none : {f g : List ℕ} (m : Mixed f g) → moved m 0 ≡ 0
  pub end : {f g : List ℕ} (m : Mixed f g) → moved m (length f) ≡ length g
  -- ---- walks and readers: each tuple of f at its new place in g, and no others but those put in
  pub there : {f g : List ℕ} (m : Mixed f g) → Both m → {p : ℕ} {t : Tup} → PlacedAt 4 (tuples_of f) p t → There m p t
  pub others : {f g : List ℕ} (m : Mixed f g) {q : ℕ} {t : Tup} → PlacedAt 4 (tuples_of g) q t → Own m q t ⊎ OneOf t (put_in m.parts)
  -- ---- asking for a ping's channel and sounder, at every place
  pub asked : {f g : List ℕ} (m : Mixed f g) → Both m → (p : ℕ) → ask_at g (moved m p) ≡ asked_moved (moved m) (extra m) (ask_at f p)
  -- ---- the listed pings and their channels; energies at every place, and of all pings; readings at every place
  pub pings : {f g : List ℕ} (m : Mixed f g) → linked_of g ≡ map (linked_moved (moved m)) (linked_of f)
  pub energy : {f g : List ℕ} (m : Mixed f g) → Both m → (p : ℕ) → energy_at g (moved m p) ≡ echo_moved (moved m) (extra m) (energy_at f p)
  pub places : {f g : List ℕ} (m : Mixed f g) → Both m → places_of g ≡ map (moved m) (places_of f)
  pub energies : {f g : List ℕ} (m : Mixed f g) → Both m → energies_of g ≡ energies_of f
  pub codes : {f g : List ℕ} (m : Mixed f g) → Both m → codes_of g ≡ codes_of f
  pub energies_told : {f g : List ℕ} (m : Mixed f g) → Both m → (x y z : ℕ)
      → energies_answer g x y z ≡ answer_moved (moved m) (extra m) (energies_answer f x y z)
  pub readings : {f g : List ℕ} (m : Mixed f g) → Both m → (p first n : ℕ) → window_at g (moved m p) first n ≡ window_at f p first n
  pub readings_told : {f g : List ℕ} (m : Mixed f g) → Both m → (p n : ℕ)
      → readings_answer g (moved m p) n ≡ answer_moved (moved m) (extra m) (readings_answer f p n)
  -- ---- settings
  pub settings : {f g : List ℕ} (m : Mixed f g) → settings_of g ≡ map (row_moved (moved m)) (settings_of f)
  pub settings_told : {f g : List ℕ} (m : Mixed f g) → Both m → (x y z : ℕ)
      → settings_answer g x y z ≡ answer_moved (moved m) (extra m) (settings_answer f x y z)
  -- ---- corrections, with private tuples in the deposit, in the corrections or in both: `unmixed` is a file without them
  pub found : {d d' k k' : List ℕ} (m : Mixed d d') (l : Mixed k k') → Both m → Both l → (c : SoftwareChannel) (n : ℕ)
      → found_of d' k' c n ≡ found_moved (moved m) (moved l) (found_of d k c n)
  pub part : {d d' k k' : List ℕ} (m : Mixed d d') (l : Mixed k k') → Both m → Both l → (c : SoftwareChannel) (n : ℕ)
      → part_of d' k' (found_of d' k' c n) ≡ part_of d k (found_of d k c n)
  -- ---- salvage keeps them
  pub salvaged : {f g : List ℕ} (m : Mixed f g) (b : Both m) {out table left told : List ℕ} {r : Outcome}
      → Salvaged g out table r left told → length g ≤ length out → 3 ≤ length table
      → KeptWhole g (b.counts.tuples + extra m) r left told
  -- ---- an index lists their types besides those that it lists without them
  pub listed : {f g : List ℕ} (m : Mixed f g) (k : ℕ) → k < 65536
      → is_listed k (tuples_of g) ≡ is_listed k (tuples_of f) || has_type k (put_in m.parts)
  -- ---- a normal form, its index apart, has them as they are and where they stand,
  pub form : {f g : List ℕ} (m : Mixed f g) → normal_tuples (content_of f) ≡ own_of (form_parts m.msb (parts_of m))
  pub form_with : {f g : List ℕ} (m : Mixed f g)
      → normal_tuples (content_of g) ≡ all_of (form_parts m.msb (parts_of m))
  pub form_put : {f g : List ℕ} (m : Mixed f g) → put_in (form_parts m.msb (parts_of m)) ≡ put_in m.parts
  -- and there is none of a file in MSB order: the normaliser says 18 at its first unlisted tuple,
  pub refused : {f g : List ℕ} (m : Mixed f g) → Both m → is_msb f ≡ true → (put_in m.parts ≡ [] → ⊥) → (room : ℕ)
      → normal_answer g room ≡ Refused 18 (first_unlisted 4 (tuples_of g))
  -- which is the first that is put in, where all others are listed
  pub first_one : {f g : List ℕ} (m : Mixed f g) → NoneUnlisted (tuples_of f)
      → first_unlisted 4 (tuples_of g) ≡ first_put 4 (parts_of m)
