-- What the rows say: each is a listed ping's, in file order, with the last threshold and the last attitude of its channel before it; and
-- where two accepted files begin with the same tuples, the pings among these have the same rows, whichever tuples follow. Assumes nothing.
use Rattle.std.specs.Prelude.{◌≡◌, ◌⊎◌, ℕ, ◌+◌, ◌≤◌, Bool, true, false, cond, List, [], ◌∷◌, ◌++◌, length, take}
use Rattle.layout.specs.declared.Counts.{Counts}
use Rattle.layout.specs.Answer.{Accepted}
use Rattle.layout.specs.declared.SoftwareChannel.{SoftwareChannel}
use Rattle.layout.specs.Types.{is_ping}
use Rattle.frame.specs.Frames.{Tup, length_of}
use Rattle.frame.specs.Files.{is_msb}
use Rattle.frame.specs.Tuples.{tuples_of}
use Rattle.content.specs.Items.{item_of}
use Rattle.settings.specs.declared.Role.{Role}
use Rattle.settings.specs.declared.Role.TheVariants.{Ping}
use Rattle.settings.specs.Settings.{Said, said, says_of_file, sets_threshold, sets_attitude, Row, settings_of, SettingsTold}

-- ---- the last that is such
abbrev pub NoneSuch : (Role → Bool) → List Said → Type 0
NoneSuch such [] = Unit {0}
NoneSuch such (s ∷ ss) = (such s.role ≡ false) × NoneSuch such ss

-- it stands among tuples, and none behind it is such
pub record LastOf (such : Role → Bool) (ss : List Said) (at : ℕ) : Type 0 where
  pub before : List Said
  pub it : Said
  pub behind : List Said
  pub among : ss ≡ before ++ (it ∷ behind)
  pub fits : such it.role ≡ true
  pub place : it.place ≡ at
  pub last : NoneSuch such behind

-- or there is none, and the place is 0
abbrev pub Last : (Role → Bool) → List Said → ℕ → Type 0
Last such ss at = LastOf such ss at ⊎ (NoneSuch such ss × (at ≡ 0))

-- ---- a row of a file: of a listed ping that stands there, with the last threshold and attitude of its channel before it
pub record Governed (ss : List Said) (r : Row) : Type 0 where
  pub before : List Said
  pub channel : SoftwareChannel
  pub behind : List Said
  pub there : ss ≡ before ++ (said r.ping (Ping channel) ∷ behind)
  pub threshold : Last (sets_threshold channel) before r.threshold
  pub attitude : Last (sets_attitude channel) before r.attitude

abbrev pub AllGoverned : List Said → List Row → Type 0
AllGoverned ss [] = Unit {0}
AllGoverned ss (r ∷ rs) = Governed ss r × AllGoverned ss rs

-- the listed pings among tuples
unfoldable pub pings_among : List Tup → ℕ
pings_among [] = 0
pings_among (t ∷ ts) = cond (is_ping t.kind) 1 0 + pings_among ts

-- ---- files that begin alike
-- tuples of the same lengths and contents, one by one, in files of one order or of both
abbrev pub Alike : Bool → List Tup → Bool → List Tup → Type 0
Alike o [] p [] = Unit {0}
Alike o [] p (u ∷ us) = ⊥
Alike o (t ∷ ts) p [] = ⊥
Alike o (t ∷ ts) p (u ∷ us) = (length_of t ≡ length_of u) × (item_of o t ≡ item_of p u) × Alike o ts p us

-- two files begin with tuples that are alike
pub record Begin (f g : List ℕ) (ts us : List Tup) : Type 0 where
  pub fs : List Tup
  pub gs : List Tup
  pub first : tuples_of f ≡ ts ++ fs
  pub second : tuples_of g ≡ us ++ gs
  pub alike : Alike (is_msb f) ts (is_msb g) us

-- n entries of two slices are the same
abbrev pub SameFirst : ℕ → List ℕ → List ℕ → Type 0
SameFirst n xs ys = take n xs ≡ take n ys

-- ---- an accepted call, and what it left of its three slices
pub record Call (f : List ℕ) : Type 0 where
  pub pings : List ℕ
  pub thresholds : List ℕ
  pub attitudes : List ℕ
  pub counts : Counts
  pub pings_left : List ℕ
  pub thresholds_left : List ℕ
  pub attitudes_left : List ℕ
  pub told : SettingsTold f pings thresholds attitudes (Accepted counts) pings_left thresholds_left attitudes_left

-- n pings have the same rows in two calls, each of which told so many
pub record SamePings {f g : List ℕ} (n : ℕ) (x : Call f) (y : Call g) : Type 0 where
  pub first : n ≤ x.counts.written
  pub second : n ≤ y.counts.written
  pub pings : SameFirst n x.pings_left y.pings_left
  pub thresholds : SameFirst n x.thresholds_left y.thresholds_left
  pub attitudes : SameFirst n x.attitudes_left y.attitudes_left

pub record Settings : Type 1 where
  -- a row for each listed ping, and as many are told
  pub rows : (f : List ℕ) → length (settings_of f) ≡ pings_among (tuples_of f)
  pub told : {f : List ℕ} (x : Call f) → x.counts.written ≡ pings_among (tuples_of f)
  -- each row is governed as it says
  pub governed : (f : List ℕ) → AllGoverned (says_of_file f) (settings_of f)
  -- the same tuples in files of one order are alike
  pub same : (o : Bool) (ts : List Tup) → Alike o ts o ts
  -- calls that take two files that begin alike: the pings among the tuples there have the same rows
  pub prefix : {f g : List ℕ} {ts us : List Tup} → Begin f g ts us → (x : Call f) (y : Call g) → SamePings (pings_among ts) x y
