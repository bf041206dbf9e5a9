-- Which settings held at each ping: for each listed ping of a file, in file order, its place, the place of the last threshold before it
-- for its channel, and that of the last attitude before it for its channel or for all; 0 for none. Assumes nothing.
use Rattle.std.specs.Prelude.{◌≡◌, ℕ, ◌+◌, Bool, true, false, cond, ◌||◌, List, [], ◌∷◌, ◌++◌, map, ltb, eqb, length}
use Rattle.std.proofs.Common.{sym, ◌∙◌}
use Rattle.std.proofs.Math.Option.{Option, some, none}
use Rattle.rules.specs.Rules.{Rule, ◌⇒◌, first_of}
use Rattle.layout.specs.Answer.{Answer}
use Rattle.layout.specs.Answer.{Accepted, Refused}
use Rattle.layout.specs.declared.SoftwareChannel.{SoftwareChannel}
use Rattle.layout.specs.Answers
use Rattle.layout.specs.Answers.{Tells, left_by}
use Rattle.layout.specs.Types.{says_of}
use Rattle.frame.specs.Frames.{Tup, length_of}
use Rattle.frame.specs.Files.{is_msb}
use Rattle.frame.specs.Tuples.{tuples_of}
use Rattle.links.specs.Links
use Rattle.links.specs.Links.{Link}
use Rattle.content.specs.Items
use Rattle.content.specs.Items.{Item, item_of, number_at, link_by}
use Rattle.intake.specs.Check.{writing, check_file}
use Rattle.settings.specs.declared.Role.{Role}
use Rattle.settings.specs.declared.Role.TheVariants.{Ping, Threshold, Attitude, ForAll, Declares, Other}

-- ---- a tuple's part in this, by its content
-- of a row of a type, by what it says to the other tuples: a threshold, 10100, or an attitude, 40, of the channel that it names; an
-- attitude that names none is for all channels; a channel's own tuple; any other
abbrev pub role_by : ℕ → Link → Role
role_by k Links.none = cond (eqb k 40) ForAll Other
role_by k (Links.sounder s) = Other
role_by k (Links.channel c) = Declares c
role_by k (Links.names c) = cond (eqb k 10100) (Threshold c) (cond (eqb k 40) (Attitude c) Other)

-- a listed ping is one of the channel in its header
abbrev pub role_item : Option Item → Role
role_item none = Other
role_item (some (Items.plain k vs)) = role_by k (link_by (says_of k) vs)
role_item (some (Items.ping q)) = Ping (record { 0 = number_at q.head 2 })
role_item (some (Items.raw k d)) = Other

unfoldable pub role_of : Bool → Tup → Role
role_of o t = role_item (item_of o t)

-- ---- tuples one behind the other, the first of them at a place: their places and their parts
pub record Said : Type 0 where
  pub place : ℕ
  pub role : Role

abbrev pub said : ℕ → Role → Said
said at r = record { place = at; role = r }

abbrev pub says : Bool → ℕ → List Tup → List Said
says o at [] = []
says o at (t ∷ ts) = said at (role_of o t) ∷ says o (at + length_of t) ts

-- those of a file, behind its mark
unfoldable pub says_of_file : List ℕ → List Said
says_of_file f = says (is_msb f) 4 (tuples_of f)

-- ---- what governs a ping of a channel
-- a threshold of that channel
abbrev pub sets_threshold : SoftwareChannel → Role → Bool
sets_threshold c (Ping d) = false
sets_threshold c (Threshold d) = eqb c.0 d.0
sets_threshold c (Attitude d) = false
sets_threshold c ForAll = false
sets_threshold c (Declares d) = false
sets_threshold c Other = false

-- an attitude of that channel or of all
abbrev pub sets_attitude : SoftwareChannel → Role → Bool
sets_attitude c (Ping d) = false
sets_attitude c (Threshold d) = false
sets_attitude c (Attitude d) = eqb c.0 d.0
sets_attitude c ForAll = true
sets_attitude c (Declares d) = false
sets_attitude c Other = false

-- the place of the last tuple that is such; where none is, a place given
unfoldable pub last_that : (Role → Bool) → ℕ → List Said → ℕ
last_that such at [] = at
last_that such at (s ∷ ss) = last_that such (cond (such s.role) s.place at) ss

-- ---- a ping's place and what governs it, by the tuples before it; 0 for none
pub record Row : Type 0 where
  pub ping : ℕ
  pub threshold : ℕ
  pub attitude : ℕ

abbrev pub row_of : List Said → ℕ → SoftwareChannel → Row
row_of before at c =
    record { ping = at; threshold = last_that (sets_threshold c) 0 before; attitude = last_that (sets_attitude c) 0 before }

-- a listed ping has a row, and no other tuple has one
abbrev pub rows_here : List Said → ℕ → Role → List Row
rows_here before at (Ping c) = row_of before at c ∷ []
rows_here before at (Threshold c) = []
rows_here before at (Attitude c) = []
rows_here before at ForAll = []
rows_here before at (Declares c) = []
rows_here before at Other = []

-- of tuples behind others
unfoldable pub rows_after : List Said → List Said → List Row
rows_after before [] = []
rows_after before (s ∷ ss) = rows_here before s.place s.role ++ rows_after (before ++ (s ∷ [])) ss

-- of a file
unfoldable pub settings_of : List ℕ → List Row
settings_of f = rows_after [] (says_of_file f)

-- ---- the three columns
abbrev pub pings_of : List Row → List ℕ
pings_of rs = map (λ (r : Row). r.ping) rs

abbrev pub thresholds_of : List Row → List ℕ
thresholds_of rs = map (λ (r : Row). r.threshold) rs

abbrev pub attitudes_of : List Row → List ℕ
attitudes_of rs = map (λ (r : Row). r.attitude) rs

-- ---- the answer: the check's refusals, then 19 at 0 where one of the slices is too short for n rows; as the length the number of rows
abbrev pub room_rules : ℕ → ℕ → ℕ → ℕ → List (Rule Answer)
room_rules n pings thresholds attitudes = (ltb pings n || (ltb thresholds n || ltb attitudes n) ⇒ Refused 19 0) ∷ []

abbrev pub behind_check : List ℕ → ℕ → ℕ → ℕ → Answer → Answer
behind_check f pings thresholds attitudes (Accepted n) =
    let rows = length (settings_of f) in
    first_of (room_rules rows pings thresholds attitudes) (Accepted (writing n rows))
behind_check f pings thresholds attitudes (Refused c p) = Refused c p

unfoldable pub settings_answer : List ℕ → ℕ → ℕ → ℕ → Answer
settings_answer f pings thresholds attitudes = behind_check f pings thresholds attitudes (check_file f)

-- ---- the promise, and that it settles the answer and all three slices
pub record SettingsTold (f ps ts bs : List ℕ) (r : Answer) (ps' ts' bs' : List ℕ) : Type 0 where
  pub answer : Tells Answers.numbers r (settings_answer f (length ps) (length ts) (length bs))
  pub pings : ps' ≡ left_by (settings_answer f (length ps) (length ts) (length bs)) (pings_of (settings_of f)) ps
  pub thresholds : ts' ≡ left_by (settings_answer f (length ps) (length ts) (length bs)) (thresholds_of (settings_of f)) ts
  pub attitudes : bs' ≡ left_by (settings_answer f (length ps) (length ts) (length bs)) (attitudes_of (settings_of f)) bs

pub settings-settled : {f ps ts bs : List ℕ} {r s : Answer} {p t a p' t' a' : List ℕ} → SettingsTold f ps ts bs r p t a
    → SettingsTold f ps ts bs s p' t' a' → (r ≡ s) × (p ≡ p') × (t ≡ t') × (a ≡ a')
settings-settled x y = (
  x.answer.is ∙ sym y.answer.is,
  x.pings ∙ sym y.pings,
  x.thresholds ∙ sym y.thresholds,
  x.attitudes ∙ sym y.attitudes,
)
