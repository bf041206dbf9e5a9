-- What a reader answers at any place of any file, and the tuple that it then reads. Assumes nothing.
use Rattle.std.specs.Prelude.{ℕ, ◌-◌, Bool, true, false, not, ◌&&◌, List, [], ◌∷◌, ◌++◌, eqb, drop}
use Rattle.std.proofs.Math.Option.{Option, some, none}
use Rattle.rules.specs.Rules.{Rule, ◌⇒◌, first_of, saying}
use Rattle.layout.specs.Answer.{Answer}
use Rattle.layout.specs.Answer.{Refused}
use Rattle.layout.specs.Fields.{Field}
use Rattle.layout.specs.Families.{value_count}
use Rattle.layout.specs.Types.{Shape, indexed, row, uncompressed, compressed, unlisted, shape_of}
use Rattle.layout.specs.Answers.{Breach, ◌byte◌, refused_at, accepting}
use Rattle.frame.specs.Step.{Step}
use Rattle.frame.specs.Step.{Tuple, End}
use Rattle.frame.specs.Step
use Rattle.frame.specs.Frames.{Tup, tup_at}
use Rattle.frame.specs.Files.{is_msb}
use Rattle.frame.specs.Steps.{step_forward}
use Rattle.turning.specs.Rows.{Value}
use Rattle.content.specs.Items.{Item, plain, ping, raw, item_of, row_in, head_rules, inner_rules}

-- the tuple at a place
abbrev pub tuple_there : List ℕ → ℕ → Tup
tuple_there f p = tup_at (is_msb f) (drop p f)

-- 9 for a type not asked for, then 9, 8, 11, and 23 or 24, 25
abbrev pub own_rules : (ℕ → Bool) → Bool → Tup → List (Rule Breach)
own_rules asked o t = (not (asked t.kind) ⇒ 9 byte 0) ∷ head_rules o t ++ inner_rules o t

-- a forward step's refusals, 3 at the end; then the tuple's own; acceptance with 1 tuple
abbrev pub read_by : (ℕ → Bool) → List ℕ → ℕ → Step → Answer
read_by asked f p (Tuple at n k w) = first_of (saying (refused_at p) (own_rules asked (is_msb f) (tuple_there f p))) (accepting 1 0)
read_by asked f p End = Refused 3 p
read_by asked f p (Step.Refused c q) = Refused c q

unfoldable pub read_answer : (ℕ → Bool) → List ℕ → ℕ → Answer
read_answer asked f p = read_by asked f p (step_forward f p)

-- what a reader that accepts hands over: the content of the tuple there
abbrev pub read_item : List ℕ → ℕ → Option Item
read_item f p = item_of (is_msb f) (tuple_there f p)

-- of a tuple of a row, the values: these under the fields' names are its record
abbrev pub values_by : Option Item → List Value
values_by none = []
values_by (some (plain k vs)) = vs
values_by (some (ping q)) = []
values_by (some (raw k d)) = []

abbrev pub read_values : List ℕ → ℕ → List Value
read_values f p = values_by (read_item f p)

-- a reader asks for one type; for a listed ping (`is_ping`); for one whose samples have a value each, or two angles
abbrev pub only : ℕ → ℕ → Bool
only k c = eqb c k

abbrev pub holding : ℕ → Shape → Bool
holding n indexed = false
holding n (row fs x) = false
holding n (uncompressed f) = eqb (value_count f) n
holding n (compressed f) = eqb (value_count f) n
holding n unlisted = false

abbrev pub is_valued : ℕ → Bool
is_valued k = holding 1 (shape_of k)

abbrev pub is_angled : ℕ → Bool
is_angled k = holding 2 (shape_of k)

-- ---- records: tuples whose data a row says
-- the row of a type, in a tuple of n bytes, with its characters and its attribute
abbrev pub row_by : Shape → ℕ → List Field
row_by indexed m = []
row_by (row fs x) m = row_in fs x m
row_by (uncompressed f) m = []
row_by (compressed f) m = []
row_by unlisted m = []

abbrev pub row_of : ℕ → ℕ → List Field
row_of k n = row_by (shape_of k) (n - 10)

-- a type of records; a reader of the records of a type asks for that type, and for nothing where it is no record's
abbrev pub is_row : Shape → Bool
is_row indexed = false
is_row (row fs x) = true
is_row (uncompressed f) = false
is_row (compressed f) = false
is_row unlisted = false

abbrev pub is_record : ℕ → Bool
is_record k = is_row (shape_of k)

abbrev pub records_of : ℕ → ℕ → Bool
records_of k c = is_record k && eqb c k
