-- Bytes that stand in a file, numbers of the program's types, and values that fill a row: what reading back rests on. Assumes
-- nothing.
use Rattle.std.specs.Prelude.{◌≡◌, ℕ, ◌+◌, ◌^◌, ◌≤◌, ◌<◌, Bool, true, List, ◌++◌, ℤ, length, drop}
use Rattle.std.proofs.Math.Option.{Option}
use Rattle.std.specs.Int.Signed.{mag}
use Rattle.layout.specs.Fields.{Field}
use Rattle.layout.specs.Types.{row, fitting, shape_of, length_from}
use Rattle.frame.specs.Files.{limit, mark, is_msb, marked}
use Rattle.frame.specs.Frames.{allowed}
use Rattle.turning.specs.Rows.{Value, Fit, Lettered}
use Rattle.content.specs.Items.{row_in}

-- a file in the byte order o holds bytes at a place, whatever stands before and behind them
pub record Holds (f : List ℕ) (p : ℕ) (o : Bool) (bytes : List ℕ) : Type 0 where
  pub small : length f ≤ limit
  pub mark : marked f ≡ true
  pub order : is_msb f ≡ o
  pub from : 4 ≤ p
  pub rest : List ℕ
  pub there : drop p f ≡ bytes ++ rest

-- a file made of a mark, other bytes, these, and whatever follows
abbrev pub file_with : Bool → List ℕ → List ℕ → List ℕ → List ℕ
file_with o before bytes rest = mark o ++ (before ++ (bytes ++ rest))

-- a signed number of w bytes: `mag z` is n both for n and for -(n + 1)
abbrev pub InRange : ℕ → ℤ → Type 0
InRange w z = mag z + mag z < 256 ^ w

-- the numbers of the program's types
abbrev pub U16 : ℕ → Type 0
U16 n = n < 256 ^ 2

abbrev pub U32 : ℕ → Type 0
U32 n = n < 256 ^ 4

abbrev pub I32 : ℤ → Type 0
I32 z = InRange 4 z

-- ---- values that fill the row of a type code, in a tuple whose length fits the type
pub record Filled (k : ℕ) (vs : List Value) : Type 0 where
  pub fields : List Field
  pub characters : Option ℕ
  pub size : ℕ
  pub code : k < 65536
  pub shape : shape_of k ≡ row fields characters
  pub fits : fitting (length_from (row fields characters)) (size + 10) ≡ true
  pub whole : allowed (size + 10) ≡ true
  pub fit : Fit (row_in fields characters size) vs
  pub lettered : Lettered vs
