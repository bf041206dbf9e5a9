-- A flag for each of 65,536 types, eight a byte: the types that are flagged, and a type flagged. Assumes nothing.
use Rattle.std.specs.Prelude.{◌≡◌, ℕ, ◌+◌, ◌-◌, ◌/◌, ◌%◌, ◌^◌, ◌≤◌, ◌<◌, Bool, false, cond, List, [], ◌∷◌, ◌++◌, eqb, length, get_or, set}
use Rattle.order.specs.Order.{bytes_of}
use Rattle.layout.specs.Types
use Rattle.layout.specs.Types.{in_class}
use Rattle.frame.specs.Frames.{Tup}
use Rattle.frame.specs.inner.Framing.{open_bytes}
use Rattle.index.specs.Index.{chosen}

pub record Flags (fs : List ℕ) : Type 0 where
  pub long : length fs ≡ 8192
  pub bytes : (i : ℕ) → get_or fs i 0 < 256

-- bit j of a byte, and the byte with it
abbrev pub bit_of : ℕ → ℕ → Bool
bit_of b j = eqb (b / 2 ^ j % 2) 1

abbrev pub with_bit : ℕ → ℕ → ℕ
with_bit b j = cond (bit_of b j) b (b + 2 ^ j)

-- a type is flagged
unfoldable pub flagged : List ℕ → ℕ → Bool
flagged fs k = bit_of (get_or fs (k / 8) 0) (k % 8)

-- it is flagged now
unfoldable pub flag : List ℕ → ℕ → List ℕ
flag fs k = set fs (k / 8) (with_bit (get_or fs (k / 8) 0) (k % 8))

-- unless it is of the index class
abbrev pub flag_outside : List ℕ → ℕ → List ℕ
flag_outside fs k = cond (in_class Types.index k) fs (flag fs k)

-- the types of tuples, one tuple after another
unfoldable pub flag_all : List ℕ → List Tup → List ℕ
flag_all fs [] = fs
flag_all fs (t ∷ ts) = flag_all (flag_outside fs t.kind) ts

-- those flagged, ascending
unfoldable pub flagged_types : List ℕ → List ℕ
flagged_types fs = chosen (flagged fs) 65536 0

-- those from a type on
abbrev pub flagged_from : List ℕ → ℕ → List ℕ
flagged_from fs k = chosen (flagged fs) (65536 - k) k

-- no type from one on and before another is flagged
pub record Blank (fs : List ℕ) (from k : ℕ) : Type 0 where
  pub on : from ≤ k
  pub few : k ≤ 65536
  pub none : (j : ℕ) → from ≤ j → j < k → flagged fs j ≡ false

-- ---- the writing
-- what stands before the types of an index of n bytes: data size, type, time fraction 0, time 0
unfoldable pub opening_of : Bool → ℕ → List ℕ
opening_of o n = open_bytes o n 65406 ++ (bytes_of o 2 0 ++ bytes_of o 4 0)
