-- A result in parts: two that stand before the index and one behind it, each cut out of the file or handed in. Assumes nothing.
use Rattle.std.specs.Prelude.{◌≡◌, ℕ, ◌+◌, ◌≤◌, ◌<◌, Bool, true, false, cond, not, ◌&&◌, List, [], ◌++◌, eqb, length, drop}
use Rattle.layout.specs.declared.Counts.{Counts}
use Rattle.layout.specs.Answer.{Answer}
use Rattle.layout.specs.Answers.{is_fine}
use Rattle.layout.specs.Types
use Rattle.layout.specs.Types.{in_class}
use Rattle.frame.specs.Frames.{Tup, length_of, frame, frames, kind_at, framing}
use Rattle.frame.specs.Files.{limit, mark}
use Rattle.frame.specs.Tuples.{AllFramed}
use Rattle.index.specs.Index.{index_of, outside}
use Rattle.index.specs.inner.Flags.{flag_all}
use Rattle.edits.specs.declared.Size.{Size}
use Rattle.edits.specs.Edits.{tuples_in, rest_in, result_answer, Edited}

-- a tuple stands at the front of bytes; one of the index class, which is dropped
abbrev pub is_tuple : Bool → List ℕ → Bool
is_tuple o r = is_fine (framing o r)

abbrev pub is_dropped : Bool → List ℕ → Bool
is_dropped o r = is_tuple o r && in_class Types.index (kind_at o r)

abbrev pub is_kept : Bool → List ℕ → Bool
is_kept o r = is_tuple o r && not (in_class Types.index (kind_at o r))

-- of a tuple of n bytes and a type: how many are kept
abbrev pub kept_length : ℕ → ℕ → ℕ
kept_length k n = cond (in_class Types.index k) 0 n

-- the tuples kept of a part, and with them what is left where the frame's rules break
abbrev pub kept_tuples : Bool → List ℕ → List ℕ
kept_tuples o r = frames o (outside (tuples_in o r))

unfoldable pub kept_of : Bool → List ℕ → List ℕ
kept_of o r = kept_tuples o r ++ rest_in o r

-- a part with no byte over
abbrev pub Divides : Bool → List ℕ → Type 0
Divides o r = rest_in o r ≡ []

-- the index of three parts
abbrev pub all_of : Bool → List ℕ → List ℕ → List ℕ → List Tup
all_of o a b z = (tuples_in o a ++ tuples_in o b) ++ tuples_in o z

abbrev pub index_in : Bool → List ℕ → List ℕ → List ℕ → Tup
index_in o a b z = index_of o (all_of o a b z)

-- what stands behind the second part: the index and the third, but nothing behind bytes that don't divide
abbrev pub tail_by : Bool → Tup → List ℕ → Bool → List ℕ
tail_by o x z divides = cond divides (frame o x ++ kept_of o z) []

unfoldable pub tail_of : Bool → List ℕ → List ℕ → List ℕ → List ℕ
tail_of o a b z = tail_by o (index_in o a b z) z (eqb (length (rest_in o b)) 0)

-- the result
unfoldable pub result_of : Bool → List ℕ → List ℕ → List ℕ → List ℕ
result_of o a b z = mark o ++ (kept_of o a ++ (kept_of o b ++ tail_of o a b z))

-- ---- what a survey finds of a part: the bytes of the tuples kept, where its tuples end, and their types flagged
pub record Surveyed (o : Bool) (r fs : List ℕ) (kept end : ℕ) (gs : List ℕ) : Type 0 where
  pub bytes : kept ≡ length (kept_tuples o r)
  pub behind : end ≡ length (frames o (tuples_in o r))
  pub few : kept ≤ end
  pub fits : end ≤ length r
  pub flags : gs ≡ flag_all fs (tuples_in o r)

-- ---- three parts of a result: of the first and of the last no byte is over, and none is over the limit
pub record Cut (o : Bool) (a b z : List ℕ) : Type 0 where
  pub first : Divides o a
  pub last : Divides o z
  pub first_small : length a ≤ limit
  pub second_small : length b ≤ limit
  pub last_small : length z ≤ limit

-- how many bytes the result has, and its index
pub record SizeOf (o : Bool) (a b z : List ℕ) (s : Size) : Type 0 where
  pub whole : s.whole ≡ length (result_of o a b z)
  pub index : s.index ≡ length_of (index_in o a b z)

-- what is handed back of a result g, where the file handed in counts n
abbrev pub Rewritten : List ℕ → Counts → List ℕ → Answer → List ℕ → Type 0
Rewritten g n out r left = Edited (result_answer g (length out) n) g out r left

-- ---- a stretch of a part from a place on: tuples that are kept, up to a place q where one of the index class stands or the part ends, and
-- there the stretch ends; or where bytes stand that are no tuple, and they are of the stretch up to the part's end
pub record Stretch (o : Bool) (part : List ℕ) (from end : ℕ) : Type 0 where
  pub tuples : List Tup
  pub until : ℕ
  pub framed : AllFramed tuples
  pub kept : outside tuples ≡ tuples
  pub bytes : drop from part ≡ frames o tuples ++ drop until part
  pub place : until ≡ from + length (frames o tuples)
  pub within : end ≤ length part
  pub far : from < end
  pub broken : Bool
  pub whole : broken ≡ false → end ≡ until
  pub over : broken ≡ true → (is_tuple o (drop until part) ≡ false) × (end ≡ length part) × (until < length part)
