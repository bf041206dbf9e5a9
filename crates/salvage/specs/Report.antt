-- What a report says of a file: its ranges cover the bytes behind the mark once each, in file order and of alternating kinds, and
-- each kept range divides into framed tuples that keep their own rules, with no byte over. Assumes nothing.
use Rattle.std.specs.Prelude.{◌≡◌, ℕ, ◌%◌, ◌<◌, Bool, true, not, List, [], ◌∷◌, ◌++◌, length, drop}
use Rattle.layout.specs.Verdict.{Fine}
use Rattle.layout.specs.Answers.{judged}
use Rattle.frame.specs.Frames.{Tup, frames}
use Rattle.frame.specs.Files.{mark, is_msb}
use Rattle.frame.specs.Tuples.{tuples_from, AllFramed}
use Rattle.content.specs.Items.{head_rules, inner_rules}
use Rattle.salvage.specs.declared.Piece.{Piece}
use Rattle.salvage.specs.Pieces.{bytes_in, bytes_kept}
use Rattle.salvage.specs.Salvage.{rows_of}

-- from a place to another: each range starts where the one before it ends, and has a byte
abbrev pub Covers : ℕ → List Piece → ℕ → Type 0
Covers at [] end = at ≡ end
Covers at (p ∷ ps) end = (p.from ≡ at) × (at < p.to) × Covers p.to ps end

-- their bytes, one range behind the other
abbrev pub bytes_over : List ℕ → List Piece → List ℕ
bytes_over f [] = []
bytes_over f (p ∷ ps) = bytes_in f p ++ bytes_over f ps

-- of a kind, of the other, and so on
abbrev pub Alternates : Bool → List Piece → Type 0
Alternates k [] = Unit {0}
Alternates k (p ∷ ps) = (p.kept ≡ k) × Alternates (not k) ps

abbrev pub Alternate : List Piece → Type 0
Alternate [] = Unit {0}
Alternate (p ∷ ps) = Alternates (not p.kept) ps

-- ---- bytes that divide into framed tuples with no byte over, each keeping its own rules: 9, 8, 11, and 23 or 24, 25
abbrev pub AllOwn : Bool → List Tup → Type 0
AllOwn o [] = Unit {0}
AllOwn o (t ∷ ts) = (judged (head_rules o t ++ inner_rules o t) ≡ Fine) × AllOwn o ts

pub record Divides (o : Bool) (bs : List ℕ) : Type 0 where
  pub whole : bs ≡ frames o (tuples_from (length bs) o bs)
  pub framed : AllFramed (tuples_from (length bs) o bs)
  pub own : AllOwn o (tuples_from (length bs) o bs)

-- each kept range does
abbrev pub KeptDivide : Bool → List ℕ → List Piece → Type 0
KeptDivide o f [] = Unit {0}
KeptDivide o f (p ∷ ps) = (p.kept ≡ true → Divides o (bytes_in f p)) × KeptDivide o f ps

-- ---- all of this, of n ranges that a table t lists of a file, with the output w: the mark and the bytes of the kept ones
pub record Reported (f w t : List ℕ) (n : ℕ) : Type 0 where
  pub ranges : List Piece
  pub rows : t ≡ rows_of ranges
  pub count : length ranges ≡ n
  pub covers : Covers 4 ranges (length f)
  pub bytes : bytes_over f ranges ≡ drop 4 f
  pub alternate : Alternate ranges
  pub divide : KeptDivide (is_msb f) f ranges
  pub output : w ≡ mark (is_msb f) ++ bytes_kept f ranges

-- ---- each offset tried is divisible by 4
abbrev pub AllFours : List Piece → Type 0
AllFours [] = Unit {0}
AllFours (p ∷ ps) = (p.from % 4 ≡ 0) × AllFours ps
