-- The sums of a file: a row for each kind and for each place where its first can stand, an entry for each block, the sum of all before
-- it. Assumes nothing.
use Rattle.std.specs.Prelude.{◌≡◌, ℕ, ◌+◌, ◌*◌, ◌%◌, ◌<◌, Bool, List, [], ◌∷◌, length, get_or}
use Rattle.weights.specs.declared.Kind.{Kind}
use Rattle.weights.specs.declared.Kind.TheVariants.{C32, C16, CE16, Pairs, Shorts, Triples}
use Rattle.weights.specs.inner.Weights.{step_by, block_by, There, weight_at}

-- ---- nine rows: what is weighed in each, and where its first stands
abbrev pub rows : ℕ
rows = 9

abbrev pub kind_at : ℕ → Kind
kind_at g = get_or (C32 ∷ C16 ∷ CE16 ∷ Pairs ∷ Pairs ∷ Shorts ∷ Triples ∷ Triples ∷ Triples ∷ []) g Triples

abbrev pub base_at : ℕ → ℕ
base_at g = get_or (0 ∷ 0 ∷ 0 ∷ 0 ∷ 4 ∷ 0 ∷ 0 ∷ 2 ∷ 4 ∷ []) g 4

-- the row of a kind's things that stand at a place
pub record RowOf (k : Kind) (at g : ℕ) : Type 0 where
  pub there : g < rows
  pub kind : kind_at g ≡ k
  pub base : base_at g ≡ at % step_by k

-- as many entries as a file's most bytes have blocks, and one
abbrev pub entries : ℕ
entries = 1025

abbrev pub place_of : ℕ → ℕ → ℕ
place_of g j = entries * g + j

-- an entry: the weight of the blocks before it, where they are all there
abbrev pub Entry : Bool → List ℕ → List ℕ → ℕ → ℕ → Type 0
Entry o f t g j = let k = kind_at g in There k (base_at g) (block_by k * j) (length f)
    → get_or t (place_of g j) 0 ≡ weight_at k o f (base_at g) (block_by k * j)

-- those of the rows before g
pub record SummedTo (o : Bool) (f t : List ℕ) (g : ℕ) : Type 0 where
  pub long : length t ≡ entries * rows
  pub sums : (i j : ℕ) → i < g → j < entries → Entry o f t i j

abbrev pub Summed : Bool → List ℕ → List ℕ → Type 0
Summed o f t = SummedTo o f t rows
