-- Private tuples, which partners may put into a file; and where each place of the file is then. Assumes nothing.
use Rattle.std.specs.Prelude.{◌≡◌, ℕ, ◌+◌, Bool, true, cond, ◌&&◌, List, [], ◌∷◌, ◌++◌, ltb, leb}
use Rattle.frame.specs.Frames.{Tup, length_of, frames}
use Rattle.frame.specs.Files.{mark}
use Rattle.frame.specs.Tuples.{AllFramed}

-- the types that are left to partners
abbrev pub first_private : ℕ
first_private = 65396

abbrev pub last_private : ℕ
last_private = 65405

unfoldable pub is_private : ℕ → Bool
is_private k = leb first_private k && leb k last_private

-- ---- tuples, and private ones between them: each is one of the file's own, or is put in
pub data Part : Type 0 where
  own : Tup → Part
  put : Tup → Part

-- the file's own, and all of them
abbrev pub own_of : List Part → List Tup
own_of [] = []
own_of (own t ∷ ps) = t ∷ own_of ps
own_of (put x ∷ ps) = own_of ps

abbrev pub all_of : List Part → List Tup
all_of [] = []
all_of (own t ∷ ps) = t ∷ all_of ps
all_of (put x ∷ ps) = x ∷ all_of ps

-- those put in
abbrev pub put_in : List Part → List Tup
put_in [] = []
put_in (own t ∷ ps) = put_in ps
put_in (put x ∷ ps) = x ∷ put_in ps

-- they are private
abbrev pub AllPrivate : List Tup → Type 0
AllPrivate [] = Unit {0}
AllPrivate (x ∷ xs) = (is_private x.kind ≡ true) × AllPrivate xs

-- a first and a last tuple of the file, and others between them: of an accepted file the signature and the end of file
abbrev pub between : Tup → List Part → Tup → List Part
between first ps last = own first ∷ (ps ++ (own last ∷ []))

-- ---- two files in one byte order, each a mark and tuples that can be framed: g has those of f, and private ones behind the first and
-- before the last of them, at any places, several at one place too
pub record Mixed (f g : List ℕ) : Type 0 where
  pub msb : Bool
  pub first : Tup
  pub parts : List Part
  pub last : Tup
  pub private : AllPrivate (put_in parts)
  pub framed : AllFramed (all_of (between first parts last))
  pub without : f ≡ mark msb ++ frames msb (own_of (between first parts last))
  pub within : g ≡ mark msb ++ frames msb (all_of (between first parts last))

-- all of their parts
abbrev pub parts_of : {f g : List ℕ} → Mixed f g → List Part
parts_of m = between m.first m.parts m.last

-- ---- places
-- how far a place of f moves: by the lengths of those put in before it or at it; the first of these stands at `at` in f
unfoldable pub shift : List Part → ℕ → ℕ → ℕ
shift [] at p = 0
shift (own t ∷ ps) at p = cond (ltb p (at + length_of t)) 0 (shift ps (at + length_of t) p)
shift (put x ∷ ps) at p = length_of x + shift ps at p

-- so the place in g of each place of f
unfoldable pub moved : {f g : List ℕ} → Mixed f g → ℕ → ℕ
moved m p = p + shift (parts_of m) 4 p

-- t stands at p: among tuples one behind the other, the first of them at a place
pub data PlacedAt : ℕ → List Tup → ℕ → Tup → Type 0 where
  here : {at : ℕ} {t : Tup} {ts : List Tup} → PlacedAt at (t ∷ ts) at t
  later : {at p : ℕ} {u t : Tup} {ts : List Tup} → PlacedAt (at + length_of u) ts p t → PlacedAt at (u ∷ ts) p t
