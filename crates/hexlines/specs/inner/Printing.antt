-- What the printers leave in memory, and what they rest on. Assumes nothing.
use Rattle.std.specs.Prelude.{◌≡◌, false, List, [], ◌++◌, ℕ, ◌+◌, ◌≤◌, length, take}
use Rattle.std.proofs.lemmas.List.Edits.{sets}
use Rattle.layout.specs.Answer.{Answer}
use Rattle.layout.specs.Answer.{Accepted, Refused}
use Rattle.frame.specs.Frames.{Tup, frames}
use Rattle.frame.specs.Files.{mark}
use Rattle.frame.specs.Tuples.{tuples_of, AllFramed}
use Rattle.hexlines.specs.Lines.{room}
use Rattle.hexlines.specs.Programs.{printed}

-- a text was stored at a place, and the place behind it was answered, which is none past the end
pub record Put (out : List ℕ) (at : ℕ) (text : List ℕ) (r : ℕ) (left : List ℕ) : Type 0 where
  pub behind : r ≡ at + length text
  pub within : r ≤ length left
  pub memory : left ≡ sets out at text

-- bytes that are a mark and the frames of tuples, in LSB order
pub record Form (f : List ℕ) (ts : List Tup) : Type 0 where
  pub whole : f ≡ mark false ++ frames false ts
  pub framed : AllFramed ts

-- ---- an answer with the lent bytes of its normal form
abbrev pub form_in : Answer → List ℕ → List ℕ
form_in (Accepted n) lent = take n.written lent
form_in (Refused c p) lent = []

-- the bytes that an acceptance counts are a form of at most 65,536 bytes
pub record Within (m : ℕ) (lent : List ℕ) : Type 0 where
  pub long : m ≤ length lent
  pub small : m ≤ room
  pub form : Form (take m lent) (tuples_of (take m lent))

abbrev pub Ready : Answer → List ℕ → Type 0
Ready (Accepted n) lent = Within n.written lent
Ready (Refused c p) lent = Unit {0}

abbrev pub printed_by : Answer → List ℕ → List ℕ
printed_by a lent = printed (tuples_of (form_in a lent)) a
