-- What the two programs print: at most how much, and the promise of their functions. Assumes nothing.
use Rattle.std.specs.Prelude.{◌≡◌, List, ℕ, ◌≤◌, length}
use Rattle.std.proofs.Common.{sym, ◌∙◌}
use Rattle.std.proofs.lemmas.List.Edits.{sets}

-- the most that is printed: two digits for each of 65,536 bytes, and a line feed for the mark and for each of at most 4,095 tuples
abbrev pub most_printed : ℕ
most_printed = 135168

-- ---- the promise of the two programs' functions, and that it settles answer and memory
pub record Prints (text out : List ℕ) (r : ℕ) (left : List ℕ) : Type 0 where
  pub answer : r ≡ length text
  pub within : r ≤ length left
  pub memory : left ≡ sets out 0 text

pub prints-settled : {text out : List ℕ} {r s : ℕ} {left kept : List ℕ} → Prints text out r left → Prints text out s kept
    → (r ≡ s) × (left ≡ kept)
prints-settled p q = (p.answer ∙ sym q.answer, p.memory ∙ sym q.memory)
