-- What the normaliser answers and what it leaves in lent memory. Assumes nothing.
use Rattle.std.specs.Prelude.{◌≡◌, ℕ, ◌+◌, Bool, true, false, ◌&&◌, List, [], ◌∷◌, ltb, length}
use Rattle.std.proofs.Common.{sym, ◌∙◌}
use Rattle.rules.specs.Rules.{Rule, ◌⇒◌, first_of}
use Rattle.layout.specs.declared.Counts.{Counts}
use Rattle.layout.specs.Answer.{Answer}
use Rattle.layout.specs.Answer.{Accepted, Refused}
use Rattle.layout.specs.Answers.{numbers, Tells, left_by}
use Rattle.layout.specs.Types.{Shape, indexed, row, uncompressed, compressed, unlisted, shape_of}
use Rattle.frame.specs.Frames.{Tup, length_of}
use Rattle.frame.specs.Files.{limit, is_msb}
use Rattle.frame.specs.Tuples.{tuples_of}
use Rattle.intake.specs.Check.{writing, check_file}
use Rattle.normal.specs.Contents.{normal_of}

-- unlisted, and not of the index class
abbrev pub is_unlisted : Shape → Bool
is_unlisted indexed = false
is_unlisted (row fs x) = false
is_unlisted (uncompressed f) = false
is_unlisted (compressed f) = false
is_unlisted unlisted = true

-- the place of the first such tuple, the first of them all standing at a place; where none is, that of the end
unfoldable pub first_unlisted : ℕ → List Tup → ℕ
first_unlisted at [] = at
first_unlisted at (t ∷ ts) = elim (is_unlisted (shape_of t.kind)) [ true ↦ at | false ↦ first_unlisted (at + length_of t) ts ]

-- behind the check: 18 in an MSB file, at the first such tuple; 20 and 19 at 0
abbrev pub normal_rules : List ℕ → ℕ → List (Rule Answer)
normal_rules f room =
    let at = first_unlisted 4 (tuples_of f) in
    let n = length (normal_of f) in
    (is_msb f && ltb at (length f) ⇒ Refused 18 at)
    ∷ (ltb limit n ⇒ Refused 20 0)
    ∷ (ltb room n ⇒ Refused 19 0)
    ∷ []

-- with the bytes written
abbrev pub normal_counts : List ℕ → Counts → Counts
normal_counts f n = writing n (length (normal_of f))

-- the check's refusals first
abbrev pub behind_check : List ℕ → ℕ → Answer → Answer
behind_check f room (Accepted n) = first_of (normal_rules f room) (Accepted (normal_counts f n))
behind_check f room (Refused c p) = Refused c p

unfoldable pub normal_answer : List ℕ → ℕ → Answer
normal_answer f room = behind_check f room (check_file f)

-- ---- the promise of the normaliser, and that it settles answer and memory
pub record Normalised (f out : List ℕ) (r : Answer) (left : List ℕ) : Type 0 where
  pub answer : Tells numbers r (normal_answer f (length out))
  pub memory : left ≡ left_by (normal_answer f (length out)) (normal_of f) out

pub normalised-settled : {f out : List ℕ} {r s : Answer} {left kept : List ℕ} → Normalised f out r left → Normalised f out s kept
    → (r ≡ s) × (left ≡ kept)
normalised-settled p q = (p.answer.is ∙ sym q.answer.is, p.memory ∙ sym q.memory)
