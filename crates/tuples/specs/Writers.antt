-- What the writers answer, and what they leave in lent memory. Assumes nothing.
use Rattle.std.specs.Prelude.{◌≡◌, ℕ, Bool, List, [], ◌∷◌, ◌++◌, ltb, length}
use Rattle.std.proofs.Common.{sym, ◌∙◌}
use Rattle.rules.specs.Rules.{Rule, ◌⇒◌, first_of}
use Rattle.layout.specs.Answer.{Answer}
use Rattle.layout.specs.Answer.{Refused}
use Rattle.layout.specs.Answers.{numbers, Tells, left_by, accepting}
use Rattle.frame.specs.Frames.{Tup, length_of, frame}
use Rattle.turning.specs.Rows.{Value}
use Rattle.content.specs.Forms.{plain_tuple}

-- a writer's rules, then 19; acceptance with 1 tuple and the bytes written
abbrev pub write_answer : List (Rule Answer) → List ℕ → ℕ → Answer
write_answer rs bytes room = first_of (rs ++ ((ltb room (length bytes) ⇒ Refused 19 0) ∷ [])) (accepting 1 (length bytes))

-- the promise of a writer with these rules and these bytes, and that it settles answer and memory
pub record Written (rs : List (Rule Answer)) (bytes out : List ℕ) (r : Answer) (left : List ℕ) : Type 0 where
  pub answer : Tells numbers r (write_answer rs bytes (length out))
  pub memory : left ≡ left_by (write_answer rs bytes (length out)) bytes out

pub written-settled : {rs : List (Rule Answer)} {bytes out : List ℕ} {r s : Answer} {left kept : List ℕ}
    → Written rs bytes out r left → Written rs bytes out s kept → (r ≡ s) × (left ≡ kept)
written-settled p q = (p.answer.is ∙ sym q.answer.is, p.memory ∙ sym q.memory)

-- writer's tuple over 262,144
abbrev pub too_long : Tup → Rule Answer
too_long t = ltb 262144 (length_of t) ⇒ Refused 11 0

-- ---- tuples of a row: a listed type's code, and its values with the attribute the last
abbrev pub plain_bytes : Bool → ℕ → List Value → List ℕ
plain_bytes o k vs = frame o (plain_tuple o k vs)
