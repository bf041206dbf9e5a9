-- What a writer leaves by its answer, where this is what its rules say. Assumes nothing.
use mathlib.Core.Path.{◌≡◌, ap, ◌∙◌}
use mathlib.Core.List.{List, ◌++◌}
use Prim.Native.Nat.{ℕ, ◌+◌, ◌≤◌}
use native.Mathlib.Omega.{arith}
use lib.ListN.{length, drop}
use lib.Seq.{sets, sets-eq}
use Rattle.rules.specs.Rules.{Rule}
use Rattle.layout.specs.declared.Counts.{Counts}
use Rattle.layout.specs.Answer.{Answer}
use Rattle.layout.specs.Answer.{Accepted, Refused}
use Rattle.layout.specs.Answers.{tells, left_by}
use Rattle.tuples.specs.Writers.{write_answer, Written}

module _ (rs : List (Rule Answer)) (bytes out : List ℕ) (r : Answer) (said : r ≡ write_answer rs bytes (length out)) where
  by_answer : (left : List ℕ) → left ≡ left_by r bytes out → Written rs bytes out r left
  by_answer left e = record { answer = tells said; memory = e ∙ ap (λ (x : Answer). left_by x bytes out) said }

  pub refused : {c q : ℕ} → r ≡ Refused c q → Written rs bytes out r out
  refused e = by_answer out (rw e)

  pub written : {n : Counts} (left : List ℕ) → r ≡ Accepted n → length bytes ≤ length out → left ≡ sets out 0 bytes
      → Written rs bytes out r left
  written left e room s =
      let z : 0 + length bytes ≡ length bytes = omega arith in
      by_answer left (rw e (s ∙ sets-eq bytes out 0 (omega arith) ∙ ap (λ (k : ℕ). bytes ++ drop k out) z))
