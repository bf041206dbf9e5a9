-- Lent memory, as an answer leaves it: a refusal leaves every element, and what is written stands in front. Assumes nothing.
use mathlib.Core.Path.{◌≡◌, sym, ap, ◌∙◌}
use mathlib.Core.List.{List, ◌++◌}
use Prim.Native.Nat.{ℕ, ◌+◌, ◌≤◌}
use native.Mathlib.Omega.{arith}
use lib.ListN.{length, drop}
use lib.Seq.{sets, sets-eq}
use Rattle.layout.specs.declared.Counts.{Counts}
use Rattle.layout.specs.Answer.{Answer}
use Rattle.layout.specs.Answer.{Accepted, Refused}
use Rattle.layout.specs.Answers.{left_by}

pub left-refused : (a : Answer) (c p : ℕ) (written lent : List ℕ) → a ≡ Refused c p → lent ≡ left_by a written lent
left-refused a c p written lent e = sym (ap (λ (x : Answer). left_by x written lent) e)

pub left-accepted : (a : Answer) (n : Counts) (written lent left : List ℕ) → a ≡ Accepted n → length written ≤ length lent
    → left ≡ sets lent 0 written → left ≡ left_by a written lent
left-accepted a n written lent left e h w =
    let z : 0 + length written ≡ length written = omega arith in
    w ∙ sets-eq written lent 0 (omega arith) ∙ ap (λ (k : ℕ). written ++ drop k lent) z ∙ sym (ap (λ (x : Answer). left_by x written lent) e)
