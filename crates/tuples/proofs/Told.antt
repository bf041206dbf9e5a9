-- What a writer hands back, and what a reader's opening does, is settled by the promise. Assumes nothing.
use mathlib.Core.Path.{◌≡◌, ap, ap₂, sym, ◌∙◌}
use mathlib.Core.Bool.{Bool}
use mathlib.Core.List.{List}
use Prim.Native.Nat.{ℕ}
use native.Mathlib.Omega.{arith}
use Rattle.std.specs.Prelude.{Result, Ok, Err}
use Rattle.rules.specs.Rules.{Rule}
use Rattle.layout.specs.declared.Counts.{Counts}
use Rattle.layout.specs.declared.Refusal.{Refusal}
use Rattle.layout.specs.Answer.{Answer, Accepted, Refused}
use Rattle.layout.specs.Views.{as_answer}
use Rattle.layout.proofs.Told.{same_answer, same_beside}
use Rattle.frame.specs.Step.{Step}
use Rattle.frame.specs.Step as step
use Rattle.tuples.specs.Writers.{Written, written-settled}
use Rattle.tuples.specs.declared.Opened.{Opened}
use Rattle.tuples.specs.inner.Opening.{OpenedAs}

-- two outcomes that a writer's promise allows are one, with the memory that it leaves
pub written_told : {rs : List (Rule Answer)} {bytes out : List ℕ} (r s : Result Counts Refusal) {left kept : List ℕ}
    → Written rs bytes out (as_answer r) left → Written rs bytes out (as_answer s) kept → (r ≡ s) × (left ≡ kept)
written_told r s p q = same_beside r s (written-settled p q)

-- ---- an opening is the tuple that a step finds there, or the refusal of its readers
abbrev whole_in : Step → ℕ
whole_in (step.Tuple p n k w) = n
whole_in step.End = 0
whole_in (step.Refused c p) = 0

abbrev kind_in : Step → ℕ
kind_in (step.Tuple p n k w) = k
kind_in step.End = 0
kind_in (step.Refused c p) = 0

abbrev refusal_in : Refusal → Result Counts Refusal → Refusal
refusal_in r (Ok n) = r
refusal_in r (Err s) = s

apart : {A : Type 0} {n : Counts} {c p : ℕ} → Accepted n ≡ Refused c p → A
apart e = absurd (let q : ◌≡◌ {A = ℕ} 0 1 = cc in omega arith)

pub opened_told : (asked : ℕ → Bool) (f : List ℕ) (p : ℕ) (r s : Result Opened Refusal) → OpenedAs asked f p r → OpenedAs asked f p s
    → r ≡ s
opened_told asked f p (Ok x) (Ok y) a b =
    let e = sym a.found.step ∙ b.found.step in
    let o = a.msb ∙ sym b.msb in
    ap Ok (
    ap (λ (m : Bool). record { msb = m; whole = x.whole; code = x.code }) o
    ∙ ap₂ (λ (n k : ℕ). record { msb = y.msb; whole = n; code = k }) (ap whole_in e) (ap kind_in e)
    )
opened_told asked f p (Ok x) (Err s) a b = apart (a.answer ∙ sym b)
opened_told asked f p (Err r) (Ok y) a b = apart (b.answer ∙ sym a)
opened_told asked f p (Err r) (Err s) a b = ap Err (ap (refusal_in r) (same_answer (Err r) (Err s) (a ∙ sym b)))
