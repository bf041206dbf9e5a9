-- Where a writer accepts, its rules are kept and the lent memory begins with its bytes, so that a file that holds what was written
-- holds them. Assumes nothing.
use mathlib.Core.Path.{◌≡◌, refl, sym, ap, subst, ◌∙◌}
use Prim.Native.Nat.{ℕ}
use mathlib.Core.Bool.{Bool}
use mathlib.Core.List.{List, [], ◌∷◌, ◌++◌}
use lib.Dec.{ltb}
use lib.ListN.{length, take, drop}
use lib.Seq.{take_at}
use Rattle.rules.specs.Rules.{Rule, ◌⇒◌, AllPass}
use Rattle.rules.proofs.Laws.{Silent, clear}
use Rattle.layout.specs.declared.Counts.{Counts}
use Rattle.layout.specs.Answer.{Answer}
use Rattle.layout.specs.Answer.{Accepted, Refused}
use Rattle.layout.specs.Answers.{left_by, accepting, is_accepted}
use Rattle.tuples.specs.Writers.{Written}
use Rattle.roundtrip.specs.Held.{Holds}

-- a writer's rules, then 19
abbrev pub all_rules : List (Rule Answer) → List ℕ → List ℕ → List (Rule Answer)
all_rules rs bytes out = rs ++ ((ltb (length out) (length bytes) ⇒ Refused 19 0) ∷ [])

-- a writer whose rules all refuse, and that accepts
module _ {rs : List (Rule Answer)} {bytes out left : List ℕ} {n : Counts} (q : Silent is_accepted (all_rules rs bytes out))
    (w : Written rs bytes out (Accepted n) left) where
  cleared : AllPass (all_rules rs bytes out) × (accepting 1 (length bytes) ≡ Accepted n)
  cleared = clear is_accepted (all_rules rs bytes out) (accepting 1 (length bytes)) (Accepted n) q (sym w.answer.is) refl

  pub written-kept : AllPass (all_rules rs bytes out)
  written-kept = cleared.0

  pub written-bytes : take n.written left ≡ bytes
  written-bytes =
      let long : length bytes ≡ n.written = cc cleared.1 in
      ap (take n.written) (w.memory ∙ ap (λ (a : Answer). left_by a bytes out) (sym w.answer.is))
      ∙ take_at bytes (drop (length bytes) out) n.written long

  pub written_held : {f : List ℕ} {p : ℕ} {o : Bool} → Holds f p o (take n.written left) → Holds f p o bytes
  written_held {f} {p} {o} h = subst (λ (l : List ℕ). Holds f p o l) written-bytes h
