-- The laws of the views: what is `Ok` is fine, and a refusal is one. Assumes nothing.
use mathlib.Core.Path.{◌≡◌, refl, sym, ap, ◌∙◌}
use Prim.Native.Nat.{ℕ}
use mathlib.Core.Bool.{true, false, true≢false}
use Rattle.std.specs.Prelude.{Result, Ok, Err, ⊤, is_ok, is_err}
use Rattle.layout.specs.declared.Counts.{Counts}
use Rattle.layout.specs.declared.Refusal.{Refusal}
use Rattle.layout.specs.declared.Flaw.{Flaw}
use Rattle.layout.specs.declared.codes.Code.{Code}
use Rattle.layout.specs.Code.{number}
use Rattle.layout.specs.Answer.{Answer, Refused}
use Rattle.layout.specs.Verdict.{Fine}
use Rattle.layout.specs.Answers.{is_fine}
use Rattle.layout.specs.Views.{as_verdict, as_answer}

pub ok_fine : (r : Result ⊤ Flaw) → is_ok r ≡ is_fine (as_verdict r)
ok_fine (Ok _) = refl
ok_fine (Err _) = refl

-- by the test
pub fine_ok : (r : Result ⊤ Flaw) → is_ok r ≡ true → as_verdict r ≡ Fine
fine_ok (Ok _) e = refl
fine_ok (Err _) e = absurd (true≢false (sym e))

pub fine_no_err : (r : Result ⊤ Flaw) → is_err r ≡ false → as_verdict r ≡ Fine
fine_no_err (Ok _) e = refl
fine_no_err (Err _) e = absurd (true≢false e)

pub err_unfine : (r : Result ⊤ Flaw) → is_err r ≡ true → is_fine (as_verdict r) ≡ false
err_unfine (Ok _) e = absurd (true≢false (sym e))
err_unfine (Err _) e = refl

-- what is said of a refusal is said of what the code hands back for it
pub refused-as : {k : Code} {p : ℕ} {x : Answer} (r : Result Counts Refusal) → Refused (number k) p ≡ x
    → r ≡ Err (record { code = k; place = p }) → as_answer r ≡ x
refused-as r s e = ap as_answer e ∙ s
