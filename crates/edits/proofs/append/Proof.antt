-- `edits::append` meets its contract: the check's refusals, 1 for too many bytes, then the result's. Assumes nothing.
use mathlib.Core.Path.{sym, ap, ◌∙◌}
use native.Mathlib.Omega.{arith}
use borrow.Author.Rules.{rules}
use Rattle.std.proofs.lemmas.Result.{err_from_is_err_and}
use Rattle.layout.specs.Views.{as_answer}
use Rattle.edits.proofs.Calls.{appended-refused, appended-over, appended-given}
use Rattle.edits.proofs.append.Statement.{statement}
use Rattle.edits.proofs.append.Tie as tie

pub append_spec : {M : Type 1} → statement M
append_spec =
    tie.close
    (tie.spec
    (λ c κs. search rules)
    (λ c κs. search rules)
    (λ c. search rules)
    (λ c. search rules)
    (λ c κs. search rules)
    (λ c.
    let p = err_from_is_err_and c.from_residual.result c.from_residual.ensures.1 in
    rw (p.1, p.2)
    (appended-refused c.args.file.now c.args.out.now c.args.bytes.now _ _ (sym c.check.ensures.is ∙ ap as_answer c.in_err-counts.ensures)))
    (λ c κs. search rules)
    (λ c.
    appended-over c.args.file.now c.args.out.now c.args.bytes.now _ (sym c.check.ensures.is ∙ ap as_answer c.in_ok-counts.ensures)
    (omega arith) _ (ap as_answer c.refuse.ensures))
    (λ c κs. (sym c.check.ensures.is ∙ ap as_answer c.in_ok-counts.ensures, omega arith))
    (λ c. search rules)
    (λ c.
    appended-given c.args.file.now c.args.out.now c.args.bytes.now _ (sym c.check.ensures.is ∙ ap as_answer c.in_ok-counts.ensures)
    (omega arith) _ _ c.insert.ensures))
