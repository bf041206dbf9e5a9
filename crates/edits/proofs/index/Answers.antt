-- `edits::index` meets its contract: the check's refusals, then the result's, with nothing put in. Assumes nothing.
use Rattle.std.proofs.Common.{refl, sym, ap, ◌∙◌}
use Rattle.std.proofs.lemmas.Result.{err_from_is_err_and}
use Rattle.layout.specs.Views.{as_answer}
use Rattle.edits.proofs.Anew.{nothing-appended}
use Rattle.edits.proofs.Calls.{indexed-refused, indexed-given}
use Rattle.edits.proofs.index.Goals as goal

pub returns-in_err-counts : goal.returns-in_err-counts
returns-in_err-counts c =
    let p = err_from_is_err_and c.from_residual.result c.from_residual.ensures.1 in
    rw (p.1, p.2) (indexed-refused c.args.file.now c.args.out.now _ _ (sym c.check.ensures.is ∙ ap as_answer c.in_err-counts.was))

pub insert-requires-clause-taken : goal.insert-requires-clause-taken
insert-requires-clause-taken c = sym c.check.ensures.is ∙ ap as_answer c.in_ok-counts.was

pub returns : goal.returns
returns c =
    indexed-given c.args.file.now c.args.out.now _ (sym c.check.ensures.is ∙ ap as_answer c.in_ok-counts.was) _
    (nothing-appended c.args.file.now _ refl) _ _ c.insert.ensures
