-- `tuples::find` meets its contract: what a step forward finds. Assumes nothing.
use Rattle.std.proofs.Common.{sym, ap, ◌∙◌, Ok}
use Rattle.std.proofs.lemmas.Result.{err_from_is_err_and}
use Rattle.frame.specs.Views.{as_step}
use Rattle.tuples.proofs.Reading.{four, at-end, not_found, found-by}
use Rattle.tuples.proofs.find.Goals as goal

pub returns-in_err-tuple : goal.returns-in_err-tuple
returns-in_err-tuple c =
    let p = err_from_is_err_and c.from_residual.result c.from_residual.ensures.1 in
    rw (p.1, p.2) (λ asked. not_found asked c.args.file.now c.args.place _ _ (sym c.forward.ensures.is ∙ ap as_step c.in_err-tuple.was))

pub is_msb-requires : goal.is_msb-requires
is_msb-requires c =
    four (found-by c.args.file.now c.args.place _ _ _ _ (sym c.forward.ensures.is ∙ ap as_step (c.in_ok-tuple.was ∙ ap Ok c.in-Some.is)))

pub returns-in-Some : goal.returns-in-Some
returns-in-Some c =
    record {
      msb = c.is_msb.ensures;
      found = found-by _ _ _ _ _ _ (sym c.forward.ensures.is ∙ ap as_step (c.in_ok-tuple.was ∙ ap Ok c.in-Some.is));
    }

pub returns-in-None : goal.returns-in-None
returns-in-None c =
    rw c.refuse.ensures (λ asked. at-end asked _ _ (sym c.forward.ensures.is ∙ ap as_step (c.in_ok-tuple.was ∙ ap Ok c.in-None.is)))
