-- `hexlines::print_answer` meets its contract: the bytes that an acceptance counts are a form, whose lines fit. Assumes nothing.
use Rattle.std.proofs.Common.{◌≡◌, ap, subst, length, take, arith}
use lib.Seq.{length-take-le}
use Rattle.layout.specs.Views.{as_answer}
use Rattle.layout.specs.Answer.{Answer}
use Rattle.hexlines.specs.inner.Printing.{Ready, Within}
use Rattle.hexlines.proofs.Programs.{most}
use Rattle.hexlines.proofs.print_answer.Goals as goal

pub print_form-requires-clause-form_in_bounds : goal.print_form-requires-clause-form_in_bounds
print_form-requires-clause-form_in_bounds c =
    let form = c.args.form.now in
    let m = c.in-Ok.counts.written in
    -- what is accepted is within the lent bytes
    let within : Within m form = subst (λ (a : Answer). Ready a form) (ap as_answer c.in-Ok.is) c.requires.ready in
    let counted : length (take m form) ≡ m = length-take-le m form within.long in
    omega (arith, most _ _ within.form (omega (arith, counted, within.small)), c.requires.most_printed_in_bounds)
