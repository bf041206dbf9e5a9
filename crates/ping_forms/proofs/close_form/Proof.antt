-- `ping_forms::close_form` meets its contract: the attribute as it was read, and the backlink. Assumes nothing.
use borrow.Author.Rules.{rules}
use Rattle.ping_forms.proofs.close_form.Statement.{statement}
use Rattle.ping_forms.proofs.close_form.Tie as tie

returns : tie.Need-returns
returns c = let tail = c.before.before in rw (tail.close_frame.ensures, tail.read4.ensures)

pub close_form_spec : {M : Type 1} → statement M
close_form_spec = tie.close (tie.spec
    (λ c κs. search rules)
    (λ c κs. search rules)
    (λ c. search rules)
    returns)
