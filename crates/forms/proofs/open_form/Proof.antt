-- `forms::open_form` meets its contract: size and type, and the fields of the listing behind them. Assumes nothing.
use borrow.Author.Rules.{rules}
use mathlib.Core.Bool.{false}
use Rattle.frame.proofs.Framing.{opening-stored}
use Rattle.forms.proofs.open_form.Statement.{statement}
use Rattle.forms.proofs.open_form.Tie as tie

returns : tie.Need-returns
returns c =
    let fields = c.before.before in
    let front = fields.before.before.before.before in
    let a = front.args in
    rw (fields.turn_listed.ensures, front.open_frame.ensures) (opening-stored false a.out.now a.to a.bytes a.code _)

pub open_form_spec : {M : Type 1} → statement M
open_form_spec =
    tie.close
    (tie.spec
    (λ c κs. search rules)
    (λ c. search rules)
    (λ c. search rules)
    (λ c κs. search rules)
    (λ c. search rules)
    returns)
