-- `tuples::signed4_at` meets its contract: the signed number of what is read. Assumes nothing.
use mathlib.Core.Path.{ap, ◌∙◌}
use borrow.Author.Rules.{rules}
use mir.Syntax.{w32}
use mir.Facts.{to_z-of_z}
use Rattle.order.specs.Order.{signed_of}
use Rattle.tuples.proofs.signed4_at.Statement.{statement}
use Rattle.tuples.proofs.signed4_at.Tie as tie

returns : tie.Need-returns
returns c =
    to_z-of_z {w = w32} {z = c.signed4.result} (record { sfits = c.signed4.type_inv })
    ∙ c.signed4.ensures
    ∙ ap (signed_of 4) c.read4.ensures

pub signed4_at_spec : {M : Type 1} → statement M
signed4_at_spec = tie.close (tie.spec
    (λ c κs. search rules)
    (λ c κs. search rules)
    returns)
