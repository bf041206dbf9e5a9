-- `intake::may_declare` meets its contract: either of the two classes. Assumes nothing.
use mathlib.Core.Path.{ap₂, ◌∙◌}
use mathlib.Core.Bool.{Bool, ◌||◌}
use borrow.Author.Rules.{rules}
use Rattle.intake.proofs.may_declare.Statement.{statement}
use Rattle.intake.proofs.may_declare.Tie as tie

returns : tie.Need-returns
returns c =
    let b = c.before in
    c.either.ensures ∙ ap₂ (λ (x y : Bool). x || y) b.in_class.ensures b.in_class-2.ensures

pub may_declare_spec : {M : Type 1} → statement M
may_declare_spec = tie.close (tie.spec
    (λ c κs. search rules)
    (λ c κs. search rules)
    (λ c κs. search rules)
    returns)
