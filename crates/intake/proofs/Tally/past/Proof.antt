-- `intake::Tally::past` meets its contract, field by field. Assumes nothing.
use borrow.Author.Rules.{rules}
use Rattle.intake.proofs.Tally.past.Statement.{statement}
use Rattle.intake.proofs.Tally.past.Tie as tie

returns : tie.Need-returns
returns c =
    let d = c.before.before in
    let e = d.before.before in
    let g = e.before.before in
    rw (
      g.either.ensures,
      g.in_class.ensures,
      e.either-2.ensures,
      e.in_class-2.ensures,
      d.either-3.ensures,
      d.in_class-3.ensures,
      c.either-4.ensures,
      c.in_class-4.ensures,
    )

pub past_spec : {M : Type 1} → statement M
past_spec =
    tie.close
    (tie.spec
    (λ c. search rules)
    (λ c. search rules)
    (λ c. search rules)
    (λ c κs. search rules)
    (λ c κs. search rules)
    (λ c κs. search rules)
    (λ c κs. search rules)
    (λ c κs. search rules)
    (λ c κs. search rules)
    (λ c κs. search rules)
    (λ c κs. search rules)
    (λ c κs. search rules)
    returns)
