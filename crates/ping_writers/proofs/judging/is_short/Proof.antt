-- `ping_writers::judging::is_short` meets its contract: a length is held against the number behind the last. Assumes nothing.
use borrow.Author.Rules.{rules}
use Rattle.ping_writers.proofs.judging.is_short.Statement.{statement}
use Rattle.ping_writers.proofs.judging.is_short.Tie as tie

returns-2 : tie.Need-returns-in-Some
returns-2 c = rw (c.in-Some.is, c.behind.ensures.0)

pub is_short_spec : {M : Type 1} → statement M
is_short_spec =
    tie.close
    (tie.spec
    (λ c. search rules)
    (λ c. search rules)
    (λ c. search rules)
    (λ c κs. search rules)
    (λ c. search rules)
    (λ c. search rules)
    returns-2)
