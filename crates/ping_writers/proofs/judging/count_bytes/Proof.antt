-- `ping_writers::judging::count_bytes` meets its contract: the words are counted by their width. Assumes nothing.
use native.Mathlib.Omega.{arith}
use borrow.Author.Rules.{rules}
use Rattle.ping_writers.proofs.judging.count_bytes.Statement.{statement}
use Rattle.ping_writers.proofs.judging.count_bytes.Tie as tie

returns : tie.Need-returns-then-wide
returns c = rw c.if-wide.true (omega (arith, c.count_words-words.ensures.0))

returns-2 : tie.Need-returns
returns-2 c = rw c.if-wide.false (omega (arith, c.count_words-bytes.ensures.0))

pub count_bytes_spec : {M : Type 1} → statement M
count_bytes_spec =
    tie.close
    (tie.spec
    (λ c κs. search rules)
    (λ c. search rules)
    (λ c. search rules)
    (λ c. search rules)
    returns
    (λ c κs. search rules)
    (λ c. search rules)
    (λ c. search rules)
    (λ c. search rules)
    (λ c. search rules)
    returns-2)
