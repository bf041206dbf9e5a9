-- `ping_writers::judging::quiet_behind` meets its contract: what a length counts past the number behind the last. Assumes nothing.
use Prim.Native.Nat.{◌+◌}
use native.Mathlib.Omega.{arith}
use borrow.Author.Rules.{rules}
use borrow.Author.Tests.{ltb-false}
use Rattle.samples.specs.inner.Lists.{numbered}
use Rattle.samples.specs.Runs.{behind}
use Rattle.ping_writers.proofs.judging.quiet_behind.Statement.{statement}
use Rattle.ping_writers.proofs.judging.quiet_behind.Tie as tie

sub-result : tie.Need-overflow_sub-result
sub-result c =
    let long = rw c.in-Some.is at c.requires in
    omega (arith, c.behind.ensures.0, ltb-false c.in-Some.all (behind 0 (numbered c.args.numbers.now) + 1) long)

returns-2 : tie.Need-returns-in-Some
returns-2 c =
    (rw (c.in-Some.is, c.behind.ensures.0), omega arith)

pub quiet_behind_spec : {M : Type 1} → statement M
quiet_behind_spec =
    tie.close
    (tie.spec
    (λ c. search rules)
    (λ c. search rules)
    (λ c. search rules)
    (λ c κs. search rules)
    sub-result
    (λ c. search rules)
    returns-2)
