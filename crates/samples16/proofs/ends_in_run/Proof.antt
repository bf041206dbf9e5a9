-- `samples16::ends_in_run` meets its contract: the last word stands two bytes before the end. Assumes nothing.
use mathlib.Core.Path.{◌∙◌, ap}
use borrow.Author.Rules.{rules}
use Prim.Native.Nat.{ℕ, ◌-◌, ◌/◌}
use native.Mathlib.Omega.{arith}
use lib.Dec.{lit<}
use lib.ListN.{length}
use Rattle.samples.specs.Runs.{is_run}
use Rattle.samples.proofs.Lengths.{ends_last}
use Rattle.samples16.proofs.ends_in_run.Statement.{statement}
use Rattle.samples16.proofs.ends_in_run.Tie as tie

returns : tie.Need-returns
returns c =
    let read = c.before in
    let start = read.before.before in
    let a = start.args in
    c.is_run.ensures
    ∙ ap (λ (w : ℕ). is_run 256 w) read.read2.ensures
    ∙ ends_last 256 2 (length a.part.now / 2 - 1) (lit< tt) a.msb a.part.now (omega (arith, start.requires))

pub ends_in_run_spec : {M : Type 1} → statement M
ends_in_run_spec = tie.close (tie.spec
    (λ c. search rules)
    (λ c κs. search rules)
    (λ c κs. search rules)
    returns)
