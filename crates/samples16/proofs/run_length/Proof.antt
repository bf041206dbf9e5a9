-- `samples16::run_length` meets its contract. Assumes nothing.
use mathlib.Core.Path.{refl}
use borrow.Author.Rules.{rules}
use Rattle.samples.specs.Runs.{run_length}
use Rattle.samples16.proofs.run_length.Statement.{statement}
use Rattle.samples16.proofs.run_length.Tie as tie

returns : tie.Need-returns
unfolding run_length
returns c = refl

pub run_length_spec : {M : Type 1} → statement M
run_length_spec = tie.close (tie.spec
    (λ c. search rules)
    returns)
