-- `samples16::is_run` meets its contract. Assumes nothing.
use Rattle.samples16.proofs.Laws.{run-from}
use Rattle.samples16.proofs.is_run.Statement.{statement}
use Rattle.samples16.proofs.is_run.Tie as tie

pub is_run_spec : {M : Type 1} → statement M
is_run_spec = tie.close (tie.spec
    (λ c. run-from c.args.word c.ranges.word.fits))
