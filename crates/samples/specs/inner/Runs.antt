-- The samples of one word. Assumes nothing.
use Rattle.std.specs.Prelude.{ℕ, true, false}
use Rattle.samples.specs.Runs.{is_run, run_length}

-- a run's, or a value's one
unfoldable pub samples_by : ℕ → ℕ → ℕ
samples_by R w = elim (is_run R w) [ true ↦ run_length R w | false ↦ 1 ]
