-- `samples::ends_in_run` meets its contract: the last word stands four bytes before the end. Assumes nothing.
use Rattle.std.proofs.Common.{◌-◌, ◌/◌, ◌∙◌, ℕ, ap, length, lit<, arith}
use Rattle.samples.specs.Runs.{radix, is_run}
use Rattle.samples.proofs.Lengths.{ends_last}
use Rattle.samples.proofs.ends_in_run.Goals as goal

pub returns : goal.returns
returns c =
    let part = c.args.part.now in
    c.is_run.ensures
    ∙ ap (λ (w : ℕ). is_run radix w) c.read4.ensures
    ∙ ends_last radix 4 (length part / 4 - 1) (lit< tt) c.args.msb part (omega (arith, c.requires))
