-- What linear values are worth. Assumes nothing.
use Rattle.linear.specs.Results.{Linears}
use Rattle.linear.proofs.Rule.{rule, entries}
use Rattle.linear.proofs.Levels.{stepped, louder, most}
use Rattle.linear.proofs.Totals.{total-within}

pub linears : Linears
linears = record { entries = entries; rule = rule; stepped = stepped; louder = louder; most = most; within = total-within }
