-- What is counted and the word of what is left are the word.
use Rattle.std.proofs.Common.{◌≡◌, ◌+◌, ◌-◌, ◌≤◌}
use Rattle.samples.specs.Values.{shortened}
use Rattle.spelling16.proofs.write.shorten.Given as goal

abbrev pub invariant-loop : goal.invariant-loop
invariant-loop l = record { few : l.code + l.rest ≤ l.value; same : l.code + shortened (6 - l.counter) l.rest ≡ shortened 6 l.value }
