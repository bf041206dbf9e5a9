-- The iterator over a file's tuples meets its contract: it goes on behind a tuple that there is room for. Assumes nothing.
use Rattle.std.proofs.Common.{ℕ, ◌+◌, ap, rules, arith}
use Rattle.frame.proofs.passing.TuplesIterator.next.Goals as goal

pub returns-clause-steps : goal.returns-clause-steps
returns-clause-steps c = record {
  room = record { least = omega arith; whole = omega arith };
  at = search rules;
  whole = search rules;
  code = search rules;
  file = search rules;
  msb = search rules;
  next = ap (λ (n : ℕ). c.args.self.now.at + n) c.length_at-whole.ensures;
}
