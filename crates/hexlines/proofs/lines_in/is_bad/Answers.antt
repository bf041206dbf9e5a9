-- `hexlines::lines_in::is_bad` meets its contract. Assumes nothing.
use Rattle.std.proofs.Common.{arith}
use Rattle.std.proofs.lemmas.Bool.Decides.{nat_tests}
use Rattle.hexlines.proofs.Digits.{digits_all}
use Rattle.hexlines.proofs.lines_in.is_bad.Goals as goal

pub returns-then-not-all_digits : goal.returns-then-not-all_digits
returns-then-not-all_digits c = let e = digits_all c.args.line.now in grind (arith, nat_tests)

pub returns-else-not-all_digits : goal.returns-else-not-all_digits
returns-else-not-all_digits c = let e = digits_all c.args.line.now in grind (arith, nat_tests)
