-- `hexlines::lines_out::print_bad` meets its contract: its three parts, one behind the other, are the line. Assumes nothing.
use Rattle.std.proofs.Common.{arith}
use Rattle.hexlines.proofs.Decimals.{at-most_twenty}
use Rattle.hexlines.proofs.Stores.{put_then}
use Rattle.hexlines.proofs.lines_out.print_bad.Goals as goal

pub put-requires : goal.put-requires
put-requires c = omega (arith, at-most_twenty c.args.number)

pub returns : goal.returns
returns c = put_then (put_then c.put-to.ensures c.put_decimal-to.ensures) c.put.ensures
