-- `hexlines::lines_out::print_refused` meets its contract: its five parts, one behind the other, are the line. Assumes nothing.
use Rattle.std.proofs.Common.{arith, ap}
use Rattle.hexlines.specs.Lines.{decimal}
use Rattle.hexlines.proofs.Decimals.{at-most_twenty}
use Rattle.hexlines.proofs.Stores.{put_same, put_then}
use Rattle.hexlines.proofs.lines_out.print_refused.Goals as goal

pub put-to-requires-2 : goal.put-to-requires-2
put-to-requires-2 c = omega (arith, at-most_twenty c.from.result)

pub put_decimal-to-requires-2 : goal.put_decimal-to-requires-2
put_decimal-to-requires-2 c = omega (arith, at-most_twenty c.from.result)

pub put-requires : goal.put-requires
put-requires c = omega (arith, at-most_twenty c.from.result, at-most_twenty c.args.place)

pub returns : goal.returns
returns c =
    put_then
    (put_then (put_then (put_then c.put-to.ensures (put_same (ap decimal c.from.ensures) c.put_decimal-to.ensures)) c.put-to-2.ensures)
    c.put_decimal-to-2.ensures)
    c.put.ensures
