-- What is stored and the line of the bytes that are left are the whole line.
use Rattle.std.proofs.Common.{◌≡◌, ◌+◌, ◌*◌, drop}
use lib.Seq.{sets}
use Rattle.hexlines.specs.Lines.{hex, line}
use Rattle.hexlines.proofs.lines_out.put_line.Given as goal

abbrev pub invariant-loop-i : goal.invariant-loop-i
invariant-loop-i l = sets l.out (l.at + 2 * l.i) (line (hex (drop l.i l.bytes))) ≡ sets l.initial.out l.at (line (hex l.bytes))
