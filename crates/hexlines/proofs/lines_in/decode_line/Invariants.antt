-- What is stored and the bytes of the digits that are left are the line's bytes.
use Rattle.std.proofs.Common.{◌≡◌, ◌+◌, ◌*◌, true, drop}
use lib.Seq.{sets}
use Rattle.hexlines.specs.Lines.{all_digits, bytes_in}
use Rattle.hexlines.proofs.lines_in.decode_line.Given as goal

abbrev pub invariant-loop-i : goal.invariant-loop-i
invariant-loop-i l =
    (all_digits (drop (2 * l.i) l.line) ≡ true)
    × (sets l.bytes (l.at + l.i) (bytes_in (drop (2 * l.i) l.line)) ≡ sets l.initial.bytes l.at (bytes_in l.line))
