-- Each place adds a tuple's most bytes at most.
use Rattle.std.proofs.Common.{◌*◌, ◌≤◌}
use Rattle.salvage.proofs.is_dear.Given as goal

abbrev pub invariant-loop-i : goal.invariant-loop-i
invariant-loop-i l = l.bytes ≤ 262144 * l.i
