-- What the loop has yet to store, stored, makes the whole. Assumes nothing.
use Rattle.std.proofs.Common.{◌≡◌, ◌+◌, length, take, drop}
use Rattle.std.proofs.lemmas.List.Edits.{sets}
use Rattle.turning.proofs.copy.Given as goal

abbrev pub invariant-loop-i : goal.invariant-loop-i
invariant-loop-i l = record {
  kept : length l.out ≡ length l.initial.out;
  stored : sets l.out (l.to + l.i) (drop l.i (take l.w (drop l.at l.src))) ≡ sets l.initial.out l.to (take l.w (drop l.at l.src));
}
