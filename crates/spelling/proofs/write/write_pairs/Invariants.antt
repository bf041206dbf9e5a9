-- The pairs of the samples that are left are still to be written.
use Rattle.std.proofs.Common.{◌≡◌, ◌+◌, ◌*◌, length, drop}
use Rattle.std.proofs.lemmas.List.Edits.{sets}
use Rattle.layout.specs.Families.{wide}
use Rattle.samples.specs.Words.{unsampled}
use Rattle.samples.specs.Lists.{paired}
use Rattle.spelling.proofs.write.write_pairs.Given as goal

abbrev pub invariant-loop-i : goal.invariant-loop-i
invariant-loop-i l =
    record {
      long : length l.out ≡ length l.fn.out;
      place : l.to ≡ l.at + 8 * l.i;
      rest : sets l.out l.to (unsampled wide l.msb (paired 4 (drop l.i l.numbers) (drop l.i l.values)))
          ≡ sets l.fn.out l.at (unsampled wide l.msb (paired 4 l.numbers l.values));
    }
