-- The samples that are left are still to be written.
use Rattle.std.proofs.Common.{◌≡◌, ◌+◌, ◌*◌, length, drop}
use Rattle.std.proofs.lemmas.List.Edits.{sets}
use Rattle.layout.specs.Families.{narrow_angles}
use Rattle.samples.specs.Words.{unsampled}
use Rattle.samples.specs.Lists.{angled}
use Rattle.spelling16.proofs.plain.write_narrow_angles.Given as goal

abbrev pub invariant-loop-i : goal.invariant-loop-i
invariant-loop-i l =
    record {
      long : length l.out ≡ length l.fn.out;
      place : l.to ≡ l.at + 6 * l.i;
      rest : sets l.out l.to (unsampled narrow_angles l.msb (angled (drop l.i l.numbers) (drop l.i l.alongship) (drop l.i l.athwartship)))
          ≡ sets l.fn.out l.at (unsampled narrow_angles l.msb (angled l.numbers l.alongship l.athwartship));
    }
