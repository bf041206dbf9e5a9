-- The samples from here on are still to be laid. A sample passes at most 16,384 numbers a byte, so that the number stays below 2^32.
use Rattle.std.proofs.Common.{◌≡◌, ◌*◌, ◌≤◌, drop}
use Rattle.layout.specs.Types.{shape_of}
use Rattle.quantities.specs.inner.Codes.{family_of}
use Rattle.sampling.specs.inner.Walking.{handed_left}
use Rattle.readings.specs.Reading.{reading_of, case_in, double_in}
use Rattle.readings.specs.inner.Laying.{laid}
use Rattle.readings.proofs.lay.Given as goal

abbrev pub invariant-loop-i : goal.invariant-loop-i
invariant-loop-i l =
    (l.number ≤ 16384 * (l.i * l.width))
    × (laid (λ v. case_in (reading_of l.quantity (family_of l.code) v)) l.first l.cases
    (handed_left (shape_of l.code) l.msb l.number (drop (l.i * l.width) l.held))
    ≡ laid (λ v. case_in (reading_of l.quantity (family_of l.code) v)) l.first l.initial.cases
    (handed_left (shape_of l.code) l.msb 0 l.held))
    × (laid (λ v. double_in (reading_of l.quantity (family_of l.code) v)) l.first l.doubles
    (handed_left (shape_of l.code) l.msb l.number (drop (l.i * l.width) l.held))
    ≡ laid (λ v. double_in (reading_of l.quantity (family_of l.code) v)) l.first l.initial.doubles
    (handed_left (shape_of l.code) l.msb 0 l.held))
