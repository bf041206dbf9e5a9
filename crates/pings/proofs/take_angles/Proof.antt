-- `pings::take_angles` meets its contract: each type's angles are read by their reader. Assumes nothing.
use mathlib.Core.Path.{refl}
use mathlib.Core.List.{[], ◌∷◌}
use borrow.Author.Rules.{rules}
use Rattle.layout.specs.Families.{wide_angles, narrow_angles}
use Rattle.layout.specs.Types.{listings}
use Rattle.samples.specs.Words.{all_samples}
use Rattle.tuples.proofs.Codes.{angled, last_code}
use Rattle.pings.proofs.Parts.{arm_u, Says, says_plain, says_angle_room, says-angles}
use Rattle.pings.proofs.take_angles.Statement.{statement}
use Rattle.pings.proofs.take_angles.Tie as tie

abbrev start : tie.After-slice_known-1 → tie.Start
start k = k.before.before

-- what each reader reads is what the part says; behind the arm the second type is left
of-wide : (m : tie.In-10001) → let a = (start m.before).args in
    Says a.code a.msb a.part.now 2 (all_samples wide_angles a.msb a.part.now)
of-wide m = says_plain _ _ _ wide_angles (arm_u wide_angles refl m.in-10001.is)

of_narrow : (m : tie.In_default) → let a = (start m.before).args in
    Says a.code a.msb a.part.now 2 (all_samples narrow_angles a.msb a.part.now)
unfolding listings
of_narrow m =
    let s = start m.before in
    says_plain _ _ _ narrow_angles
    (arm_u narrow_angles refl (last_code angled s.args.code 10031 (10001 ∷ []) refl m.in_default.in_default-own.rest s.requires.0))

read-wide-requires : tie.Need-read_wide-requires
read-wide-requires c κs = let m = c.before.before.before in says_angle_room (of-wide m) (start m.before).requires.1

read-narrow-requires : tie.Need-read_narrow-requires
read-narrow-requires c κs = let m = c.before.before.before in says_angle_room (of_narrow m) (start m.before).requires.1

returns : tie.Need-returns-in-10001
returns c =
    let r = c.before.before.before.before in
    let m = r.before.before.before.before in
    let a = (start m.before).args in
    let e = r.read_wide.ensures in
    says-angles (of-wide m) a.numbers.now a.alongship.now a.athwartship.now e.0 e.1.0 e.1.1

returns-2 : tie.Need-returns-in_default
returns-2 c =
    let r = c.before.before.before.before in
    let m = r.before.before.before.before in
    let a = (start m.before).args in
    let e = r.read_narrow.ensures in
    says-angles (of_narrow m) a.numbers.now a.alongship.now a.athwartship.now e.0 e.1.0 e.1.1

pub take_angles_spec : {M : Type 1} → statement M
take_angles_spec =
    tie.close
    (tie.spec
    read-wide-requires
    read-narrow-requires
    (λ c. search rules)
    (λ c. search rules)
    (λ c. search rules)
    returns
    (λ c. search rules)
    (λ c. search rules)
    (λ c. search rules)
    returns-2)
