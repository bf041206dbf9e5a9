-- `sampling::value_at` meets its contract: the value of what stands there, of the type's width. Assumes nothing.
use Rattle.std.proofs.Common.{◌≡◌, refl, sym, ap, subst, ◌∙◌, arith, rules}
use mir.Syntax.{w16, w32}
use mir.Val.{SFits, to_z, of_z}
use mir.ValLaws.{to_z-of_z}
use Rattle.order.specs.Order.{signed_of}
use Rattle.layout.specs.Families.{wide, narrow, encoded}
use Rattle.samples16.proofs.Laws.{widens}
use Rattle.pings.proofs.Parts.{arm_u, arm_c}
use Rattle.sampling.proofs.Walking.{codes-left, room}
use Rattle.sampling.proofs.Values.{plain-valued, word-there}
use Rattle.sampling.proofs.value_at.Goals as goal

pub read4-requires : goal.read4-requires
read4-requires c = omega (arith, room (arm_u wide refl c.in-10000.is) c.args.at c.requires.code_in_bounds)

pub read4-requires-in-10010 : goal.read4-requires-in-10010
read4-requires-in-10010 c = omega (arith, room (arm_c wide refl c.in-10010.is) c.args.at c.requires.code_in_bounds)

pub read2-requires : goal.read2-requires
read2-requires c = omega (arith, room (arm_u narrow refl c.in-10030.is) c.args.at c.requires.code_in_bounds)

pub returns-in-10000 : goal.returns-in-10000
returns-in-10000 c =
    let q = arm_u wide refl c.in-10000.is in
    let v = to_z-of_z w32 c.signed4.result (search rules) ∙ c.signed4.ensures ∙ ap (signed_of 4) c.read4.ensures in
    plain-valued wide _ _ _ q refl (room q c.args.at c.requires.code_in_bounds) v

pub returns-in-10010 : goal.returns-in-10010
returns-in-10010 c =
    let q = arm_c wide refl c.in-10010.is in
    word-there wide _ _ _ q (room q c.args.at c.requires.code_in_bounds) c.read4-in-10010.ensures c.wide_value.ensures

pub returns-in-10030 : goal.returns-in-10030
returns-in-10030 c =
    let q = arm_u narrow refl c.in-10030.is in
    let held : to_z w16 (of_z w16 c.signed2.result) ≡ c.signed2.result = to_z-of_z w16 c.signed2.result (search rules) in
    let fits = subst (SFits w32) (sym held) (record { sfits = widens c.signed2.result c.signed2.type_inv }) in
    let v = to_z-of_z w32 _ fits ∙ held ∙ c.signed2.ensures ∙ ap (signed_of 2) c.read2.ensures in
    plain-valued narrow _ _ _ q refl (room q c.args.at c.requires.code_in_bounds) v

pub returns-in-10040 : goal.returns-in-10040
returns-in-10040 c =
    let q = arm_c narrow refl c.in-10040.is in
    word-there narrow _ _ _ q (room q c.args.at c.requires.code_in_bounds) c.read2-in-10040.ensures c.narrow_value.ensures

pub returns-in_default : goal.returns-in_default
returns-in_default c =
    let q = codes-left c.args.code c.requires.code_value (search rules) in
    word-there encoded _ _ _ q (room q c.args.at c.requires.code_in_bounds) c.read2-in_default.ensures c.narrow_value-in_default.ensures
