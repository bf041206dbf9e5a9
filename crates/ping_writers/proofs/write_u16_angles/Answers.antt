-- `ping_writers::write_u16_angles` meets its contract: what the rules say of the lists, or the ping behind its opening. Assumes nothing.
use Rattle.std.proofs.Common.{◌≡◌, ◌+◌, ◌*◌, ◌-◌, ◌≤◌, refl, sym, ap, ◌∙◌, length, arith, w32, to_z-of_z}
use Rattle.std.proofs.lemmas.Result.{err_from_is_err_and}
use Rattle.layout.specs.Views.{as_answer}
use Rattle.layout.specs.Families.{narrow_angles}
use Rattle.ping_writers.proofs.Plain.{Ready, refused_a, ready_a, written_a}
use Rattle.ping_writers.proofs.write_u16_angles.Goals as goal

pub returns-in_err-counts : goal.returns-in_err-counts
returns-in_err-counts c =
    let a = c.args in
    let p = err_from_is_err_and c.from_residual.result c.from_residual.ensures.1 in
    rw (p.1, p.2) (refused_a narrow_angles a.numbers.now a.alongship.now a.athwartship.now a.out.now _ c.same-equal.ensures _ _ _ c.min.ensures c.min-least.ensures
    c.first_drop-first.ensures _ (sym (ap as_answer c.in_err-counts.was) ∙ c.judge_plain.ensures) a.msb a.header a.attribute refl)

pub write_opening-requires-clause-in_bounds : goal.write_opening-requires-clause-in_bounds
write_opening-requires-clause-in_bounds c =
    let a = c.args in
    let r = ready_a narrow_angles a.numbers.now a.alongship.now a.athwartship.now a.out.now _ c.same-equal.ensures _ _ _ c.min.ensures c.min-least.ensures
    c.first_drop-first.ensures _ c.judge_plain.ensures (ap as_answer c.in_ok-counts.was) in
    omega (arith, r.2.few, r.2.whole, r.2.fits)

pub write_opening-requires-clause-le_whole : goal.write_opening-requires-clause-le_whole
write_opening-requires-clause-le_whole c =
    let a = c.args in
    let r = ready_a narrow_angles a.numbers.now a.alongship.now a.athwartship.now a.out.now _ c.same-equal.ensures _ _ _ c.min.ensures c.min-least.ensures
    c.first_drop-first.ensures _ c.judge_plain.ensures (ap as_answer c.in_ok-counts.was) in
    (omega (arith, r.2.few, r.2.whole), omega (arith, r.2.few, r.2.whole))

pub write_narrow_angles-requires-clause-alongship_len : goal.write_narrow_angles-requires-clause-alongship_len
write_narrow_angles-requires-clause-alongship_len c =
    let a = c.args in
    let r = ready_a narrow_angles a.numbers.now a.alongship.now a.athwartship.now a.out.now _ c.same-equal.ensures _ _ _ c.min.ensures c.min-least.ensures
    c.first_drop-first.ensures _ c.judge_plain.ensures (ap as_answer c.in_ok-counts.was) in
    r.0

pub write_narrow_angles-requires-clause-athwartship_len : goal.write_narrow_angles-requires-clause-athwartship_len
write_narrow_angles-requires-clause-athwartship_len c =
    let a = c.args in
    let r = ready_a narrow_angles a.numbers.now a.alongship.now a.athwartship.now a.out.now _ c.same-equal.ensures _ _ _ c.min.ensures c.min-least.ensures
    c.first_drop-first.ensures _ c.judge_plain.ensures (ap as_answer c.in_ok-counts.was) in
    r.1

pub write_narrow_angles-requires-clause-numbers_in_bounds : goal.write_narrow_angles-requires-clause-numbers_in_bounds
write_narrow_angles-requires-clause-numbers_in_bounds c =
    let a = c.args in
    let r = ready_a narrow_angles a.numbers.now a.alongship.now a.athwartship.now a.out.now _ c.same-equal.ensures _ _ _ c.min.ensures c.min-least.ensures
    c.first_drop-first.ensures _ c.judge_plain.ensures (ap as_answer c.in_ok-counts.was) in
    omega (arith, r.2.whole, r.2.fits)

pub overflow_mul-n : goal.overflow_mul-n
overflow_mul-n c =
    let a = c.args in
    let r = ready_a narrow_angles a.numbers.now a.alongship.now a.athwartship.now a.out.now _ c.same-equal.ensures _ _ _ c.min.ensures c.min-least.ensures
    c.first_drop-first.ensures _ c.judge_plain.ensures (ap as_answer c.in_ok-counts.was) in
    omega (arith, r.2.few)

pub overflow_add-n : goal.overflow_add-n
overflow_add-n c =
    let a = c.args in
    let r = ready_a narrow_angles a.numbers.now a.alongship.now a.athwartship.now a.out.now _ c.same-equal.ensures _ _ _ c.min.ensures c.min-least.ensures
    c.first_drop-first.ensures _ c.judge_plain.ensures (ap as_answer c.in_ok-counts.was) in
    omega (arith, r.2.few)

pub write_closing-requires-clause-end_bound : goal.write_closing-requires-clause-end_bound
write_closing-requires-clause-end_bound c =
    let a = c.args in
    let r = ready_a narrow_angles a.numbers.now a.alongship.now a.athwartship.now a.out.now _ c.same-equal.ensures _ _ _ c.min.ensures c.min-least.ensures
    c.first_drop-first.ensures _ c.judge_plain.ensures (ap as_answer c.in_ok-counts.was) in
    (omega (arith, r.2.whole), omega (arith, r.2.whole), omega (arith, r.2.whole))

pub write_closing-requires-clause-whole_in_bounds : goal.write_closing-requires-clause-whole_in_bounds
write_closing-requires-clause-whole_in_bounds c =
    let a = c.args in
    let r = ready_a narrow_angles a.numbers.now a.alongship.now a.athwartship.now a.out.now _ c.same-equal.ensures _ _ _ c.min.ensures c.min-least.ensures
    c.first_drop-first.ensures _ c.judge_plain.ensures (ap as_answer c.in_ok-counts.was) in
    (omega (arith, r.2.fits), omega (arith, r.2.few, r.2.whole))

pub returns : goal.returns
returns c =
    let a = c.args in
    written_a narrow_angles a.numbers.now a.alongship.now a.athwartship.now a.out.now _ c.same-equal.ensures _ _ _ c.min.ensures c.min-least.ensures
    c.first_drop-first.ensures _ (sym (ap as_answer c.in_ok-counts.was) ∙ c.judge_plain.ensures)
    a.msb a.header a.attribute (24 + 6 * length a.numbers.now) _ refl (omega arith)
    (rw (c.write_closing.ensures, c.write_narrow_angles.ensures, c.write_opening.ensures, to_z-of_z {w = w32} {z = a.attribute} c.ranges.attribute))
