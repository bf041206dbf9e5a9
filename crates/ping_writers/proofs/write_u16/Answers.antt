-- `ping_writers::write_u16` meets its contract: what the rules say of the lists, or the ping behind its opening. Assumes nothing.
use Rattle.std.proofs.Common.{◌≡◌, ◌+◌, ◌*◌, ◌-◌, ◌≤◌, refl, sym, ap, ◌∙◌, length, arith, w32, to_z-of_z}
use Rattle.std.proofs.lemmas.Result.{err_from_is_err_and}
use Rattle.layout.specs.Views.{as_answer}
use Rattle.layout.specs.Families.{narrow}
use Rattle.ping_writers.proofs.Plain.{Ready, refused_u, ready_u, written_u}
use Rattle.ping_writers.proofs.write_u16.Goals as goal

pub returns-in_err-counts : goal.returns-in_err-counts
returns-in_err-counts c =
    let a = c.args in
    let p = err_from_is_err_and c.from_residual.result c.from_residual.ensures.1 in
    rw (p.1, p.2) (refused_u narrow a.numbers.now a.values.now a.out.now _ _ c.min-least.ensures c.first_drop-first.ensures _ (sym (ap as_answer c.in_err-counts.was) ∙ c.judge_plain.ensures) a.msb a.header a.attribute refl)

pub write_opening-requires-clause-in_bounds : goal.write_opening-requires-clause-in_bounds
write_opening-requires-clause-in_bounds c =
    let a = c.args in
    let r = ready_u narrow a.numbers.now a.values.now a.out.now _ _ c.min-least.ensures c.first_drop-first.ensures _ c.judge_plain.ensures (ap as_answer c.in_ok-counts.was) in
    omega (arith, r.1.few, r.1.whole, r.1.fits)

pub write_opening-requires-clause-le_whole : goal.write_opening-requires-clause-le_whole
write_opening-requires-clause-le_whole c =
    let a = c.args in
    let r = ready_u narrow a.numbers.now a.values.now a.out.now _ _ c.min-least.ensures c.first_drop-first.ensures _ c.judge_plain.ensures (ap as_answer c.in_ok-counts.was) in
    (omega (arith, r.1.few, r.1.whole), omega (arith, r.1.few, r.1.whole))

pub write_pairs-requires-clause-values_len : goal.write_pairs-requires-clause-values_len
write_pairs-requires-clause-values_len c =
    let a = c.args in
    let r = ready_u narrow a.numbers.now a.values.now a.out.now _ _ c.min-least.ensures c.first_drop-first.ensures _ c.judge_plain.ensures (ap as_answer c.in_ok-counts.was) in
    r.0

pub write_pairs-requires-clause-numbers_in_bounds : goal.write_pairs-requires-clause-numbers_in_bounds
write_pairs-requires-clause-numbers_in_bounds c =
    let a = c.args in
    let r = ready_u narrow a.numbers.now a.values.now a.out.now _ _ c.min-least.ensures c.first_drop-first.ensures _ c.judge_plain.ensures (ap as_answer c.in_ok-counts.was) in
    omega (arith, r.1.whole, r.1.fits)

pub overflow_mul-n : goal.overflow_mul-n
overflow_mul-n c =
    let a = c.args in
    let r = ready_u narrow a.numbers.now a.values.now a.out.now _ _ c.min-least.ensures c.first_drop-first.ensures _ c.judge_plain.ensures (ap as_answer c.in_ok-counts.was) in
    omega (arith, r.1.few)

pub overflow_add-n : goal.overflow_add-n
overflow_add-n c =
    let a = c.args in
    let r = ready_u narrow a.numbers.now a.values.now a.out.now _ _ c.min-least.ensures c.first_drop-first.ensures _ c.judge_plain.ensures (ap as_answer c.in_ok-counts.was) in
    omega (arith, r.1.few)

pub write_closing-requires-clause-end_bound : goal.write_closing-requires-clause-end_bound
write_closing-requires-clause-end_bound c =
    let a = c.args in
    let r = ready_u narrow a.numbers.now a.values.now a.out.now _ _ c.min-least.ensures c.first_drop-first.ensures _ c.judge_plain.ensures (ap as_answer c.in_ok-counts.was) in
    (omega (arith, r.1.whole), omega (arith, r.1.whole), omega (arith, r.1.whole))

pub write_closing-requires-clause-whole_in_bounds : goal.write_closing-requires-clause-whole_in_bounds
write_closing-requires-clause-whole_in_bounds c =
    let a = c.args in
    let r = ready_u narrow a.numbers.now a.values.now a.out.now _ _ c.min-least.ensures c.first_drop-first.ensures _ c.judge_plain.ensures (ap as_answer c.in_ok-counts.was) in
    (omega (arith, r.1.fits), omega (arith, r.1.few, r.1.whole))

pub returns : goal.returns
returns c =
    let a = c.args in
    written_u narrow a.numbers.now a.values.now a.out.now _ _ c.min-least.ensures c.first_drop-first.ensures _ (sym (ap as_answer c.in_ok-counts.was) ∙ c.judge_plain.ensures)
    a.msb a.header a.attribute (24 + 4 * length a.numbers.now) _ refl (omega arith)
    (rw (c.write_closing.ensures, c.write_pairs.ensures, c.write_opening.ensures, to_z-of_z {w = w32} {z = a.attribute} c.ranges.attribute))
