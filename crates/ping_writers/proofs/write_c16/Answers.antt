-- `ping_writers::write_c16` meets its contract: what the rules say of the lists, or the ping behind its opening. Assumes nothing.
use Rattle.std.proofs.Common.{◌≡◌, ◌+◌, ◌*◌, ◌-◌, ◌≤◌, refl, sym, ap, ◌∙◌, length, arith, w32, to_z-of_z}
use lib.Seq.{length-sets}
use Rattle.std.proofs.lemmas.Result.{err_from_is_err_and}
use Rattle.layout.specs.Views.{as_answer}
use Rattle.layout.specs.Families.{narrow}
use Rattle.pings.specs.Headers.{handed_length}
use Rattle.ping_writers.proofs.Packed.{Ready, room_by, rising-by, refused_c, ready_c, written_c, end_by}
use Rattle.ping_writers.proofs.write_c16.Goals as goal

pub returns-in_err-counts : goal.returns-in_err-counts
returns-in_err-counts c =
    let a = c.args in
    let p = err_from_is_err_and c.from_residual.result c.from_residual.ensures.1 in
    rw (p.1, p.2) (refused_c narrow a.numbers.now a.values.now (handed_length a.length) a.out.now _ c.first_wordless-wordless.ensures _ (sym (ap as_answer c.in_err-counts.was) ∙ c.judge_packed.ensures) a.msb a.header a.attribute refl)

pub quiet_behind-quiet-requires : goal.quiet_behind-quiet-requires
quiet_behind-quiet-requires c =
    let a = c.args in
    let r = ready_c narrow a.numbers.now a.values.now (handed_length a.length) a.out.now _ c.first_wordless-wordless.ensures _ c.judge_packed.ensures (ap as_answer c.in_ok-counts.was) in
    r.long

pub write_packed_opening-requires-clause-in_bounds : goal.write_packed_opening-requires-clause-in_bounds
write_packed_opening-requires-clause-in_bounds c =
    let a = c.args in
    let r = ready_c narrow a.numbers.now a.values.now (handed_length a.length) a.out.now _ c.first_wordless-wordless.ensures _ c.judge_packed.ensures (ap as_answer c.in_ok-counts.was) in
    omega (arith, r.whole, r.fits)

pub write_packed_opening-requires-clause-le_whole : goal.write_packed_opening-requires-clause-le_whole
write_packed_opening-requires-clause-le_whole c =
    let a = c.args in
    let r = ready_c narrow a.numbers.now a.values.now (handed_length a.length) a.out.now _ c.first_wordless-wordless.ensures _ c.judge_packed.ensures (ap as_answer c.in_ok-counts.was) in
    (omega (arith, r.whole), omega (arith, r.short))

pub write_packed_opening-requires-clause-n_bound : goal.write_packed_opening-requires-clause-n_bound
write_packed_opening-requires-clause-n_bound c =
    let a = c.args in
    let r = ready_c narrow a.numbers.now a.values.now (handed_length a.length) a.out.now _ c.first_wordless-wordless.ensures _ c.judge_packed.ensures (ap as_answer c.in_ok-counts.was) in
    omega (arith, r.few)

pub write_words-end-requires-clause-values_len : goal.write_words-end-requires-clause-values_len
write_words-end-requires-clause-values_len c =
    let a = c.args in
    let r = ready_c narrow a.numbers.now a.values.now (handed_length a.length) a.out.now _ c.first_wordless-wordless.ensures _ c.judge_packed.ensures (ap as_answer c.in_ok-counts.was) in
    r.equal

pub write_words-end-requires-clause-values_value : goal.write_words-end-requires-clause-values_value
write_words-end-requires-clause-values_value c =
    let a = c.args in
    let r = ready_c narrow a.numbers.now a.values.now (handed_length a.length) a.out.now _ c.first_wordless-wordless.ensures _ c.judge_packed.ensures (ap as_answer c.in_ok-counts.was) in
    rising-by narrow a.numbers.now a.values.now (handed_length a.length) r.equal r.rising

pub write_words-end-requires-clause-quiet_in_bounds : goal.write_words-end-requires-clause-quiet_in_bounds
write_words-end-requires-clause-quiet_in_bounds c =
    let a = c.args in
    let r = ready_c narrow a.numbers.now a.values.now (handed_length a.length) a.out.now _ c.first_wordless-wordless.ensures _ c.judge_packed.ensures (ap as_answer c.in_ok-counts.was) in
    let room : c.in_ok-counts.counts.written ≤ length c.write_packed_opening.new.out = rw (c.write_packed_opening.ensures, length-sets, length-sets) r.fits in
    room_by narrow a.numbers.now a.values.now (handed_length a.length) r.equal c.quiet_behind-quiet.ensures.value (omega (arith, r.whole, room))

pub write_closing-requires-clause-end_bound : goal.write_closing-requires-clause-end_bound
write_closing-requires-clause-end_bound c =
    let a = c.args in
    let r = ready_c narrow a.numbers.now a.values.now (handed_length a.length) a.out.now _ c.first_wordless-wordless.ensures _ c.judge_packed.ensures (ap as_answer c.in_ok-counts.was) in
    end_by narrow a.numbers.now a.values.now (handed_length a.length) r.equal c.quiet_behind-quiet.ensures.value c.write_words-end.ensures.value r.whole

pub write_closing-requires-clause-whole_in_bounds : goal.write_closing-requires-clause-whole_in_bounds
write_closing-requires-clause-whole_in_bounds c =
    let a = c.args in
    let r = ready_c narrow a.numbers.now a.values.now (handed_length a.length) a.out.now _ c.first_wordless-wordless.ensures _ c.judge_packed.ensures (ap as_answer c.in_ok-counts.was) in
    (omega (arith, r.fits), omega (arith, r.short))

pub returns : goal.returns
returns c =
    let a = c.args in
    written_c narrow a.numbers.now a.values.now (handed_length a.length) a.out.now _ c.first_wordless-wordless.ensures _ (sym (ap as_answer c.in_ok-counts.was) ∙ c.judge_packed.ensures)
    a.msb a.header a.attribute c.write_words-end.result _ _ refl c.quiet_behind-quiet.ensures.value c.write_words-end.ensures.value
    (rw (c.write_closing.ensures, c.write_words-end.ensures.out_after, c.write_packed_opening.ensures, to_z-of_z {w = w32} {z = a.attribute} c.ranges.attribute))
