-- `ping_writers::write_ce16` meets its contract: what the rules say of the lists, or the ping behind its opening. Assumes nothing.
use Rattle.std.proofs.Common.{◌≡◌, ◌+◌, ◌*◌, ◌-◌, ◌≤◌, refl, sym, ap, ◌∙◌, length, arith, w32, to_z-of_z}
use lib.Seq.{length-sets}
use Rattle.std.proofs.lemmas.Result.{err_from_is_err_and}
use Rattle.layout.specs.Views.{as_answer}
use Rattle.layout.specs.Families.{encoded}
use Rattle.pings.specs.Headers.{handed_length}
use Rattle.ping_writers.proofs.Packed.{Ready, room_by, rising-by, refused_c, ready_c, written_c, end_by, worded-by}
use Rattle.ping_writers.proofs.write_ce16.Goals as goal

pub returns-in_err-said : goal.returns-in_err-said
returns-in_err-said c =
    let a = c.args in
    let p = err_from_is_err_and c.from_residual.result c.from_residual.ensures.1 in
    rw (p.1, p.2) (refused_c encoded a.numbers.now a.counts.now (handed_length a.length) a.out.now _ c.first_codeless-codeless.ensures _ (sym (ap as_answer c.in_err-said.was) ∙ c.judge_packed.ensures) a.msb a.header a.attribute refl)

pub quiet_behind-quiet-requires : goal.quiet_behind-quiet-requires
quiet_behind-quiet-requires c =
    let a = c.args in
    let r = ready_c encoded a.numbers.now a.counts.now (handed_length a.length) a.out.now _ c.first_codeless-codeless.ensures _ c.judge_packed.ensures (ap as_answer c.in_ok-said.was) in
    r.long

pub write_packed_opening-requires-clause-in_bounds : goal.write_packed_opening-requires-clause-in_bounds
write_packed_opening-requires-clause-in_bounds c =
    let a = c.args in
    let r = ready_c encoded a.numbers.now a.counts.now (handed_length a.length) a.out.now _ c.first_codeless-codeless.ensures _ c.judge_packed.ensures (ap as_answer c.in_ok-said.was) in
    omega (arith, r.whole, r.fits)

pub write_packed_opening-requires-clause-le_whole : goal.write_packed_opening-requires-clause-le_whole
write_packed_opening-requires-clause-le_whole c =
    let a = c.args in
    let r = ready_c encoded a.numbers.now a.counts.now (handed_length a.length) a.out.now _ c.first_codeless-codeless.ensures _ c.judge_packed.ensures (ap as_answer c.in_ok-said.was) in
    (omega (arith, r.whole), omega (arith, r.short))

pub write_packed_opening-requires-clause-n_bound : goal.write_packed_opening-requires-clause-n_bound
write_packed_opening-requires-clause-n_bound c =
    let a = c.args in
    let r = ready_c encoded a.numbers.now a.counts.now (handed_length a.length) a.out.now _ c.first_codeless-codeless.ensures _ c.judge_packed.ensures (ap as_answer c.in_ok-said.was) in
    omega (arith, r.few)

pub write_codes-end-requires-clause-counts_len : goal.write_codes-end-requires-clause-counts_len
write_codes-end-requires-clause-counts_len c =
    let a = c.args in
    let r = ready_c encoded a.numbers.now a.counts.now (handed_length a.length) a.out.now _ c.first_codeless-codeless.ensures _ c.judge_packed.ensures (ap as_answer c.in_ok-said.was) in
    r.equal

pub write_codes-end-requires-clause-counts_value : goal.write_codes-end-requires-clause-counts_value
write_codes-end-requires-clause-counts_value c =
    let a = c.args in
    let r = ready_c encoded a.numbers.now a.counts.now (handed_length a.length) a.out.now _ c.first_codeless-codeless.ensures _ c.judge_packed.ensures (ap as_answer c.in_ok-said.was) in
    rising-by encoded a.numbers.now a.counts.now (handed_length a.length) r.equal r.rising

pub write_codes-end-requires-clause-counts_value_2 : goal.write_codes-end-requires-clause-counts_value_2
write_codes-end-requires-clause-counts_value_2 c =
    let a = c.args in
    let r = ready_c encoded a.numbers.now a.counts.now (handed_length a.length) a.out.now _ c.first_codeless-codeless.ensures _ c.judge_packed.ensures (ap as_answer c.in_ok-said.was) in
    worded-by encoded a.numbers.now a.counts.now (handed_length a.length) r.equal c.first_codeless-codeless.ensures r.worded

pub write_codes-end-requires-clause-quiet_in_bounds : goal.write_codes-end-requires-clause-quiet_in_bounds
write_codes-end-requires-clause-quiet_in_bounds c =
    let a = c.args in
    let r = ready_c encoded a.numbers.now a.counts.now (handed_length a.length) a.out.now _ c.first_codeless-codeless.ensures _ c.judge_packed.ensures (ap as_answer c.in_ok-said.was) in
    let room : c.in_ok-said.said.written ≤ length c.write_packed_opening.new.out = rw (c.write_packed_opening.ensures, length-sets, length-sets) r.fits in
    room_by encoded a.numbers.now a.counts.now (handed_length a.length) r.equal c.quiet_behind-quiet.ensures.value (omega (arith, r.whole, room))

pub write_closing-requires-clause-end_bound : goal.write_closing-requires-clause-end_bound
write_closing-requires-clause-end_bound c =
    let a = c.args in
    let r = ready_c encoded a.numbers.now a.counts.now (handed_length a.length) a.out.now _ c.first_codeless-codeless.ensures _ c.judge_packed.ensures (ap as_answer c.in_ok-said.was) in
    end_by encoded a.numbers.now a.counts.now (handed_length a.length) r.equal c.quiet_behind-quiet.ensures.value c.write_codes-end.ensures.value r.whole

pub write_closing-requires-clause-whole_in_bounds : goal.write_closing-requires-clause-whole_in_bounds
write_closing-requires-clause-whole_in_bounds c =
    let a = c.args in
    let r = ready_c encoded a.numbers.now a.counts.now (handed_length a.length) a.out.now _ c.first_codeless-codeless.ensures _ c.judge_packed.ensures (ap as_answer c.in_ok-said.was) in
    (omega (arith, r.fits), omega (arith, r.short))

pub returns : goal.returns
returns c =
    let a = c.args in
    written_c encoded a.numbers.now a.counts.now (handed_length a.length) a.out.now _ c.first_codeless-codeless.ensures _ (sym (ap as_answer c.in_ok-said.was) ∙ c.judge_packed.ensures)
    a.msb a.header a.attribute c.write_codes-end.result _ _ refl c.quiet_behind-quiet.ensures.value c.write_codes-end.ensures.value
    (rw (c.write_closing.ensures, c.write_codes-end.ensures.out_after, c.write_packed_opening.ensures, to_z-of_z {w = w32} {z = a.attribute} c.ranges.attribute))
