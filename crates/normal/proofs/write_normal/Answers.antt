-- `normal::write_normal` meets its contract: with the forms still to come, the memory is the whole normal form (`Writing`).
-- Assumes nothing.
use Rattle.std.proofs.Common.{◌∙◌, arith}
use Rattle.order.proofs.Laws.{bytes_of_lem}
use Rattle.frame.specs.Files.{mark}
use Rattle.frame.proofs.Onward.{passes-below, passes-whole, passes-code, passes-next, passes-file, passes-msb, passed-all}
use Rattle.intake.proofs.Loops.{accepted_4}
use Rattle.normal.proofs.Pieces.{normal-length}
use Rattle.normal.proofs.Writing.{marked-out, writing-begin, writing-length, writing-done, writing-sound, writing-room}
use Rattle.normal.proofs.Writing.{writing-whole, writing-again}
use Rattle.normal.proofs.write_normal.Goals as goal

pub store4-requires : goal.store4-requires
store4-requires c = omega (arith, normal-length c.args.file.now, c.requires.writable.enough)

pub is_msb-msb-requires : goal.is_msb-msb-requires
is_msb-msb-requires c = accepted_4 _ c.requires.writable.accepts

pub loop-tuple-init : goal.loop-tuple-init
unfolding mark
loop-tuple-init c =
    let i = c.into_iter-tuple-iterator.ensures.into_iter_gives in
    let b = c.behind_mark-tuple-items.ensures in
    let w = writing-begin _ _ c.args.out.now _ _ c.requires.flags_value (bytes_of_lem _ (λ n. (c.type_inv.file n).fits)) c.store4.ensures c.requires.writable c.is_msb-msb.ensures in
    rw i (tt, tt, b.from.0, b.order, rw b.from.1 w)

pub write_piece-to-requires : goal.write_piece-to-requires
write_piece-to-requires c =
    let i = c.loop-tuple.invariant in
    let p = c.in-Some.ensures.steps in
    let h = passes-below _ _ _ p _ _ i.2 i.3 in
    let sound = writing-sound _ _ _ _ _ _ _ i.4 h in
    record {
      sound_here = rw (p.at, passes-whole _ _ _ p _ _ i.2 i.3, passes-code _ _ _ p _ _ i.2 i.3) sound;
      file_in_bounds = rw p.at (writing-room _ _ _ _ _ _ _ i.4 h);
    }

pub overflow_add-to : goal.overflow_add-to
overflow_add-to c =
    let i = c.loop-tuple.invariant in
    let p = c.in-Some.ensures.steps in
    let h = passes-below _ _ _ p _ _ i.2 i.3 in
    omega (
      arith,
      writing-room _ _ _ _ _ _ _ i.4 h,
      writing-length _ _ _ _ _ _ _ i.4,
      c.store4.auto.out,
      (rw p.at at c.write_piece-to.ensures.value),
    )

pub loop-tuple-preserved : goal.loop-tuple-preserved
loop-tuple-preserved c =
    let i = c.loop-tuple.invariant in
    let p = c.in-Some.ensures.steps in
    let e = c.write_piece-to.ensures in (
      tt,
      tt,
      passes-file _ _ _ p _ _ i.2 i.3,
      passes-msb _ _ _ p _ _ i.2 i.3,
      rw (passes-next _ _ _ p _ _ i.2 i.3)
          (writing-again _ _ _ _ _ _ _ i.4 (passes-below _ _ _ p _ _ i.2 i.3) _ _ _ (passes-whole _ _ _ p _ _ i.2 i.3) (rw p.at at e.value)
          (rw p.at at e.out_after)),
    )

pub returns : goal.returns
unfolding mark
returns c =
    let i = c.loop-tuple.invariant in
    let s = c.loop-tuple.tuple-iterator in
    let over = passed-all s _ _ i.2 i.3 c.in-None.ensures.steps (λ h. writing-whole _ _ _ _ _ _ _ i.4 h) in
    writing-done _ _ _ _ _ _ _ i.4 (omega (arith, over))
    ∙ rw (c.store4.ensures, c.requires.flags_value)
    (marked-out c.args.file.now c.args.out.now (bytes_of_lem _ (λ n. (c.type_inv.file n).fits)) c.requires.writable.accepts)
