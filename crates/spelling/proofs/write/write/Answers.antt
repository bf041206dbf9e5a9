-- A sample's gap, and behind it the word of its value, are the first words that are left.
use Rattle.std.proofs.Common.{refl, drop_of_length-le, arith}
use Rattle.spelling.proofs.Left.{unwritten_as, unwritten-room, unwritten_one, unwritten-room_some, unwritten_some, unwritten_last}
use Rattle.spelling.proofs.Left.{unwritten_end}
use Rattle.spelling.proofs.Handed.{handed-rises, handed-rise, handed-next, handed-end, left-at, left-is}
use Rattle.spelling.proofs.write.write.Goals as goal

pub loop-i-init : goal.loop-i-init
loop-i-init g c =
    record {
      rises = handed-rises g.V.Handed.number g.V.Handed.kind c.args.numbers.now c.args.values.now c.requires.values_len
          c.requires.values_value;
      rest = record { long = refl; ends = refl; bytes = refl };
    }

pub overflow_sub-number : goal.overflow_sub-number
overflow_sub-number g c =
    let l = c.loop-i in
    let n = left-at c.args.numbers.now l.i 0 (omega arith) in
    let v = left-is c.args.values.now l.i c.index-values-i.result (omega arith) c.index-values-i.is in
    (handed-rise g.V.Handed.number g.V.Handed.kind n v l.invariant.rises).0

pub write_gap-behind-requires : goal.write_gap-behind-requires
write_gap-behind-requires g c =
    let l = c.loop-i in
    let n = left-at c.args.numbers.now l.i 0 (omega arith) in
    let v = left-is c.args.values.now l.i c.index-values-i.result (omega arith) c.index-values-i.is in
    let e = handed-next g.V.Handed.number g.V.Handed.kind n v g.W.Words.FULL l.next c.args.quiet _ c.word-word.ensures in
    unwritten-room_some _ _ (unwritten_as e l.invariant.rest) c.requires.quiet_in_bounds

pub store-requires : goal.store-requires
store-requires g c =
    let l = c.loop-i in
    let n = left-at c.args.numbers.now l.i 0 (omega arith) in
    let v = left-is c.args.values.now l.i c.index-values-i.result (omega arith) c.index-values-i.is in
    let e = handed-next g.V.Handed.number g.V.Handed.kind n v g.W.Words.FULL l.next c.args.quiet _ c.word-word.ensures in
    let w = c.write_gap-behind in
    unwritten-room (unwritten_some _ _ (unwritten_as e l.invariant.rest) w.auto.out w.ensures.out_after w.ensures.value)
    c.requires.quiet_in_bounds

pub overflow_add-to : goal.overflow_add-to
overflow_add-to g c =
    let l = c.loop-i in
    let n = left-at c.args.numbers.now l.i 0 (omega arith) in
    let v = left-is c.args.values.now l.i c.index-values-i.result (omega arith) c.index-values-i.is in
    let e = handed-next g.V.Handed.number g.V.Handed.kind n v g.W.Words.FULL l.next c.args.quiet _ c.word-word.ensures in
    let w = c.write_gap-behind in
    let r = unwritten-room (unwritten_some _ _ (unwritten_as e l.invariant.rest) w.auto.out w.ensures.out_after w.ensures.value)
    c.requires.quiet_in_bounds in
    omega (arith, r, c.WORD.ensures)

pub loop-i-preserved : goal.loop-i-preserved
loop-i-preserved g c =
    let l = c.loop-i in
    let n = left-at c.args.numbers.now l.i 0 (omega arith) in
    let v = left-is c.args.values.now l.i c.index-values-i.result (omega arith) c.index-values-i.is in
    let e = handed-next g.V.Handed.number g.V.Handed.kind n v g.W.Words.FULL l.next c.args.quiet _ c.word-word.ensures in
    let w = c.write_gap-behind in
    let h = unwritten_some _ _ (unwritten_as e l.invariant.rest) w.auto.out w.ensures.out_after w.ensures.value in
    record {
      rises = (handed-rise g.V.Handed.number g.V.Handed.kind n v l.invariant.rises).1;
      rest = rw c.WORD.ensures (unwritten_one h c.store.auto.out c.store.ensures);
    }

pub write_gap-requires : goal.write_gap-requires
write_gap-requires g c =
    let l = c.loop-i in
    let e = handed-end g.V.Handed.number g.V.Handed.kind g.W.Words.FULL l.next c.args.quiet _ _
    (drop_of_length-le c.args.numbers.now c.loop-i-test.false) in
    let h = unwritten_as e l.invariant.rest in
    omega (arith, h.long, h.ends, c.requires.quiet_in_bounds)

pub returns : goal.returns
returns g c =
    let l = c.loop-i in
    let e = handed-end g.V.Handed.number g.V.Handed.kind g.W.Words.FULL l.next c.args.quiet _ _
    (drop_of_length-le c.args.numbers.now c.loop-i-test.false) in
    let w = c.write_gap in
    let h = unwritten_end (unwritten_last _ (unwritten_as e l.invariant.rest) w.auto.out w.ensures.out_after w.ensures.value) in
    record { value = h.0; out_after = h.1 }
