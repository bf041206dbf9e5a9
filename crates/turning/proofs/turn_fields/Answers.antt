-- Each code's field has room in what is left of the row.
use Rattle.std.proofs.Common.{arith}
use Rattle.turning.proofs.Turned.{field_room, turned-end, turned_dot, turned_on}
use Rattle.turning.proofs.turn_fields.Goals as goal

pub turn_field-w-requires : goal.turn_field-w-requires
turn_field-w-requires c = let r = field_room c.args.row.now c.loop-code.code-index c.loop-code-test.true in omega arith

pub returns-then-w-eq0 : goal.returns-then-w-eq0
returns-then-w-eq0 c =
    let e = c.turn_field-w.ensures in
    turned_dot c.loop-code.invariant c.loop-code-test.true e.out_after (e.code_value c.if-w-eq0.true)

pub overflow_add-from : goal.overflow_add-from
overflow_add-from c = let r = field_room c.args.row.now c.loop-code.code-index c.loop-code-test.true in omega arith

pub overflow_add-into : goal.overflow_add-into
overflow_add-into c = let r = field_room c.args.row.now c.loop-code.code-index c.loop-code-test.true in omega arith

pub loop-code-preserved : goal.loop-code-preserved
loop-code-preserved c =
    let e = c.turn_field-w.ensures in
    turned_on c.loop-code.invariant c.loop-code-test.true e.out_after e.value c.if-w-eq0.false

pub returns : goal.returns
returns c = turned-end c.loop-code.invariant c.loop-code-test.false
