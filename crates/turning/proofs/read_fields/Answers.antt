-- Each code's field has room in what is left of the row.
use Rattle.std.proofs.Common.{arith}
use Rattle.turning.proofs.Turned.{field_room}
use Rattle.turning.proofs.Taking.{takes-room, taken-end, taken-some, taken-on}
use Rattle.turning.proofs.read_fields.Goals as goal

pub read_field-passed-requires-clause-fact : goal.read_field-passed-requires-clause-fact
read_field-passed-requires-clause-fact c = taken-some c.loop-code.invariant c.loop-code-test.true

pub read_field-passed-requires-clause-code_in_bounds : goal.read_field-passed-requires-clause-code_in_bounds
read_field-passed-requires-clause-code_in_bounds c =
    let r = field_room c.args.row.now c.loop-code.code-index c.loop-code-test.true in omega arith

pub read_field-passed-requires-clause-code_in_bounds_2 : goal.read_field-passed-requires-clause-code_in_bounds_2
read_field-passed-requires-clause-code_in_bounds_2 c =
    let r = takes-room c.args.row.now c.loop-code.code-index c.loop-code-test.true in omega arith

pub overflow_add-from : goal.overflow_add-from
overflow_add-from c = let r = field_room c.args.row.now c.loop-code.code-index c.loop-code-test.true in omega arith

pub loop-code-preserved : goal.loop-code-preserved
loop-code-preserved c =
    let e = c.read_field-passed.ensures in
    taken-on c.loop-code.invariant c.loop-code-test.true e.numbers_after e.bytes_value.0 e.bytes_value.1 e.entries_value

pub returns : goal.returns
returns c = taken-end c.loop-code.invariant c.loop-code-test.false
