-- Each code's field has room in what is left of the row, and takes the next number.
use Rattle.std.proofs.Common.{◌≡◌, get_or, sym, ◌∙◌, rules, arith}
use Rattle.turning.proofs.Turned.{field_room, field-none, size_step, row-end}
use Rattle.turning.proofs.Writes.{code_fits, still-fits, write_step, nothing_written}
use Rattle.turning.proofs.write_row.Goals as goal

pub write_field-w-requires-clause-text_value : goal.write_field-w-requires-clause-text_value
write_field-w-requires-clause-text_value c =
    code_fits c.args.row.now c.args.text.now c.loop-code.code-index c.loop-code-test.true c.loop-code.invariant.fits

pub write_field-w-requires-clause-code_in_bounds : goal.write_field-w-requires-clause-code_in_bounds
write_field-w-requires-clause-code_in_bounds c =
    let r = field_room c.args.row.now c.loop-code.code-index c.loop-code-test.true in omega arith

pub returns-then-w-eq0 : goal.returns-then-w-eq0
returns-then-w-eq0 c =
    let l = c.loop-code in
    let gone = c.write_field-w.ensures.code_value c.if-w-eq0.true in
    let none_left = field-none c.args.row.now l.code-index c.loop-code-test.true gone in
    rw (c.write_field-w.ensures.out_after, gone) (sym (nothing_written _ none_left c.args.msb l.out _ c.args.text.now l.into) ∙
    l.invariant.rest)

pub overflow_add-into : goal.overflow_add-into
overflow_add-into c = let r = field_room c.args.row.now c.loop-code.code-index c.loop-code-test.true in omega arith

pub loop-code-preserved : goal.loop-code-preserved
loop-code-preserved c =
    let a = c.args in
    let l = c.loop-code in
    let more = c.loop-code-test.true in
    let e = c.write_field-w.ensures in
    let w = c.write_field-w.result in
    let some_bytes = c.if-w-eq0.false in
    let number : c.unwrap_or-number.result ≡ get_or a.numbers.now l.next 0 = search rules in
    let z = size_step a.row.now l.code-index more w e.value some_bytes in
    record {
      same = omega arith;
      fits = still-fits a.row.now a.text.now l.code-index more l.invariant.fits w e.value some_bytes;
      room = omega arith;
      few = omega arith;
      rest = rw (e.out_after, number, c.takes-next.ensures.0)
          (write_step a.row.now a.text.now l.code-index more l.invariant.fits w e.value some_bytes a.msb l.out a.numbers.now l.into l.next)
          ∙ l.invariant.rest;
    }

pub returns : goal.returns
returns c =
    let l = c.loop-code in
    sym (nothing_written _ (row-end c.args.row.now l.code-index c.loop-code-test.false) c.args.msb l.out _ c.args.text.now l.into)
    ∙ l.invariant.rest
