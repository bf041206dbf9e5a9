-- `salvage::save` meets its contract: rule by rule by what is measured. Assumes nothing.
use Rattle.std.proofs.Common.{ap}
use Rattle.frame.proofs.Files.{marked_4}
use Rattle.salvage.specs.Views.{as_outcome}
use Rattle.salvage.proofs.Outcomes.{short-table, no_room, roomy, saved}
use Rattle.salvage.proofs.save.Goals as goal

pub measure_file-measured-requires-clause-in_bounds : goal.measure_file-measured-requires-clause-in_bounds
measure_file-measured-requires-clause-in_bounds c = (marked_4 _ c.requires.file_value.0, c.requires.file_value.1)

pub returns-then-table-measured : goal.returns-then-table-measured
returns-then-table-measured c =
    let p = c.requires.file_value in
    rw (ap as_outcome c.refuse.ensures) (short-table _ _ _ p.1 p.0 _ c.measure_file-measured.ensures c.if-table-measured.true)

pub returns-then-out-measured : goal.returns-then-out-measured
returns-then-out-measured c =
    let p = c.requires.file_value in
    rw (ap as_outcome c.refuse-then-out-measured.ensures)
    (no_room _ _ _ p.1 p.0 _ c.measure_file-measured.ensures c.if-table-measured.false c.if-out-measured.true)

pub write_all-requires-clause-roomy : goal.write_all-requires-clause-roomy
write_all-requires-clause-roomy c =
    let p = c.requires.file_value in
    roomy _ c.args.out.now c.args.table.now p.1 p.0 _ c.measure_file-measured.ensures c.if-table-measured.false c.if-out-measured.false

pub returns : goal.returns
returns c =
    let p = c.requires.file_value in
    saved _ _ _ p.1 p.0 _ c.measure_file-measured.ensures c.if-table-measured.false c.if-out-measured.false _ _
    c.write_all.ensures.out_after c.write_all.ensures.table_after
