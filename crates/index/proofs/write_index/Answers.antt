-- `index::write_index` meets its contract: opening, types and closing, one behind the other. Assumes nothing.
use Rattle.std.proofs.Common.{◌≡◌, ℕ, ◌+◌, ◌*◌, ◌%◌, List, length, ap, ◌∙◌, arith}
use lib.Seq.{sets, length-sets}
use Rattle.samples.specs.Words.{unwords}
use Rattle.frame.specs.inner.Framing.{close_bytes}
use Rattle.index.specs.Index.{spaced}
use Rattle.index.specs.inner.Flags.{flagged_types, opening_of}
use Rattle.index.proofs.Laws.{length-spaced, length_data}
use Rattle.index.proofs.Writes.{few-flagged, index-stored}
use Rattle.index.proofs.write_index.Goals as goal

pub index_length-whole-requires : goal.index_length-whole-requires
index_length-whole-requires c = omega (arith, few-flagged c.args.flags.now)

pub write_opening-requires-clause-to_in_bounds : goal.write_opening-requires-clause-to_in_bounds
write_opening-requires-clause-to_in_bounds c = omega (arith, length_data c.args.msb (flagged_types c.args.flags.now))

pub write_opening-requires-clause-le_whole : goal.write_opening-requires-clause-le_whole
write_opening-requires-clause-le_whole c = (omega arith, omega (arith, few-flagged c.args.flags.now))

pub write_spaced-end-requires : goal.write_spaced-end-requires
write_spaced-end-requires c =
    let a = c.args in
    let ks = flagged_types a.flags.now in
    omega (
      arith,
      length_data a.msb ks,
      length-spaced ks,
      ap length c.write_opening.ensures,
      length-sets a.out.now a.to (opening_of a.msb c.index_length-whole.result),
    )

pub close_frame-requires-clause-to_in_bounds : goal.close_frame-requires-clause-to_in_bounds
close_frame-requires-clause-to_in_bounds c =
    let a = c.args in
    let ks = flagged_types a.flags.now in
    omega (
      arith,
      length_data a.msb ks,
      length-spaced ks,
      ap length c.write_opening.ensures,
      length-sets a.out.now a.to (opening_of a.msb c.index_length-whole.result),
      ap length c.write_spaced-end.ensures.out_after,
      length-sets c.write_opening.new.out (a.to + 12) (unwords 2 a.msb (spaced ks)),
    )

pub close_frame-requires-clause-whole_bound : goal.close_frame-requires-clause-whole_bound
close_frame-requires-clause-whole_bound c = omega (arith, few-flagged c.args.flags.now)

pub returns : goal.returns
returns c =
    let a = c.args in
    let o = a.msb in
    let ks = flagged_types a.flags.now in
    let n = c.index_length-whole.result in
    let t = c.write_spaced-end in
    let w : n ≡ 20 + 2 * (length ks + length ks % 2) =
    c.index_length-whole.ensures ∙ ap (λ (n : ℕ). 20 + 2 * (n + n % 2)) c.count_types.ensures in
    c.close_frame.ensures
    ∙ ap (λ (l : List ℕ). sets l t.result (close_bytes o n 0))
    (t.ensures.out_after ∙ ap (λ (l : List ℕ). sets l (a.to + 12) (unwords 2 o (spaced ks))) c.write_opening.ensures)
    ∙ index-stored ks o a.out.now a.to n w t.result t.ensures.value
