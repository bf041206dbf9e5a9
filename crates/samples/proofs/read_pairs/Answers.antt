-- `samples::read_pairs` meets its contract: a turn hands over the next pair. Assumes nothing.
use Rattle.std.proofs.Common.{◌∙◌, refl, sym, ap, [], get_or}
use mir.Syntax.{w32}
use mir.Facts.{to_z-of_z}
use Rattle.order.specs.Order.{signed_of}
use Rattle.layout.specs.Families.{wide}
use Rattle.samples.specs.Words.{sample_of}
use Rattle.samples.proofs.Words.{value-at}
use Rattle.samples.proofs.Handing.{handing_begin, handing_as, handing_one}
use Rattle.samples.proofs.Chunks.{samples_first, samples_next}
use Rattle.samples.proofs.read_pairs.Goals as goal

pub loop-i-init : goal.loop-i-init
loop-i-init c =
    let a = c.args in
    handing_as (sym (samples_first wide a.msb a.part.now c.as_chunks.result.0.now c.as_chunks.ensures.front)) (handing_begin c.requires)

pub loop-i-preserved : goal.loop-i-preserved
loop-i-preserved c =
    let a = c.args in
    let l = c.loop-i in
    let pairs = c.as_chunks.result.0.now in
    let value = to_z-of_z {w = w32} {z = c.signed4.result} (record { sfits = c.signed4.type_inv })
    ∙ c.signed4.ensures
    ∙ ap (signed_of 4) (c.read4.ensures ∙ value-at wide refl a.msb (get_or pairs l.i []) 0) in
    handing_one _ _ value (handing_as (samples_next (sample_of wide a.msb) pairs l.i c.loop-i-test.true _ c.number_in.ensures) l.invariant)
