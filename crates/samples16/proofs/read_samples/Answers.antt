-- `samples16::read_samples` meets its contract: a turn hands over the next pair. Assumes nothing.
use Rattle.std.proofs.Common.{◌∙◌, refl, sym, ap, [], get_or}
use mir.Syntax.{w16, w32}
use mir.Facts.{to_z-of_z}
use Rattle.order.specs.Order.{signed_of}
use Rattle.layout.specs.Families.{narrow}
use Rattle.samples.specs.Words.{sample_of}
use Rattle.samples.proofs.Words.{value-at}
use Rattle.samples.proofs.Handing.{handing_begin, handing_as, handing_one}
use Rattle.samples.proofs.Chunks.{samples_first, samples_next}
use Rattle.samples16.proofs.read_samples.Goals as goal

pub loop-i-init : goal.loop-i-init
loop-i-init c =
    let a = c.args in
    handing_as (sym (samples_first narrow a.msb a.part.now c.as_chunks.result.0.now c.as_chunks.ensures.front)) (handing_begin c.requires)

pub loop-i-preserved : goal.loop-i-preserved
loop-i-preserved c =
    let a = c.args in
    let l = c.loop-i in
    let pairs = c.as_chunks.result.0.now in
    let value = to_z-of_z {w = w32} {z = c.from-in-loop-i.result} (record { sfits = c.from-in-loop-i.type_inv })
    ∙ c.from-in-loop-i.ensures
    ∙ to_z-of_z {w = w16} {z = c.signed2.result} (record { sfits = c.signed2.type_inv })
    ∙ c.signed2.ensures
    ∙ ap (signed_of 2) (c.read2-in-loop-i.ensures ∙ value-at narrow refl a.msb (get_or pairs l.i []) 0) in
    let number = c.from.ensures ∙ c.read2.ensures in
    handing_one _ _ value (handing_as (samples_next (sample_of narrow a.msb) pairs l.i c.loop-i-test.true _ number) l.invariant)
