-- `samples16::angles::read` meets its contract: a turn hands over the next sample. Assumes nothing.
use Rattle.std.proofs.Common.{◌-◌, ◌∙◌, sym, ap, ℕ, List, [], get_or, take, drop}
use Rattle.std.proofs.lemmas.List.{get_or_default}
use mir.Syntax.{w16}
use mir.Facts.{to_z-of_z}
use Rattle.order.specs.Order.{num_of, signed_of}
use Rattle.samples.specs.Words.{Sample, sample_of}
use Rattle.samples.proofs.Chunks.{samples_next}
use Rattle.samples16.specs.inner.Sizes.{angles_of}
use Rattle.samples16.proofs.Angled.{angled-begin, angled_as, angled-one, angled-chunks, angled-sample, angled-values}
use Rattle.samples16.proofs.angles.read.Goals as goal

pub loop-i-init : goal.loop-i-init
loop-i-init g c =
    let a = c.args in
    let all = angled-chunks g.row.N c.requires.size a.msb a.part.now c.as_chunks.result.0.now c.as_chunks.ensures.front in
    angled_as (sym all) (angled-begin c.requires.room)

pub loop-i-preserved : goal.loop-i-preserved
loop-i-preserved g c =
    let a = c.args in
    let l = c.loop-i in
    let n = g.row.N in
    let size = c.requires.size in
    let samples = c.as_chunks.result.0.now in
    let chunk = get_or samples l.i [] in
    let same = c.index-samples-i.is ∙ get_or_default samples l.i c.index-samples-i.result [] c.loop-i-test.true in
    let number = c.number_in.ensures
    ∙ ap (λ (w : List ℕ). num_of a.msb (take (n - 4) w)) same
    ∙ sym (ap (λ (s : Sample). s.0) (angled-sample n size a.msb chunk)) in
    let both = angled-values n size a.msb chunk c.read2.result c.read2-in-loop-i.result c.read2.type_inv
    (c.read2.ensures ∙ ap (λ (w : List ℕ). num_of a.msb (take 2 (drop (n - 4) w))) same)
    (c.read2-in-loop-i.ensures ∙ ap (λ (w : List ℕ). num_of a.msb (take 2 (drop (n - 2) w))) same) in
    let u = to_z-of_z {w = w16} {z = c.signed2.result} (record { sfits = c.signed2.type_inv })
    ∙ c.signed2.ensures
    ∙ ap (signed_of 2) (sym both.0) in
    let v = to_z-of_z {w = w16} {z = c.signed2-in-loop-i.result} (record { sfits = c.signed2-in-loop-i.type_inv })
    ∙ c.signed2-in-loop-i.ensures
    ∙ ap (signed_of 2) (sym both.1) in
    angled-one _ _ _ u v (angled_as (samples_next (sample_of (angles_of n) a.msb) samples l.i c.loop-i-test.true _ number) l.invariant)
