-- `normal::Measure::past` meets its contract: a form is at most twice as long as its tuple, and its type is flagged. Assumes nothing.
use Rattle.std.proofs.Common.{ℕ, sym, ap, ◌∙◌, drop, arith}
use Rattle.frame.specs.Frames.{tup_at}
use Rattle.frame.proofs.Places.{framing-whole}
use Rattle.content.specs.Items.{item_of}
use Rattle.index.specs.inner.Flags.{flag_outside}
use Rattle.ping_forms.specs.inner.Measured.{form_type}
use Rattle.normal.proofs.Indexed.{flag-form}
use Rattle.normal.proofs.Measure.past.Goals as goal

pub overflow_add-result : goal.overflow_add-result
overflow_add-result c =
    let h = c.requires.sound_here.here in
    let few = c.requires.few in
    omega (arith, c.measure_form-form.ensures.twice, h.size, (framing-whole c.args.msb c.args.file.now _ h.framed).fits, few.bytes, few.small)

pub returns-clause-flags_after : goal.returns-clause-flags_after
returns-clause-flags_after c =
    let o = c.args.msb in
    let t = tup_at o (drop c.args.tuple.at c.args.file.now) in
    let gs = c.args.flags.now in
    let code = ap (λ (j : ℕ). form_type j (item_of o t)) (sym c.requires.sound_here.here.kind) in
    c.flag_type.ensures ∙ ap (flag_outside gs) (c.measure_form-form.ensures.code ∙ code) ∙ flag-form o t gs
