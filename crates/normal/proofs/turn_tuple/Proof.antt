-- `normal::turn_tuple` meets its contract: 15, 18, 19, then the mark and the form. Assumes nothing.
use mathlib.Core.Path.{◌≡◌, sym, ap, ◌∙◌}
use mathlib.Core.Bool.{Bool, ◌&&◌}
use native.Mathlib.Omega.{arith}
use borrow.Author.Rules.{rules}
use lib.ListN.{drop}
use Rattle.layout.specs.Views.{as_answer}
use Rattle.layout.specs.Types.{shape_of}
use Rattle.frame.specs.Frames.{len_at}
use Rattle.frame.specs.Files.{mark, is_msb}
use Rattle.frame.proofs.Places.{Whole, framing-whole}
use Rattle.intake.proofs.Judges.{whole}
use Rattle.intake.specs.inner.Sound.{SoundHere}
use Rattle.ping_forms.proofs.Placed.{most}
use Rattle.normal.specs.Normaliser.{is_unlisted}
use Rattle.normal.proofs.Singles.{single_behind, single_unturnable, single_no_room, single_written}
use Rattle.normal.proofs.turn_tuple.Statement.{statement}
use Rattle.normal.proofs.turn_tuple.Tie as tie

there : (s : tie.Start) → let f = s.args.file.now in Whole (is_msb f) f 4 (len_at (is_msb f) (drop 4 f))
there s = framing-whole _ _ _ s.requires.here.framed

-- its order, length and type code are read
sound : (c : tie.After-kind_at-code)
    → SoundHere c.is_msb-msb.result c.args.file.now 4
    c.length_at-whole.result c.kind_at-code.result
sound c =
    rw (c.kind_at-code.ensures, c.length_at-whole.ensures, c.is_msb-msb.ensures)
    c.requires

turns : (c : tie.After-is_unturnable) → let k = c.before.before.before in
    c.is_unturnable.result ≡ k.is_msb-msb.result && is_unlisted (shape_of k.kind_at-code.result)
turns c =
    c.is_unturnable.ensures
    ∙ ap (λ (b : Bool). c.is_msb-msb.result && b) c.is_unlisted.ensures

returns-2 : tie.Need-returns-then-is_unturnable
returns-2 c =
    let u = c.before.before in
    let k = u.before.before.before in
    rw (ap as_answer c.refuse-then-is_unturnable.ensures)
    (single_unturnable _ _ _ _ _ k.is_msb-msb.ensures k.length_at-whole.ensures k.kind_at-code.ensures
    (omega arith) (sym (turns u) ∙ c.if-is_unturnable.true))

returns-3 : tie.Need-returns-then-out-bytes
returns-3 c =
    let measured = c.before.before.before in
    let u = measured.before.before in
    let k = u.before.before.before in
    rw (ap as_answer c.refuse-then-out-bytes.ensures)
    (single_no_room _ _ _ _ _ k.is_msb-msb.ensures k.length_at-whole.ensures k.kind_at-code.ensures
    (omega arith) (sym (turns u) ∙ measured.if-is_unturnable.false) _
    measured.measure_form-form.ensures.bytes c.if-out-bytes.true)

write-form-requires : tie.Need-write_form-requires
write-form-requires c κs =
    let stored = c.before.before.before in
    let fits = stored.before.before in
    let measured = fits.before.before in
    let u = measured.before.before in (
      sound u.before.before.before,
      omega (arith, measured.measure_form-form.ensures.bytes, fits.if-out-bytes.false, stored.store4.auto.out),
    )

returns-4 : tie.Need-returns
unfolding mark
returns-4 c =
    let written = c.before.before.before in
    let stored = written.before.before.before.before in
    let fits = stored.before.before in
    let measured = fits.before.before in
    let u = measured.before.before in
    let k = u.before.before.before in
    let start = k.before.before.before.before.before in
    rw (ap as_answer c.accept.ensures)
    (single_written _ start.args.out.now _ _ _ k.is_msb-msb.ensures k.length_at-whole.ensures
    k.kind_at-code.ensures (omega arith) (sym (turns u) ∙ measured.if-is_unturnable.false) _
    measured.measure_form-form.ensures.bytes fits.if-out-bytes.false _ _ stored.store4.ensures written.write_form.ensures.1)

pub turn_tuple_spec : {M : Type 1} → statement M
turn_tuple_spec =
    tie.close
    (tie.spec
    (λ c κs. omega (arith, (there c.before.before).fits))
    (λ c κs. omega (arith, (there c.before.before.before).long, (there c.before.before.before).fits))
    (λ c κs. omega (arith, (there c.before.before.before.before).long, (there c.before.before.before.before).fits))
    (λ c. omega (arith, (whole (sound c).here).fits))
    (λ c κs. search rules)
    (λ c.
    let k = c.before.before in
    rw (ap as_answer c.refuse.ensures) (single_behind _ _ _ _ _ k.is_msb-msb.ensures k.length_at-whole.ensures k.kind_at-code.ensures (omega arith)))
    (λ c κs. search rules)
    (λ c κs. search rules)
    (λ c κs. search rules)
    returns-2
    (λ c κs. sound c.before.before.before.before)
    (λ c. let m = c.before in omega (arith, m.measure_form-form.ensures.twice, (most (sound m.before.before.before.before.before)).1))
    (λ c κs. search rules)
    returns-3
    (λ c κs. search rules)
    write-form-requires
    (λ c κs. search rules)
    (λ c. search rules)
    returns-4)
