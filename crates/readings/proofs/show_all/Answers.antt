-- `readings::show_all` meets its contract: what is made at each place is what the cases and the doubles say. Assumes nothing.
use Rattle.std.proofs.Common.{◌≡◌, ◌<◌, length, sym, ◌∙◌, rules, arith}
use lib.Seq.{ext_get_or}
use Rattle.readings.specs.declared.Reading.TheVariants.{Silent}
use Rattle.readings.specs.Reading.{no_double}
use Rattle.readings.specs.Readings.{shown}
use Rattle.readings.specs.inner.Laying.{shown_all}
use Rattle.readings.proofs.Laying.{length-shown, shown-at}
use Rattle.readings.proofs.show_all.Goals as goal

pub returns : goal.returns
returns c =
    let cs = c.args.cases in
    let ds = c.args.doubles in
    let l = c.loop-i in
    let many : length cs ≡ 64 = search rules in
    let few : length ds ≡ 64 = search rules in
    ext_get_or (shown Silent) l.it-items (shown_all cs ds) (l.invariant.0 ∙ sym (length-shown cs ds many few))
    (λ k h.
    let b : k < 64 = omega (arith, l.invariant.0) in
    l.invariant.1 k (omega arith) ∙ sym (shown-at no_double cs ds k (omega arith) (omega arith)))
