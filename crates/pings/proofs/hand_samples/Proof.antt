-- `pings::hand_samples` meets its contract: as many samples as the ping has, where there is room for them. Assumes nothing.
use borrow.Author.Rules.{rules}
use Rattle.layout.specs.Types.{shape_of}
use Rattle.samples.specs.inner.Lists.{Room}
use Rattle.pings.specs.inner.Handing.{part_samples}
use Rattle.pings.proofs.Handing.{short-numbers, short-values, handed}
use Rattle.pings.proofs.hand_samples.Statement.{statement}
use Rattle.pings.proofs.hand_samples.Tie as tie

abbrev start : tie.After-count_values-n → tie.Start
start n = n.before.before.before

returns : tie.Need-returns-then-numbers-n
returns c =
    let n = c.before.before in
    let a = (start n).args in
    rw c.refuse.ensures
    (short-numbers _ _ a.numbers.now a.values.now (rw (← n.count_values-n.ensures) c.if-numbers-n.true))

returns-2 : tie.Need-returns-then-values-n
returns-2 c =
    let n = c.before.before.before in
    let a = (start n).args in
    rw c.refuse-then-values-n.ensures
    (short-values _ _ a.numbers.now a.values.now (rw (← n.count_values-n.ensures) c.if-values-n.true))

-- neither slice is short
room : (c : tie.Else-values-n) → let a = (start c.before.before).args in
    Room (part_samples (shape_of a.code) a.msb a.part.now) a.numbers.now a.values.now
room c =
    let n = c.before.before in
    record {
      for_numbers = rw (← n.count_values-n.ensures) c.if-numbers-n.false;
      for_values = rw (← n.count_values-n.ensures) c.if-values-n.false;
    }

take-samples-requires : tie.Need-take_samples-requires
take-samples-requires c κs =
    let k = c.before.before in
    let s = start k.before.before in
    (s.requires.0, (s.requires.1, room k))

returns-3 : tie.Need-returns
returns-3 c =
    let r = c.before.before.before.before in
    let k = r.before.before.before in
    let n = k.before.before in
    let a = (start n).args in
    rw (c.accept.ensures, n.count_values-n.ensures)
    (handed _ _ a.numbers.now a.values.now (room k) r.take_samples.ensures.0 r.take_samples.ensures.1)

pub hand_samples_spec : {M : Type 1} → statement M
hand_samples_spec =
    tie.close
    (tie.spec
    (λ c κs. search rules)
    (λ c κs. search rules)
    returns
    (λ c κs. search rules)
    returns-2
    take-samples-requires
    (λ c κs. search rules)
    (λ c. search rules)
    (λ c. search rules)
    returns-3)
