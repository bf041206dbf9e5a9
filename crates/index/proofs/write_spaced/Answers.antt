-- `index::write_spaced` meets its contract: the types, and a space behind an odd number. Assumes nothing.
use Rattle.index.specs.inner.Flags.{flagged_types}
use Rattle.index.proofs.Writes.{spaced-odd}
use Rattle.index.proofs.write_spaced.Goals as goal

pub returns-clause-out_after : goal.returns-clause-out_after
returns-clause-out_after c =
    let a = c.args in
    let t = c.write_types-q in
    spaced-odd (flagged_types a.flags.now) a.msb a.out.now a.to t.result t.ensures.value _ t.ensures.out_after c.if-q-to-eq0.false _ c.store2.ensures
