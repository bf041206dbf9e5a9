-- `tuples::open_found` meets its contract: 9 for what isn't asked for, then the tuple's own rules. Assumes nothing.
use Rattle.std.proofs.Common.{sym, ap, ◌∙◌, arith}
use Rattle.layout.specs.Views.{as_verdict}
use Rattle.tuples.proofs.Reading.{here, fault_near, unasked, faulty, fine}
use Rattle.tuples.proofs.open_found.Goals as goal

pub returns-then-not-asked : goal.returns-then-not-asked
returns-then-not-asked c = rw c.refuse.ensures (λ asks e. unasked c.requires.found asks (e ∙ c.if-not-asked.true))

pub judge_own-requires : goal.judge_own-requires
judge_own-requires c = rw c.requires.msb (here c.requires.found)

pub at-requires : goal.at-requires
at-requires c =
    let z = fault_near c.requires.found _ _ (rw c.requires.msb at (sym c.judge_own.ensures ∙ ap as_verdict c.in-Err.is)) in
    omega (arith, z)

pub returns-in-Err : goal.returns-in-Err
returns-in-Err c asks e =
    rw c.at.ensures (faulty c.requires.found asks _ _ (e ∙ c.if-not-asked.false)
    (rw c.requires.msb at (sym c.judge_own.ensures ∙ ap as_verdict c.in-Err.is)))

pub returns-in-Ok : goal.returns-in-Ok
returns-in-Ok c asks e =
    let own = rw c.requires.msb at (sym c.judge_own.ensures ∙ ap as_verdict c.in-Ok.is) in
    let asked = e ∙ c.if-not-asked.false in
    record { answer = fine c.requires.found asks asked own; msb = c.requires.msb; found = c.requires.found; asks = asked; own = own }
