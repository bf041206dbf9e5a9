-- `intake::run` meets its contract: the turns over the whole file, from its mark on. Assumes nothing.
use native.Mathlib.Omega.{arith}
use borrow.Author.Rules.{rules}
use Rattle.intake.proofs.Runs.{standing-begin, steady-begin, ran-file}
use Rattle.intake.proofs.run.Statement.{statement}
use Rattle.intake.proofs.run.Tie as tie
use mathlib.Core.Path.{ap}
use Rattle.intake.specs.declared.Tally.{Tally}

run-on-requires : tie.Need-run_on-requires
run-on-requires c κs =
    let b = c.before.before.before in
    let p = b.requires in
    let e = b.begin-begin.ensures in
    (standing-begin e, (steady-begin _ e, (p.0, (omega (arith, ap (λ (w : Tally). w.at) e, p.0, p.1.0), p.1.1))))

returns : tie.Need-returns
returns c =
    let b = c.before.before.before.before in
    let a = b.args in
    ran-file a.msb a.file.now a.until b.requires.0 _ _ b.begin-begin.ensures _ _ c.run_on.ensures

pub run_spec : {M : Type 1} → statement M
run_spec = tie.close (tie.spec
    (λ c κs. search rules)
    run-on-requires
    returns)
