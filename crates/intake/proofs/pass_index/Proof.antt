-- `intake::pass_index` meets its contract: it is the tally past a tuple of the index class. Assumes nothing.
use native.Mathlib.Omega.{arith}
use Rattle.frame.proofs.Frames.{allowed-most}
use Rattle.intake.proofs.Parts.{passed-index}
use Rattle.intake.proofs.pass_index.Statement.{statement}
use Rattle.intake.proofs.pass_index.Tie as tie

add-t3 : tie.Need-overflow_add-result
add-t3 c =
    let p = c.requires in
    omega (arith, p.1.1.0, allowed-most _ p.1.1.1)

add-t4 : tie.Need-overflow_add-result-2
add-t4 c = let p = c.requires in omega (arith, p.0.few, p.1.1.0)

returns : tie.Need-returns
returns c = let p = c.requires in passed-index _ _ p.0 p.1.0 p.1.1.1

pub pass_index_spec : {M : Type 1} → statement M
pass_index_spec = tie.close (tie.spec
    add-t3
    add-t4
    returns)
