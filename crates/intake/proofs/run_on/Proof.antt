-- `intake::run_on` meets its contract: what is still to come of the turns is what they come to (`Running`). Assumes nothing.
use Prim.Native.Nat.{◌+◌, ◌-◌, ◌≤◌}
use mathlib.Core.Path.{ap, ◌≡◌}
use native.Mathlib.Omega.{arith}
use borrow.Author.Rules.{rules}
use lib.ListN.{length, drop}
use Rattle.intake.specs.inner.Views.{as_turned}
use Rattle.frame.specs.Frames.{len_at}
use Rattle.intake.specs.inner.Tallies.{tables}
use Rattle.intake.proofs.Runs.{Running, running_begin, running_there, running_past, running_again, running_done}
use Rattle.intake.proofs.run_on.Statement.{statement}
use Rattle.intake.proofs.run_on.Tie as tie

abbrev invariant-loop : tie.invariant-loop-w
invariant-loop part from total msb until sounders₀ channels₀ notes₀ w₀ at₀ sounders channels notes w at =
    Running msb total until part from w₀ (tables sounders₀ channels₀) at w (tables sounders channels)

abbrev decreases-loop : tie.decreases-loop-w
decreases-loop part from total msb until sounders₀ channels₀ notes₀ w₀ at₀ sounders channels notes w at = length part - at

-- places, named by what has been done there
abbrev stands : tie.In-loop-w invariant-loop decreases-loop → tie.At-loop-w invariant-loop decreases-loop
stands c = c.before.before

abbrev elsewhere : tie.After-turn invariant-loop decreases-loop → tie.In-loop-w invariant-loop decreases-loop
elsewhere t = t.before.before.before.before

abbrev next : tie.After-struct_known-in-Continue-2-1 invariant-loop decreases-loop → tie.In-Continue invariant-loop decreases-loop
next c = c.before.before

abbrev turned : tie.In-Continue invariant-loop decreases-loop → tie.After-turn invariant-loop decreases-loop
turned c = c.before

loop-holds : tie.Need-loop-w-init invariant-loop decreases-loop
loop-holds c =
    let p = c.requires in
    running_begin _ _ _ _ _ _ _ p.1.1.0 p.0 p.1.1.1.1 p.1.0

turn-requires : tie.Need-turn-requires invariant-loop decreases-loop
turn-requires c κs =
    let l = stands c.before.before.before in
    let g = l.loop-w.invariant in
    (g.standing, (g.steady, (omega (arith, g.place, l.requires.1.1.1.0), (g.within, g.sized))))

-- the tuple passed: where the tally stands then, that it has bytes, and that it is within the part
past : (c : tie.After-struct_known-in-Continue-2-1 invariant-loop decreases-loop) → let l = stands (elsewhere (turned (next c))) in let a = l.args in
    ((next c).in-Continue.next.at ≡ l.loop-w.w.at + len_at a.msb (drop l.loop-w.at a.part.now))
    × (16 ≤ len_at a.msb (drop l.loop-w.at a.part.now))
    × (l.loop-w.at + len_at a.msb (drop l.loop-w.at a.part.now) ≤ length a.part.now)
past c =
    let n = next c in
    let t = turned n in
    running_past (stands (elsewhere t)).loop-w.invariant _ _ t.turn.ensures _ (ap as_turned n.in-Continue.is)

loop-again : tie.Need-loop-w-preserved invariant-loop decreases-loop
loop-again c =
    let n = next c in
    let t = turned n in
    let e = elsewhere t in
    let l = stands e in
    running_again l.loop-w.invariant _ _ t.turn.ensures e.loop-w-test.true _ (ap as_turned n.in-Continue.is) (n.in-Continue.next.at - l.loop-w.w.at)
    (omega (arith, (past c).0))

returns : tie.Need-returns-in-Break invariant-loop decreases-loop
returns c =
    let n = c in
    let t = n.before in
    let e = elsewhere t in
    running_done (stands e).loop-w.invariant _ _ t.turn.ensures e.loop-w-test.true _ (ap as_turned n.in-Break.is)

pub run_on_spec : {M : Type 1} → statement M
run_on_spec =
    tie.close
    (tie.spec
    invariant-loop
    decreases-loop
    loop-holds
    turn-requires
    (λ c. search rules)
    (λ c. omega (arith, (past c).0))
    (λ c. omega (arith, (past c).0, (past c).2, (stands (elsewhere (turned (next c)))).well_formed))
    (λ c. omega (arith, (past c).0, (past c).1, (past c).2))
    loop-again
    (λ c. search rules)
    returns
    (λ c. running_there c.loop-w.invariant c.loop-w-test.false))
