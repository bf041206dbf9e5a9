-- `hexlines::lines_in::decode` meets its contract: what is still to come of the lines is the whole answer (`Reading`). Assumes nothing.
use mathlib.Core.Path.{sym, ◌∙◌}
use Prim.Native.Nat.{◌-◌, ◌≤◌}
use native.Mathlib.Omega.{arith}
use borrow.Author.Rules.{rules}
use lib.ListN.{length}
use Rattle.hexlines.proofs.Reading.{Reading, reading_begin, end-within, good, reading_bad, reading_again, reading_done}
use Rattle.hexlines.proofs.lines_in.decode.Statement.{statement}
use Rattle.hexlines.proofs.lines_in.decode.Tie as tie

abbrev invariant-loop : tie.invariant-loop-at
invariant-loop text bytes₀ number₀ decoded₀ at₀ bytes number decoded at = Reading text bytes₀ bytes number decoded at

abbrev decreases-loop : tie.decreases-loop-at
decreases-loop text bytes₀ number₀ decoded₀ at₀ bytes number decoded at = length text - at

-- the line at the place ends within the text
within : (c : tie.After-line_end-end invariant-loop decreases-loop) →
    let end = c.line_end-end.result in
    (c.loop-at.at ≤ end) × (end ≤ length c.args.text.now)
within c =
    end-within c.args.text.now c.loop-at.at c.line_end-end.result
    c.loop-at-test.true c.line_end-end.ensures

decode-line-requires : tie.Need-decode_line-requires invariant-loop decreases-loop
decode-line-requires c κs =
    let judged = c.before.before.before in
    let l = judged.loop-at in
    let g = good l.decoded _ (sym judged.is_bad.ensures ∙ c.if-is_bad.false) in
    (g.even, (g.digits, omega (arith, g.within, l.invariant.long)))

loop-again : tie.Need-loop-at-preserved invariant-loop decreases-loop
loop-again c =
    let good-line = c.before.before.before.before.before in
    let judged = good-line.before in
    let found = judged.before.before in
    reading_again _ _ _ found.loop-at-test.true found.line_end-end.ensures found.loop-at.invariant
    (sym judged.is_bad.ensures ∙ good-line.if-is_bad.false) _ c.decode_line.ensures

returns : tie.Need-returns-then-is_bad invariant-loop decreases-loop
returns c =
    let found = c.before.before.before in
    reading_bad _ _ _ found.loop-at-test.true found.line_end-end.ensures found.loop-at.invariant
    (sym c.is_bad.ensures ∙ c.if-is_bad.true)

returns-2 : tie.Need-returns invariant-loop decreases-loop
returns-2 c = reading_done c.loop-at.invariant c.loop-at-test.false

pub decode_spec : {M : Type 1} → statement M
decode_spec =
    tie.close
    (tie.spec
    invariant-loop
    decreases-loop
    (λ c. reading_begin _ _)
    (λ c κs. search rules)
    (λ c. search rules)
    (λ c. search rules)
    (λ c. omega (arith, within c))
    (λ c κs. search rules)
    (λ c. c.loop-at.invariant.long)
    returns
    (λ c. search rules)
    (λ c. search rules)
    (λ c. omega (arith, within c.before.before.before))
    decode-line-requires
    (λ c. search rules)
    (λ c. search rules)
    (λ c. search rules)
    (λ c. let good-line = c.before.before.before.before.before in omega (arith, within good-line.before.before.before))
    (λ c. search rules)
    loop-again
    (λ c. c.loop-at.invariant.long)
    returns-2)
