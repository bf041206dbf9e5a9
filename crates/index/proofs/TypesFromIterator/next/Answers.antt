-- The next flagged type is the first of those from a type on. Assumes nothing.
use Rattle.std.proofs.Common.{◌≡◌, ℕ, ◌+◌, ◌<◌, true, false, List, ◌∷◌, length, sym, ap, ◌∙◌, rules, arith}
use Rattle.index.specs.inner.Flags.{flagged, flagged_from}
use Rattle.index.proofs.Writes.{come_next, come_end, come_past}
use Rattle.index.proofs.TypesFromIterator.next.Goals as goal

-- what the loop says of the flags that it has, which are those that it was given
turned : (fs gs : List ℕ) (k : ℕ) → gs ≡ fs → k < 65536 → flagged gs k ≡ true → flagged_from fs k ≡ k ∷ flagged_from gs (k + 1)
turned fs gs k e h f = rw (← e) (come_next (flagged gs) k true h f)

pub returns-then-is_flagged-clause-steps : goal.returns-then-is_flagged-clause-steps
returns-then-is_flagged-clause-steps c =
    let i = c.loop-self.invariant in
    i.1 ∙ turned _ c.loop-self.self.flags.now c.loop-self.self.from i.0 (omega arith) (sym c.is_flagged.ensures ∙ c.if-is_flagged.true)

pub returns-then-is_flagged-clause-goes : goal.returns-then-is_flagged-clause-goes
returns-then-is_flagged-clause-goes c =
    let i = c.loop-self.invariant in
    let e = i.1 ∙ turned _ c.loop-self.self.flags.now c.loop-self.self.from i.0 (omega arith) (sym c.is_flagged.ensures ∙ c.if-is_flagged.true) in
    record { on = λ _. (search rules, search rules, omega (arith, ap length e)); keeps = search rules; rests = λ _. search rules }

pub loop-self-preserved : goal.loop-self-preserved
loop-self-preserved c =
    let i = c.loop-self.invariant in
    let fs = c.loop-self.self.flags.now in
    let k = c.loop-self.self.from in
    let n : flagged fs k ≡ false = sym c.is_flagged.ensures ∙ c.if-is_flagged.false in
    let p = come_past fs k c.skip-self.result (omega arith) n c.skip-self.ensures in
    (i.0, i.1 ∙ (rw i.0 at p))

pub returns-clause-steps : goal.returns-clause-steps
returns-clause-steps c =
    let i = c.loop-self.invariant in
    let e = come_end (flagged c.loop-self.self.flags.now) c.loop-self.self.from (omega arith) in
    (i.1 ∙ (rw i.0 at e), e)
