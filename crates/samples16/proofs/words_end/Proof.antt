-- `samples16::words_end` meets its contract: what the code tests is whether there is a space. Assumes nothing.
use mathlib.Core.Path.{◌≡◌, sym, ap, ◌∙◌}
use mathlib.Core.Bool.{not, ◌&&◌}
use Prim.Native.Nat.{ℕ, ◌+◌}
use borrow.Author.Rules.{rules}
use borrow.Author.Tests.{eqb-true}
use lib.Dec.{eqb}
use Rattle.rules.proofs.Bools.{both_true}
use Rattle.layout.specs.Families.{narrow}
use Rattle.samples.specs.Words.{all_words}
use Rattle.samples.specs.Runs.{is_run}
use Rattle.samples.specs.Values.{has_space}
use Rattle.samples16.proofs.Laws.{space-tested, ends-before, ends-behind}
use Rattle.samples16.proofs.words_end.Statement.{statement}
use Rattle.samples16.proofs.words_end.Tie as tie

-- the test
space : (c : tie.After-is_run) →
    let a = c.args in
    (not c.is_run.result && eqb (a.count + 1) a.found) ≡ has_space narrow a.count (all_words 2 a.msb a.part.now)
space c =
    let start = c.before.before.before in
    let a = start.args in
    ap (λ (n : ℕ). not c.is_run.result && eqb (a.count + 1) n) start.requires.1.1
    ∙ space-tested a.msb a.part.now a.count start.requires.0 start.requires.1.0 c.is_run.result
    (c.is_run.ensures ∙ ap (λ (w : ℕ). is_run 256 w) c.read2.ensures)

returns : tie.Need-returns-then-is_run-count
returns c =
    let start = c.before.before.before.before in
    let a = start.args in
    let one_more = eqb-true (a.count + 1) a.found (both_true (not c.is_run.result) _ c.if-is_run-count.true).1 in
    let e = ends-before a.msb a.part.now a.count start.requires.0 start.requires.1.0 (sym (one_more ∙ start.requires.1.1))
    (sym (space c.before) ∙ c.if-is_run-count.true) in
    (e.these, (e.near, e.counted ∙ sym start.requires.1.1))

returns-2 : tie.Need-returns
returns-2 c =
    let start = c.before.before.before.before in
    let a = start.args in
    let e = ends-behind a.msb a.part.now a.count start.requires.0 start.requires.1.0 (sym (space c.before) ∙ c.if-is_run-count.false) in
    (e.these, (e.near, e.counted ∙ sym start.requires.1.1))

pub words_end_spec : {M : Type 1} → statement M
words_end_spec =
    tie.close
    (tie.spec
    (λ c. search rules)
    (λ c κs. search rules)
    (λ c κs. search rules)
    (λ c. search rules)
    returns
    returns-2)
