-- `weights::judging::count4` meets its contract: the words weigh what is counted. Assumes nothing.
use mathlib.Core.Path.{sym, ap, ◌∙◌}
use mathlib.Core.Bool.{Bool, ◌&&◌}
use native.Mathlib.Omega.{arith}
use borrow.Author.Rules.{rules}
use borrow.Author.Tests.{le-leb, lt-leb}
use lib.Dec.{eqb}
use lib.ListN.{drop, length-drop}
use Rattle.samples.specs.Judging.{most}
use Rattle.weights.specs.declared.Kind.TheVariants.{C32}
use Rattle.weights.specs.inner.Weights.{weight_at}
use Rattle.weights.proofs.Judged.{fine-wide, eqb-turned}
use Rattle.weights.proofs.judging.count4.Statement.{statement}
use Rattle.weights.proofs.judging.count4.Tie as tie

returns : tie.Need-returns-then-count-gt-MOST
returns c =
    let s = c.before.before.before in
    let a = s.args in
    sym (fine-wide a.msb a.count a.n (drop a.from a.file.now) (simp length-drop (omega (arith, s.requires.1.0)))
    ∙ ap (λ (b : Bool). b && eqb a.count (weight_at C32 a.msb a.file.now a.from a.n))
    (lt-leb a.count most c.if-count-gt-MOST.true))

returns-2 : tie.Need-returns
returns-2 c =
    let s = c.before.before.before.before in
    let a = s.args in
    eqb-turned c.between.result a.count
    ∙ ap (eqb a.count) c.between.ensures
    ∙ sym (fine-wide a.msb a.count a.n (drop a.from a.file.now) (simp length-drop (omega (arith, s.requires.1.0)))
    ∙ ap (λ (b : Bool). b && eqb a.count (weight_at C32 a.msb a.file.now a.from a.n))
    (le-leb a.count most c.if-count-gt-MOST.false))

pub count4_spec : {M : Type 1} → statement M
count4_spec = tie.close (tie.spec
    returns
    (λ c κs. search rules)
    returns-2)
